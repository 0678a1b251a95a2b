-- A text is read where there is a word to tell the answer in.
use mathlib.Core.Path.{◌≡◌, refl, sym, ◌∙◌}
use Prim.Native.Nat.{ℕ, ◌≤◌, ◌<◌}
use Rattle.std.specs.Prelude.{Result}
use mathlib.Core.List.{List, [], ◌∷◌}
use borrow.Author.Tests.{le-leb, lt-leb}
use lib.ListN.{length}
use Rattle.viable.specs.Grammar.{clash}
use Rattle.smtreader.specs.Text as smtreader
use Rattle.smtreader.specs.Numbers.{number_of, place_of}
use Rattle.smtreader.specs.declared.ReadError.{ReadError}
use Rattle.answers.specs.Refusal.{told_of, count_or}
use Rattle.export.specs.Flat.{laid}
use Rattle.export.specs.Texts.{read_said, ReadsText}
use Rattle.export.proofs.Calls.{tells}

module _ {x nodes out : List ℕ} where
  pub answered : {r p : ℕ} {nodes_left out_left : List ℕ} → 1 ≤ length out → (a : Result ℕ ReadError) → smtreader.ReadsText x nodes a nodes_left
      → r ≡ told_of number_of a → p ≡ count_or place_of a → out_left ≡ laid out 0 (p ∷ []) → ReadsText x nodes out r nodes_left out_left
  answered h a f n p e = record {
    answered = λ _. record { says = a; read = f; told = tells 1 (read_said a) out h n (rw p at e) };
    short = λ k. clash (sym k ∙ le-leb _ _ h);
  }

  pub unanswered : length out < 1 → ReadsText x nodes out 10 nodes out
  unanswered h = record { answered = λ e. clash (sym (lt-leb _ _ h) ∙ e); short = λ _. (refl, refl, refl) }
