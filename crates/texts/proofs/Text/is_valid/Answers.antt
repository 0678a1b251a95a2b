use Rattle.std.proofs.Common.{rules, tests, ◌∙◌, ◌&&◌, refl, le-leb}
use Rattle.std.proofs.lemmas.Iterator.{YieldsList-from_slice}
use Rattle.std.proofs.lemmas.Iterator.Search.{all_from_yields_List}
use Rattle.std.proofs.lemmas.List.Recursion.{same_from_clauses}
use Rattle.std.specs.List.{list_all}
use borrow.Author.Tests.{lt-leb}
use Rattle.texts.specs.Bytes.{all, ascii_is, valid_of}
use Rattle.texts.proofs.Text.is_valid.Goals as goal

pub returns-then-self-le32 : goal.returns-then-self-le32
unfolding valid_of
returns-then-self-le32 c =
    let passed =
    all_from_yields_List ascii_is _ _ c.all.result c.all.ensures.ran (YieldsList-from_slice c.as_bytes.result.now cc) (λ x b q k. search (rules, tests)) in
    rw (le-leb _ _ c.if-self-le32.true, ← c.as_bytes.ensures) (passed ∙ same_from_clauses (list_all ascii_is) (all ascii_is) (λ b r. ascii_is b && r) refl (λ _ _. refl) (λ _ _. refl) c.as_bytes.result.now)

pub returns-else-self-le32 : goal.returns-else-self-le32
unfolding valid_of
returns-else-self-le32 c = rw (lt-leb _ _ c.if-self-le32.false)
