-- What the columns and the check say of the outcome.
use mathlib.Core.Bool.{and-false}
use mathlib.Core.Path.{◌≡◌, refl, sym, ◌∙◌, ap}
use mathlib.Core.List.{List}
use Prim.Native.Nat.{ℕ, ◌/◌, ◌≤◌, ◌<◌}
use lib.ListN.{length}
use borrow.Author.Tests.{le-leb, lt-leb}
use Rattle.sorts.specs.Check.{check_of}
use Rattle.sorts.specs.declared.CheckError.{CheckError}
use Rattle.std.specs.Prelude.{Result, Ok, Err, IsErrAnd}
use Rattle.evaluator.specs.Lists.{wide_from}
use Rattle.evaluator.specs.Outcome.{after, outcome_of, column_after}
use Rattle.evaluator.specs.declared.EvalError.{EvalError}
use Rattle.evaluator.specs.declared.EvalError.TheVariants.{Room}

module _ (w g : List ℕ) (n m : ℕ) where
  pub no-given : length g / 2 < n → outcome_of w n g m ≡ Err Room
  unfolding outcome_of
  no-given h = simp (lt-leb n (length g / 2) h)

  pub no-column : m / 2 < n → outcome_of w n g m ≡ Err Room
  unfolding outcome_of
  no-column h = simp (lt-leb n (m / 2) h, and-false)

  -- with columns long enough, what the check says
  pub ended : (v x : Result Unit CheckError) → n ≤ length g / 2 → n ≤ m / 2 → v ≡ check_of w n → v ≡ x → outcome_of w n g m ≡ after x (wide_from w g 0 n)
  unfolding outcome_of
  ended v x hg hm e p =
      rw (le-leb n (length g / 2) hg, le-leb n (m / 2) hm) (ap (λ (y : Result Unit CheckError). after y (wide_from w g 0 n)) (sym e ∙ p))

-- what an evaluation that is refused says, and that its column is as it was
pub stopped : (w g l : List ℕ) (n : ℕ) (r o : Result Unit EvalError) (e : EvalError) → IsErrAnd r (λ x. x ≡ e) → o ≡ Err e → (r ≡ o) × (l ≡ column_after r w n g l)
stopped w g l n (Ok u) o e h p = absurd h
stopped w g l n (Err x) o e h p = (ap Err h ∙ sym p, refl)
