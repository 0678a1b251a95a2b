-- THEOREM 8: WHAT THE PROGRAM LISTS IS THE RUN OF ITS RECORDS.
-- Whatever bytes `x87lift` is given, it comes to the state and the lists that the input's records come to, lifted one after the other
-- from the fresh state, up to the end mark or the first refusal. So the theorems on runs hold of its listing:
-- the nodes pass the sort check and evaluate, each place has its width, and no formula reaches across a decline.
-- And over its 1,024 nodes and 256 statements no listing is longer than its 139,264 bytes: it is never left out.
use Rattle.std.specs.Prelude.{◌≡◌, Bool, cond, Option, Some, None, List, [], ◌∷◌, ◌++◌, ℕ, zero, suc, ◌/◌, ◌≤◌, leb, length}
use Rattle.std.proofs.Math.Path.{refl}
use Rattle.std.proofs.Common.{sym, ap, subst, ◌∙◌, arith}
use Rattle.std.proofs.Math.Bool.{true, false}
use Rattle.lists.specs.Rows.{room_of, wrote, length-wrote}
use Rattle.lists.specs.Stack.{fresh}
use Rattle.lists.specs.declared.State.{State}
use Rattle.forms.specs.declared.Instruction.{Instruction}
use Rattle.records.specs.Format.{taken_at}
use Rattle.records.specs.Reading.{Reading, got, bad}
use Rattle.lifter.specs.Lift.{lift_of}
use Rattle.listing.specs.Run.{Ran, refused_at, ended, after, lifted, run_from, run_of}
use Rattle.listing.specs.Listing.{text_of}
use Rattle.listing.specs.Longest.{longest}
use Rattle.evaluator.specs.Within.{GivenFits}
use Rattle.agreement.specs.Runs.{Held, begun, stepped, called, answered, declines, ran, ran_append}
use Rattle.agreement.proofs.Refused.{refused}
use Rattle.agreement.specs.Evaluated.{Evaluated}
use Rattle.agreement.proofs.Evaluated.{sound-evaluated}
use Rattle.agreement.specs.Forgets.{RunForgets}
use Rattle.agreement.proofs.Forgets.{run-forgets}
use Rattle.agreement.specs.Sorted.{Sound}
use Rattle.agreement.proofs.Sorted.{sorted}
use Rattle.agreement.proofs.Tracks.Sorts.{run-tracked}
use Rattle.agreement.specs.Program.{held, spelled, records_from, records_of, taken}

abbrev over : State → List ℕ → List ℕ → Held
over s n m = record { st = s; nodes = n; statements = m }

module _ (s : State) (n m : List ℕ) (at : ℕ) where
  -- the lift goes on, or its refusal ends the run
  by_answer : (i : Instruction) (t : Bool) (x : Ran) (is : List Instruction) → leb (lift_of s i n m).val 2 ≡ t → held x ≡ ran (called (over s n m) i) (taken (called (over s n m) i) is)
      → let b = lift_of s i n m in
      held (cond t x (ended (refused_at b.st b.val at) (wrote n b.ns) (wrote m b.ss))) ≡ ran (over s n m) (cond t (i ∷ taken (called (over s n m) i) is) [])
  unfolding ran called stepped
  by_answer i true x is e h = h
  by_answer i false x is e h = refused (over s n m) i e

  by-taken : (t : Reading (Option Instruction)) (on : ℕ → State → List ℕ → List ℕ → Ran) (is : ℕ → List Instruction)
      → ((p : ℕ) (s' : State) (n' m' : List ℕ) → held (on p s' n' m') ≡ ran (over s' n' m') (taken (over s' n' m') (is p)))
      → held (after t s n m (λ i next. lifted (lift_of s i n m) n m at (on next))) ≡ ran (over s n m) (taken (over s n m) (spelled t is))
  unfolding ran called stepped taken
  by-taken (got (Some i) next) on is h = by_answer i (leb (lift_of s i n m).val 2) _ (is next) refl (h next _ _ _)
  by-taken (got None next) on is h = refl
  by-taken (bad r p) on is h = refl

from : (k : ℕ) (input : List ℕ) (at : ℕ) (s : State) (n m : List ℕ) → held (run_from k input at s n m) ≡ ran (over s n m) (taken (over s n m) (records_from k input at))
unfolding run_from records_from ran taken
from zero input at s n m = refl
from (suc k) input at s n m =
    by-taken s n m at (taken_at input at) (λ next s n m. run_from k input next s n m) (records_from k input) (λ p s n m. from k input p s n m)

started : (t : Bool) (n m : List ℕ) (x : Ran) (is : List Instruction) → held x ≡ ran (begun n m) (taken (begun n m) is)
    → held (cond t x (ended (refused_at fresh 13 0) n m)) ≡ ran (begun n m) (taken (begun n m) (cond t is []))
unfolding ran taken
started true n m x is h = h
started false n m x is h = refl

-- THE RUN
pub listed-run : (input nodes statements : List ℕ) → let h = begun nodes statements in held (run_of input nodes statements) ≡ ran h (taken h (records_of input))
unfolding run_of records_of
listed-run input nodes statements = started (leb (length input) 16384) nodes statements _ _ (from (length input) input 0 fresh nodes statements)

-- .. is sorted
pub listed-sound : (input nodes statements : List ℕ) → Sound (held (run_of input nodes statements))
listed-sound input nodes statements = subst Sound (sym (listed-run input nodes statements)) (sorted nodes statements _)

-- .. evaluates
pub listed-evaluates : (input nodes statements g : List ℕ) (m : ℕ) → let h = held (run_of input nodes statements) in
    h.st.nodes ≤ length g / 2 → h.st.nodes ≤ m / 2 → GivenFits h.nodes g h.st.nodes → Evaluated h g m
listed-evaluates input nodes statements g m p q f = sound-evaluated (held (run_of input nodes statements)) g m (listed-sound input nodes statements) p q f

-- .. and forgets: what it lists behind a record that is declined, where the records before it are these, and those after it these
pub listed-forgets : (input nodes statements : List ℕ) (before : List Instruction) (i : Instruction) (later : List Instruction) → let h = begun nodes statements in
    taken h (records_of input) ≡ before ++ (i ∷ later) → declines (answered (ran h before) i) ≡ true
    → RunForgets (called (ran h before) i) × (held (run_of input nodes statements) ≡ ran (called (ran h before) i) later)
unfolding ran
listed-forgets input nodes statements before i later e d =
    (run-forgets nodes statements before i d, listed-run input nodes statements ∙ ap (ran (begun nodes statements)) e ∙ ran_append (begun nodes statements) before (i ∷ later))

-- no list changes its length
kept : (h : Held) (is : List Instruction) → (length (ran h is).nodes ≡ length h.nodes) × (length (ran h is).statements ≡ length h.statements)
unfolding ran called stepped
kept h [] = (refl, refl)
kept h (i ∷ is) =
    let b = lift_of h.st i h.nodes h.statements in
    let k = kept (called h i) is in
    (k.0 ∙ length-wrote h.nodes b.ns, k.1 ∙ length-wrote h.statements b.ss)

-- no count passes the room of lists of 4,096 and 1,024 words
abbrev Small : Held → Type 0
Small h = (h.st.nodes ≤ 1024) × (h.st.statements ≤ 256)

ran-small : (nodes statements : List ℕ) (is : List Instruction) → length nodes ≡ 4096 → length statements ≡ 1024 → Small (ran (begun nodes statements) is)
unfolding room_of
ran-small nodes statements is e f =
    let k = kept (begun nodes statements) is in
    let t = (run-tracked nodes statements is).tracks in
    (subst (λ (n : ℕ). (ran (begun nodes statements) is).st.nodes ≤ room_of n) (k.0 ∙ e) t.room, subst (λ (n : ℕ). (ran (begun nodes statements) is).st.statements ≤ room_of n) (k.1 ∙ f) t.room')

-- the program lends such lists
pub listed-fits : (input nodes statements : List ℕ) → length nodes ≡ 4096 → length statements ≡ 1024
    → let x = run_of input nodes statements in length (text_of x.nodes x.statements x.run) ≤ 139264
listed-fits input nodes statements e f =
    let y = run_of input nodes statements in
    let s : Small (held y) = subst Small (sym (listed-run input nodes statements)) (ran-small nodes statements _ e f) in
    omega (arith, longest y.nodes y.statements y.run, s.0, s.1)
