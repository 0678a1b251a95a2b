-- The run over a whole input: its records are lifted one after the other, up to the end mark or to the first refusal.
use Rattle.std.specs.Prelude.{◌≡◌, cond, List, Option, Some, None, ℕ, zero, suc, leb, length}
use Rattle.lists.specs.Rows.{wrote}
use Rattle.lists.specs.Steps.{Built}
use Rattle.lists.specs.Stack.{fresh}
use Rattle.lists.specs.declared.State.{State}
use Rattle.forms.specs.declared.Instruction.{Instruction}
use Rattle.records.specs.Format.{taken_at}
use Rattle.records.specs.Numbers.{refusal_of}
use Rattle.records.specs.Reading.{Reading, got, bad}
use Rattle.lifter.specs.Lift.{lift_of}
use Rattle.listing.specs.declared.Stop.{Stop}

-- what a run has come to, and what its lists hold
pub record Ran : Type 0 where
  pub run : Stop
  pub nodes : List ℕ
  pub statements : List ℕ

-- a run that a refusal stopped
abbrev pub refused_at : State → ℕ → ℕ → Stop
refused_at s number place = record { state = s; refused = Some (record { number = number; place = place }) }

abbrev pub ended : Stop → List ℕ → List ℕ → Ran
ended stop n m = record { run = stop; nodes = n; statements = m }

-- at the end mark and at a reader's refusal the run ends; behind a record it goes on
abbrev pub after : Reading (Option Instruction) → State → List ℕ → List ℕ → (Instruction → ℕ → Ran) → Ran
after (got (Some i) next) s n m on = on i next
after (got None next) s n m on = ended (record { state = s; refused = None }) n m
after (bad r place) s n m on = ended (refused_at s (refusal_of r) place) n m

-- the lift of the record at a place: its refusal ends the run there
abbrev pub lifted : Built → List ℕ → List ℕ → ℕ → (State → List ℕ → List ℕ → Ran) → Ran
lifted b n m at on = cond (leb b.val 2) (on b.st (wrote n b.ns) (wrote m b.ss)) (ended (refused_at b.st b.val at) (wrote n b.ns) (wrote m b.ss))

-- at most k records from a place on; no input has more records than bytes
unfoldable pub run_from : ℕ → List ℕ → ℕ → State → List ℕ → List ℕ → Ran
run_from zero input at s n m = ended (refused_at s 12 (length input)) n m
run_from (suc k) input at s n m = after (taken_at input at) s n m (λ i next. lifted (lift_of s i n m) n m at (λ s n m. run_from k input next s n m))

-- 13 where the input is over 16,384 bytes
unfoldable pub run_of : List ℕ → List ℕ → List ℕ → Ran
run_of input n m = cond (leb (length input) 16384) (run_from (length input) input 0 fresh n m) (ended (refused_at fresh 13 0) n m)

-- what `run` gives back and leaves
pub record Runs (x : Ran) (r : Stop) (n m : List ℕ) : Type 0 where
  pub run : r ≡ x.run
  pub nodes : n ≡ x.nodes
  pub statements : m ≡ x.statements
