-- What calls of `x87_lift` and `x87_lift_record` hand over and leave, as theorem 13 (proofs/Calls) speaks of them.
use Rattle.std.specs.Prelude.{cond, Option, Some, None, ℕ}
use mathlib.Core.List.{List, [], ◌∷◌, ◌++◌}
use Rattle.forms.specs.declared.Instruction.{Instruction}
use Rattle.records.specs.Format.{taken_at}
use Rattle.records.specs.Reading.{Reading, got, bad}
use Rattle.export.specs.Flat.{insn_of, at_least}
use Rattle.export.specs.Lifts.{state_in, Lifted, unchanged}
use Rattle.export.specs.Steps.{called_of, stepped_of}
use Rattle.agreement.specs.Runs.{Held}

-- A call: `x87_lift` on some bytes, or `x87_lift_record` on an input, at a place, each with some words lent for what it tells
pub data Call : Type 0 where
  lift : List ℕ → List ℕ → Call
  lift_record : List ℕ → ℕ → List ℕ → Call

-- What is lent from call to call: the state's words, the nodes' and the statements'
pub record Words : Type 0 where
  pub state : List ℕ
  pub nodes : List ℕ
  pub statements : List ℕ

-- What a call answers and leaves, as it promises
unfoldable pub promised : Words → Call → Lifted
promised w (lift flat out) =
    cond (at_least 1 out) (called_of flat w.state w.nodes w.statements).lifted (unchanged 10 w.state w.nodes w.statements)
promised w (lift_record input at out) =
    cond (at_least 3 out) (stepped_of (taken_at input at) at w.state w.nodes w.statements).lifted (unchanged 10 w.state w.nodes w.statements)

unfoldable pub made : Words → Call → Words
made w c = let x = promised w c in record { state = x.state; nodes = x.nodes; statements = x.statements }

-- Any number of calls, one after the other
unfoldable pub makes : Words → List Call → Words
makes w [] = w
makes w (c ∷ cs) = makes (made w c) cs

-- The instruction that a call hands to the lifter, if it hands one over
abbrev pub recorded : Reading (Option Instruction) → List Instruction
recorded (got (Some i) next) = i ∷ []
recorded (got None next) = []
recorded (bad r p) = []

unfoldable pub handed : Call → List Instruction
handed (lift flat out) = cond (at_least 1 out) (cond (at_least 177 flat) (insn_of flat ∷ []) []) []
handed (lift_record input at out) = cond (at_least 3 out) (recorded (taken_at input at)) []

unfoldable pub all_handed : List Call → List Instruction
all_handed [] = []
all_handed (c ∷ cs) = handed c ++ all_handed cs

-- The state that stands in the words, and the lists
abbrev pub in_hand : Words → Held
in_hand w = record { st = state_in w.state; nodes = w.nodes; statements = w.statements }
