-- What `x87_lift` and `x87_lift_record` answer, tell and leave: one instruction lifted, from its bytes or from its record.
use Rattle.std.specs.Prelude.{cond, Option, Some, None, List, [], ◌∷◌, ℕ, leb}
use Rattle.forms.specs.declared.Instruction.{Instruction}
use Rattle.records.specs.Numbers.{refusal_of}
use Rattle.records.specs.Reading.{Reading, got, bad}
use Rattle.export.specs.Flat.{at_least}
use Rattle.export.specs.Answers.{Said, Tells}
use Rattle.export.specs.Lifts.{Lifts, Lifted, lifted_in, lifted_of, unchanged}

-- what the lift gives, and the words beside it
pub record Stepped : Type 0 where
  pub lifted : Lifted
  pub told : List ℕ

-- an instruction's bytes: the detail is told
unfoldable pub called_of : List ℕ → List ℕ → List ℕ → List ℕ → Stepped
called_of flat s n t = record { lifted = lifted_of flat s n t; told = (lifted_of flat s n t).detail ∷ [] }

-- a record: the next place, 1 and the detail; where it was refused, the record's own place and zeros
unfoldable pub told_of : ℕ → ℕ → ℕ → ℕ → List ℕ
told_of answer detail next at = cond (leb answer 2) (next ∷ 1 ∷ detail ∷ []) (at ∷ 0 ∷ 0 ∷ [])

-- a record is lifted; at the end mark and beside a reader's refusal nothing is
unfoldable pub step_of : Reading (Option Instruction) → ℕ → List ℕ → List ℕ → List ℕ → Stepped
step_of (got (Some i) next) at s n t =
    record { lifted = lifted_in i s n t; told = told_of (lifted_in i s n t).answer (lifted_in i s n t).detail next at }
step_of (got None next) at s n t = record { lifted = unchanged 0 s n t; told = next ∷ 0 ∷ 0 ∷ [] }
step_of (bad r place) at s n t = record { lifted = unchanged (refusal_of r) s n t; told = place ∷ 0 ∷ 0 ∷ [] }

-- 10 and zeros where the state has no 13 words
unfoldable pub stepped_of : Reading (Option Instruction) → ℕ → List ℕ → List ℕ → List ℕ → Stepped
stepped_of x at s n t = cond (at_least 13 s) (step_of x at s n t) (record { lifted = unchanged 10 s n t; told = 0 ∷ 0 ∷ 0 ∷ [] })

abbrev pub said_of : Stepped → Said
said_of x = record { number = x.lifted.answer; words = x.told }

-- what a call that has k words to tell answers, tells and leaves
pub record Steps (k : ℕ) (x : Stepped) (s n t out : List ℕ) (r : ℕ) (s' n' t' left : List ℕ) : Type 0 where
  pub told : Tells k (said_of x) out r left
  pub lifts : Lifts (cond (at_least k out) x.lifted (unchanged 10 s n t)) r s' n' t'
