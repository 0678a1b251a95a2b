-- The numbers of what stands at a place, the place that is told with it, and whether it is a record: the manual, section 7.
use Rattle.std.specs.Prelude.{Bool, true, false, ℕ, Option, Some, None}
use Rattle.forms.specs.declared.Instruction.{Instruction}
use Rattle.records.specs.Reading.{Reading, got, bad}
use Rattle.records.specs.declared.Refusal.{Refusal}
use Rattle.records.specs.declared.Refusal.TheVariants.{BadText, BadOperand, BadMark, Short}

abbrev pub refusal_of : Refusal → ℕ
refusal_of BadText = 3
refusal_of BadOperand = 4
refusal_of BadMark = 11
refusal_of Short = 12

abbrev pub number_of : {A : Type 0} → Reading A → ℕ
number_of (got v n) = 0
number_of (bad r p) = refusal_of r

-- the next place, or the offending one
abbrev pub place_of : {A : Type 0} → Reading A → ℕ
place_of (got v n) = n
place_of (bad r p) = p

-- a record was read
abbrev pub record_is : Reading (Option Instruction) → Bool
record_is (got (Some i) n) = true
record_is (got None n) = false
record_is (bad r p) = false
