-- The instructions that an input's records spell, and those of them that a run takes, as theorem 8 (proofs/Program) speaks of them.
use Rattle.std.specs.Prelude.{cond, Option, Some, None, List, [], ◌∷◌, ℕ, zero, suc, leb, length}
use Rattle.forms.specs.declared.Instruction.{Instruction}
use Rattle.records.specs.Format.{taken_at}
use Rattle.records.specs.Reading.{Reading, got, bad}
use Rattle.listing.specs.Run.{Ran}
use Rattle.agreement.specs.Runs.{Held, called, answered}

-- What stands after a run over an input
abbrev pub held : Ran → Held
held x = record { st = x.run.state; nodes = x.nodes; statements = x.statements }

-- An instruction, and those that the records behind it spell; none at the end mark and at a reader's refusal
abbrev pub spelled : Reading (Option Instruction) → (ℕ → List Instruction) → List Instruction
spelled (got (Some i) next) on = i ∷ on next
spelled (got None next) on = []
spelled (bad r p) on = []

-- The instructions that at most k records from a place on spell
unfoldable pub records_from : ℕ → List ℕ → ℕ → List Instruction
records_from zero input at = []
records_from (suc k) input at = spelled (taken_at input at) (records_from k input)

-- The instructions that an input's records spell, up to the end mark or the reader's first refusal; no input has more records than bytes, and one that is too long has none
unfoldable pub records_of : List ℕ → List Instruction
records_of input = cond (leb (length input) 16384) (records_from (length input) input 0) []

-- Those before the first one that the lifter refuses
unfoldable pub taken : Held → List Instruction → List Instruction
taken h [] = []
taken h (i ∷ is) = cond (leb (answered h i) 2) (i ∷ taken (called h i) is) []
