-- The lift of one instruction, with its refusals
use Rattle.std.specs.Prelude.{◌≡◌, cond, List, ℕ, leb, length, Result, Ok, Err}
use Rattle.lists.specs.Rows.{room_of}
use Rattle.lists.specs.Steps.{Built, gives, Does}
use Rattle.lists.specs.Valid.{valid_of}
use Rattle.lists.specs.declared.State.{State}
use Rattle.lists.specs.declared.LiftCtx.{LiftCtx}
use Rattle.forms.specs.Classify.{classify_of}
use Rattle.forms.specs.declared.Instruction.{Instruction}
use Rattle.forms.specs.Classify.{Classified}
use Rattle.std.specs.Prelude.{Some, None}
use Rattle.forms.specs.declared.BadInstruction.TheVariants as bad
use Rattle.details.specs.Why.{why_of, beside_of, detail_of}
use Rattle.memory.specs.Site.{site_of}
use Rattle.lifter.specs.Apply.{apply_x87_of}
use Rattle.moves.specs.Pushes.{decline_x87_of}
use Rattle.memory.specs.declared.Site.{Site}
use Rattle.lifter.specs.declared.Lifted.{Lifted}
use Rattle.lifter.specs.declared.Lifted.TheVariants as lifted
use Rattle.lifter.specs.declared.Refusal.{Refusal}
use Rattle.lifter.specs.declared.Refusal.TheVariants as refusal

-- What an instruction comes to over lists of any length: 0 or 2, 1 with this detail, 3, 4
unfoldable pub lowered_of : State → Classified → ℕ → Site → Built
lowered_of s (Ok (Some form)) detail site = apply_x87_of s form site
lowered_of s (Ok None) detail site = decline_x87_of s 1 site.address detail
lowered_of s (Err bad.Text) detail site = gives s 3
lowered_of s (Err bad.Operands) detail site = gives s 4

-- Nothing is done where the whole does not fit: 6 for the nodes, 7 for the statements
unfoldable pub fitting_of : Built → State → List ℕ → List ℕ → Built
fitting_of b s nodes statements =
    cond (leb b.st.nodes (room_of (length nodes)))
    (cond (leb b.st.statements (room_of (length statements))) b (gives s 7))
    (gives s 6)

-- Nor where the state is not valid: 5
abbrev pub placed_of : State → Classified → ℕ → Site → List ℕ → List ℕ → Built
placed_of s classified detail site nodes statements =
    cond (valid_of s (room_of (length nodes)) (room_of (length statements)))
    (fitting_of (lowered_of s classified detail site) s nodes statements)
    (gives s 5)

unfoldable pub lift_of : State → Instruction → List ℕ → List ℕ → Built
lift_of s insn nodes statements = placed_of s (classify_of insn) (why_of insn) (site_of insn) nodes statements

-- The number of what a lift came to, and the detail that stands in it
abbrev pub number_of : Result Lifted Refusal → ℕ
number_of (Ok lifted.Modelled) = 0
number_of (Ok (lifted.Declined detail)) = 1
number_of (Ok lifted.Overflowed) = 2
number_of (Err refusal.BadText) = 3
number_of (Err refusal.BadOperands) = 4
number_of (Err refusal.BadState) = 5
number_of (Err refusal.NodesFull) = 6
number_of (Err refusal.StatementsFull) = 7

abbrev pub detail_in : Result Lifted Refusal → ℕ
detail_in (Ok lifted.Modelled) = 0
detail_in (Ok (lifted.Declined detail)) = detail
detail_in (Ok lifted.Overflowed) = 0
detail_in (Err r) = 0

-- What is promised of a step whose answer may hold this detail
pub record Lowers (b : Built) (detail : ℕ) (old new : LiftCtx) (outcome : Result Lifted Refusal) : Type 0 where
  pub does : Does b old new (number_of outcome)
  pub detail-is : detail_in outcome ≡ beside_of (number_of outcome) detail

-- What a call of lift promises of its step: the number, the state and both lists, and the detail
pub record Lifts (b : Built) (insn : Instruction) (old new : LiftCtx) (outcome : Result Lifted Refusal) : Type 0 where
  pub does : Does b old new (number_of outcome)
  pub detail-is : detail_in outcome ≡ detail_of (number_of outcome) insn
