-- What an instruction touches beyond the registers that its operands name.
use Rattle.std.specs.Prelude.{Bool, true, false, eqb, get_or, Option, Some, None, Result, Ok, Err}
use Rattle.forms.specs.Operands.{no_operand}
use Rattle.forms.specs.Classify.{Classified, classify_of}
use Rattle.forms.specs.declared.Instruction.{Instruction}
use Rattle.forms.specs.declared.Form.{Form}
use Rattle.forms.specs.declared.Form.TheVariants.{PushConst, PushMemory, PushSlot, StoreMemory, StoreSlot, Arith, CompareStatus, CompareFlags, ConditionalMove, StoreStatus, Exchange, Unary}
use Rattle.forms.specs.declared.BadInstruction.{BadInstruction}
use Rattle.forms.specs.declared.Effect.{Effect}

-- the whole stack, both defined and used; besides it the status word or the flags are defined, or the flags are read
abbrev pub stack_of : Bool → Bool → Bool → Effect
stack_of status flags reads =
    record { defines_stack = true; defines_status = status; uses_stack = true; uses_status = false; defines_flags = flags; reads_flags = reads; writes_ax = false }

-- a status store uses the status word, defines neither, and writes `ax` if its operand is a register
abbrev pub status_of : Bool → Effect
status_of register =
    record { defines_stack = false; defines_status = false; uses_stack = false; uses_status = true; defines_flags = false; reads_flags = false; writes_ax = register }

abbrev pub touched_of : Form → Bool → Effect
touched_of (PushConst low high) r = stack_of false false false
touched_of (PushMemory w f) r = stack_of false false false
touched_of (PushSlot i) r = stack_of false false false
touched_of (StoreMemory w f pop m) r = stack_of false false false
touched_of (StoreSlot i pop) r = stack_of false false false
touched_of (Arith op d s rev pop) r = stack_of false false false
touched_of (CompareStatus s p) r = stack_of true false false
touched_of (CompareFlags s pop) r = stack_of false true false
touched_of (ConditionalMove s k) r = stack_of false false true
touched_of StoreStatus r = status_of r
touched_of (Exchange i) r = stack_of false false false
touched_of (Unary op) r = stack_of false false false

abbrev pub Affected : Type 0
Affected = Result (Option Effect) BadInstruction

abbrev pub affected_of : Classified → Bool → Affected
affected_of (Ok (Some f)) r = Ok (Some (touched_of f r))
affected_of (Ok None) r = Ok None
affected_of (Err e) r = Err e

unfoldable pub effect_of : Instruction → Affected
effect_of i = affected_of (classify_of i) (eqb (get_or i.operands 0 no_operand).kind 0)
