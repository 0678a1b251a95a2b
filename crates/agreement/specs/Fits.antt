-- What `classify` lets through: the forms that can be lifted to sorted nodes, each of its first operand
use Rattle.std.specs.Prelude.{◌≡◌, Bool, true, false, ◌&&◌, ◌||◌, ℕ, ◌+◌, ◌*◌, ◌^◌, leb, ltb, eqb, get_or}
use Rattle.std.proofs.Common.{eqb-true}
use Rattle.forms.specs.declared.MemFormat.{MemFormat}
use Rattle.forms.specs.declared.MemFormat.TheVariants.{Float, Integer}
use Rattle.forms.specs.declared.ArithSrc.{ArithSrc}
use Rattle.forms.specs.declared.ArithSrc.TheVariants.{Slot, Memory}
use Rattle.forms.specs.declared.Operand.{Operand}
use Rattle.forms.specs.declared.Instruction.{Instruction}
use Rattle.forms.specs.Operands.{no_operand}
use Rattle.forms.specs.declared.Form.{Form}
use Rattle.forms.specs.declared.Form.TheVariants.{PushConst, PushMemory, PushSlot, StoreMemory, StoreSlot, Arith, CompareStatus, CompareFlags, ConditionalMove, StoreStatus, Exchange, Unary}
use Rattle.words.specs.Tests.{and_l}
use Rattle.sorts.specs.Sorts.{is_word}
pub mod Classified

-- Memory holds floats of 32, 64 and 80 bits, and integers of 16, 32 and 64
unfoldable pub memory_fits : ℕ → MemFormat → Bool
memory_fits width Float = (eqb width 32 || eqb width 64) || eqb width 80
memory_fits width Integer = is_word width

-- The first operand of an instruction, which a lift reads and writes
abbrev pub first_of : Instruction → Operand
first_of i = get_or i.operands 0 no_operand

-- The operand is memory of this width
unfoldable pub is_memory : Operand → ℕ → Bool
is_memory o width = eqb o.kind 1 && eqb o.width width

-- .. and so no register
pub no_register : (o : Operand) (width : ℕ) → is_memory o width ≡ true → eqb o.kind 0 ≡ false
unfolding is_memory
no_register o width h = rw (eqb-true o.kind 1 (and_l (eqb o.kind 1) (eqb o.width width) h))

unfoldable pub source_fits : Operand → ArithSrc → Bool
source_fits o (Slot i) = leb i 7
source_fits o (Memory width format) = memory_fits width format && is_memory o width

-- Places are 0 to 7, a constant has 79 bits, what is read from memory or written to it has the operand's width,
-- and a status store is to a register or to memory of 16 bits
unfoldable pub form_fits : Operand → Form → Bool
form_fits o (PushConst low high) = ltb (high * 2 ^ 64 + low) (2 ^ 79)
form_fits o (PushMemory width format) = memory_fits width format && is_memory o width
form_fits o (PushSlot i) = leb i 7
form_fits o (StoreMemory width format pop rounding) = memory_fits width format && is_memory o width
form_fits o (StoreSlot i pop) = leb i 7
form_fits o (Arith op dst src reversed pop) = leb dst 7 && source_fits o src
form_fits o (CompareStatus src pops) = source_fits o src
form_fits o (CompareFlags i pop) = leb i 7
form_fits o (ConditionalMove i condition) = leb i 7
form_fits o StoreStatus = eqb o.kind 0 || is_memory o 16
form_fits o (Exchange i) = leb i 7
form_fits o (Unary op) = true
