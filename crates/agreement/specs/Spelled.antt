-- Instructions by their texts, at address 16
use Rattle.std.specs.Prelude.{◌≡◌, refl, true, [], ◌∷◌, ℕ, length}
use Prim.Native.String as str
use Rattle.texts.specs.Bytes.{bytes, valid_of}
use Rattle.texts.specs.Letters.{cut, trim_of}
use Rattle.texts.specs.declared.Text.{Text}
use Rattle.forms.specs.Operands.{ranged_is, spelled_is, slot_of, width_of}
use Rattle.forms.specs.Names.{names, family_of}
use Rattle.forms.specs.Families.{form_of}
use Rattle.forms.specs.Classify.{classify_of}
use Rattle.forms.specs.declared.Operand.{Operand}
use Rattle.forms.specs.declared.Instruction.{Instruction}
use Rattle.forms.specs.declared.Form.TheVariants.{PushMemory, StoreMemory}
use Rattle.forms.specs.declared.MemFormat.TheVariants.{Float}
use Rattle.forms.specs.declared.RoundingMode.TheVariants.{NearestTiesEven}
use Rattle.std.specs.Prelude.{Some, Ok}
use Rattle.records.specs.Format.{text_of, register, memory, absent}

abbrev text : str.String → Text
text s = text_of (length (bytes s)) (bytes s)

abbrev instruction : str.String → ℕ → Operand → Operand → Instruction
instruction m n a b = record { operands = a ∷ b ∷ absent ∷ []; count = n; mnemonic = text m; address = 16 }

-- a mnemonic without operands, with one register, with two
abbrev pub alone : str.String → Instruction
alone m = instruction m 0 absent absent

abbrev pub at : str.String → str.String → Instruction
at m a = instruction m 1 (register (text a)) absent

abbrev pub at2 : str.String → str.String → str.String → Instruction
at2 m a b = instruction m 2 (register (text a)) (register (text b))

-- with memory of so many bits, known, at an address number and with a slot number
abbrev pub in_memory : str.String → ℕ → ℕ → ℕ → Instruction
in_memory m width address slot = instruction m 1 (memory width 1 address slot) absent

-- .. at address number 7, without a slot number
abbrev pub bits : str.String → ℕ → Instruction
bits m width = in_memory m width 7 0

-- `fld` and `fstp` at 80, wherever their memory is
pub fld-80-is : (address slot : ℕ) → classify_of (in_memory "fld" 80 address slot) ≡ Ok (Some (PushMemory 80 Float))
unfolding classify_of form_of family_of names ranged_is spelled_is slot_of width_of valid_of trim_of cut
fld-80-is address slot = refl

pub fstp-80-is : (address slot : ℕ) → classify_of (in_memory "fstp" 80 address slot) ≡ Ok (Some (StoreMemory 80 Float true NearestTiesEven))
unfolding classify_of form_of family_of names ranged_is spelled_is slot_of width_of valid_of trim_of cut
fstp-80-is address slot = refl
