-- The flat layout of an instruction: 177 bytes, low byte first. Address 0 to 8; mnemonic length at 8, its text 9 to 41; operand count at 41; three operands at 42, 87 and 132.
use Rattle.std.specs.Prelude.{Bool, List, [], ◌∷◌, ◌++◌, ℕ, ◌+◌, leb, length, take, drop, get_or}
use Rattle.std.proofs.lemmas.List.Edits.{sets}
use Rattle.words.specs.Bytes.{number_in, bytes_of}
use Rattle.texts.specs.declared.Text.{Text}
use Rattle.forms.specs.Operands.{no_operand}
use Rattle.forms.specs.declared.Operand.{Operand}
use Rattle.forms.specs.declared.Instruction.{Instruction}

-- a length, then 32 bytes
abbrev pub text_in : List ℕ → ℕ → Text
text_in l p = record { bytes = take 32 (drop (p + 1) l); len = get_or l p 0 }

-- kind, text, width (2 bytes), known, address number (4), slot (4): 45 bytes
unfoldable pub operand_in : List ℕ → ℕ → Operand
operand_in l p =
    record {
      kind = get_or l p 0;
      text = text_in l (p + 1);
      width = number_in l (p + 34) 2;
      known = get_or l (p + 36) 0;
      address = number_in l (p + 37) 4;
      slot = number_in l (p + 41) 4;
    }

-- the instruction that stands in the first 177 bytes
unfoldable pub insn_of : List ℕ → Instruction
insn_of l =
    record {
      operands = operand_in l 42 ∷ operand_in l 87 ∷ operand_in l 132 ∷ [];
      count = get_or l 41 0;
      mnemonic = text_in l 8;
      address = number_in l 0 8;
    }

-- a list has k entries or more
abbrev pub at_least : ℕ → List ℕ → Bool
at_least k l = leb k (length l)

-- a list with vs stored from place i on
unfoldable pub laid : List ℕ → ℕ → List ℕ → List ℕ
laid l i vs = sets l i vs

unfoldable pub text_flat : Text → List ℕ
text_flat t = bytes_of 1 t.len ++ t.bytes

unfoldable pub memory_flat : Operand → List ℕ
memory_flat o = bytes_of 2 o.width ++ bytes_of 1 o.known ++ bytes_of 4 o.address ++ bytes_of 4 o.slot

unfoldable pub operand_flat : Operand → List ℕ
operand_flat o = bytes_of 1 o.kind ++ text_flat o.text ++ memory_flat o

-- one of the three operands
abbrev pub operand_of : Instruction → ℕ → Operand
operand_of i k = get_or i.operands k no_operand

-- the 177 bytes of an instruction
unfoldable pub flat_of : Instruction → List ℕ
flat_of i =
    bytes_of 8 i.address ++ (text_flat i.mnemonic ++ (bytes_of 1 i.count
    ++ (operand_flat (operand_of i 0) ++ (operand_flat (operand_of i 1) ++ operand_flat (operand_of i 2)))))
