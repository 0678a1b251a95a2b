-- The format of a record: the manual, section 8.
use Rattle.std.specs.Prelude.{Bool, cond, Option, Some, None, List, [], ◌∷◌, ◌++◌, ℕ, zero, suc, ◌-◌, eqb, ltb, length, replicate}
use Rattle.texts.specs.declared.Text.{Text}
use Rattle.forms.specs.declared.Operand.{Operand}
use Rattle.forms.specs.declared.Instruction.{Instruction}
use Rattle.records.specs.Reading.{Reading, got, bad, ◌▹◌, limited_at, either_at, number_at}
use Rattle.records.specs.declared.Refusal.TheVariants.{BadText, BadOperand, BadMark}

-- n bytes, none over 127
unfoldable pub letters_at : ℕ → List ℕ → ℕ → Reading (List ℕ)
letters_at zero s at = got [] at
letters_at (suc n) s at = limited_at 127 BadText s at ▹ λ b next. letters_at n s next ▹ λ l end. got (b ∷ l) end

-- the bytes of a text, 0 past its length
abbrev pub text_of : ℕ → List ℕ → Text
text_of n l = record { bytes = l ++ replicate (32 - n) 0; len = n }

-- a length of at most 32, then as many bytes
unfoldable pub text_at : List ℕ → ℕ → Reading Text
text_at s at = limited_at 32 BadText s at ▹ λ n next. letters_at n s next ▹ λ l end. got (text_of n l) end

abbrev pub no_text : Text
no_text = record { bytes = replicate 32 0; len = 0 }

-- what an operand does not carry is 0
abbrev pub register : Text → Operand
register t = record { kind = 0; text = t; width = 0; known = 0; address = 0; slot = 0 }

abbrev pub memory : ℕ → ℕ → ℕ → ℕ → Operand
memory w k a n = record { kind = 1; text = no_text; width = w; known = k; address = a; slot = n }

abbrev pub other : Operand
other = record { kind = 2; text = no_text; width = 0; known = 0; address = 0; slot = 0 }

-- an operand that a record does not carry
abbrev pub absent : Operand
absent = register no_text

unfoldable pub register_at : List ℕ → ℕ → Reading Operand
register_at s at = text_at s at ▹ λ t end. got (register t) end

-- width 2 bytes, known 1, address number 4, slot 4
unfoldable pub memory_at : List ℕ → ℕ → Reading Operand
memory_at s at =
    number_at 2 s at ▹ λ w n. limited_at 1 BadOperand s n ▹ λ k n. number_at 4 s n ▹ λ a n. number_at 4 s n ▹ λ t n.
    got (memory w k a t) n

-- a kind of at most 2, then what it carries
unfoldable pub operand_at : List ℕ → ℕ → Reading Operand
operand_at s at =
    limited_at 2 BadOperand s at ▹ λ k n. cond (eqb k 0) (register_at s n) (cond (eqb k 1) (memory_at s n) (got other n))

-- an operand that stands there or not
unfoldable pub present_at : Bool → List ℕ → ℕ → Reading Operand
present_at b s at = cond b (operand_at s at) (got absent at)

-- all zeros: what stands for an instruction where none is read
abbrev pub no_instruction : Instruction
no_instruction = record { operands = absent ∷ absent ∷ absent ∷ []; count = 0; mnemonic = no_text; address = 0 }

-- address, mnemonic, operand count, operands
unfoldable pub record_at : List ℕ → ℕ → Reading (Option Instruction)
record_at s at =
    number_at 8 s at ▹ λ a n. text_at s n ▹ λ m n. limited_at 3 BadOperand s n ▹ λ k n.
    present_at (ltb 0 k) s n ▹ λ x n. present_at (ltb 1 k) s n ▹ λ y n. present_at (ltb 2 k) s n ▹ λ z n.
    got (Some (record { operands = x ∷ y ∷ z ∷ []; count = k; mnemonic = m; address = a })) n

-- nothing stands behind the end mark
unfoldable pub end_at : List ℕ → ℕ → Reading (Option Instruction)
end_at s n = cond (eqb n (length s)) (got None n) (bad BadMark n)

-- what is taken at a place: mark 87 49 and a record, or 87 45 and the end
unfoldable pub taken_at : List ℕ → ℕ → Reading (Option Instruction)
taken_at s at =
    either_at 0x87 0x87 s at ▹ λ _ n. either_at 0x49 0x45 s n ▹ λ b n. cond (eqb b 0x49) (record_at s n) (end_at s n)
