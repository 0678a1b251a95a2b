-- What a record's reading carries: each number within its bytes, each text of 32 bytes.
use Rattle.std.specs.Prelude.{◌≡◌, Bool, true, false, cond, ◌||◌, Option, Some, None, List, [], ◌∷◌, leb, ltb, length, get_or, replicate}
use Rattle.std.proofs.Math.Path.{refl}
use Rattle.std.proofs.Common.{◌∙◌, ap, pow-suc, arith, leb-true}
use Prim.Native.Nat.{ℕ, zero, suc, ◌+◌, ◌-◌, ◌^◌, ◌<◌}
use Rattle.std.proofs.Math.Dec.{eqb}
use Rattle.std.proofs.Math.ListN.{length-append, length-replicate}
use Rattle.words.specs.Bytes.{number_in}
use Rattle.texts.specs.declared.Text.{Text}
use Rattle.forms.specs.declared.Operand.{Operand}
use Rattle.forms.specs.declared.Instruction.{Instruction}
use Rattle.records.specs.Reading.{Reading, got, bad, ◌▹◌, byte_at, tested_at, limited_at, either_at, number_at}
use Rattle.records.specs.Format.{letters_at, text_at, no_text, register, other, absent, register_at, memory_at, operand_at, present_at, no_instruction, record_at, end_at, taken_at}
use Rattle.records.specs.declared.Refusal.{Refusal}
use Rattle.records.specs.declared.Refusal.TheVariants.{BadText, BadOperand, BadMark, Short}
use Rattle.export.specs.Flat.{operand_of}

-- Each entry is a byte
abbrev pub Bytes : List ℕ → Type 0
Bytes s = (i : ℕ) → get_or s i 0 < 256

pub record TextFits (t : Text) : Type 0 where
  pub long : length t.bytes ≡ 32
  pub len : t.len < 256

pub record OperandFits (o : Operand) : Type 0 where
  pub kind : o.kind < 256
  pub text : TextFits o.text
  pub width : o.width < 256 ^ 2
  pub known : o.known < 256
  pub address : o.address < 256 ^ 4
  pub slot : o.slot < 256 ^ 4

pub record InsnFits (i : Instruction) : Type 0 where
  pub address : i.address < 256 ^ 8
  pub mnemonic : TextFits i.mnemonic
  pub count : i.count < 256
  pub three : i.operands ≡ operand_of i 0 ∷ operand_of i 1 ∷ operand_of i 2 ∷ []
  pub first : OperandFits (operand_of i 0)
  pub second : OperandFits (operand_of i 1)
  pub third : OperandFits (operand_of i 2)

abbrev Value : {A : Type 0} → (A → Type 0) → Reading A → Type 0
Value P (got a n) = P a
Value P (bad r p) = Unit {0}

-- What holds of the value that a reading gives, if it gives one
record Gives {A : Type 0} (P : A → Type 0) (m : Reading A) : Type 0 where
  value : Value P m

module _ {A B : Type 0} (P : A → Type 0) (Q : B → Type 0) where
  after : (m : Reading A) (g : A → ℕ → Reading B) → Gives P m → ((a : A) (n : ℕ) → P a → Gives Q (g a n)) → Gives Q (m ▹ g)
  after (got a n) g h k = k a n h.value
  after (bad r p) g h k = record { value = tt }

module _ {A : Type 0} (P : A → Type 0) where
  either : (b : Bool) (x y : Reading A) → Gives P x → Gives P y → Gives P (cond b x y)
  either true x y h k = h
  either false x y h k = k

  got_lem : (a : A) (n : ℕ) → P a → Gives P (got a n)
  got_lem a n h = record { value = h }

  bad_lem : (r : Refusal) (p : ℕ) → Gives P (bad r p)
  bad_lem r p = record { value = tt }

-- A number that is below k
abbrev Below : ℕ → ℕ → Type 0
Below k v = v < k

abbrev Long : ℕ → List ℕ → Type 0
Long n l = length l ≡ n

abbrev Any : ℕ → Type 0
Any v = Unit {0}

-- the instruction that a reading gives: all zeros at the end mark and beside a refusal
abbrev pub insn_in : Reading (Option Instruction) → Instruction
insn_in (got (Some i) n) = i
insn_in (got None n) = no_instruction
insn_in (bad r p) = no_instruction

-- what is taken fits: a record's instruction does
abbrev TakenFits : Option Instruction → Type 0
TakenFits (Some i) = InsnFits i
TakenFits None = Unit {0}

module _ (s : List ℕ) (b : Bytes s) where
  byte-gives : (at : ℕ) → Gives (Below 256) (byte_at s at)
  unfolding byte_at
  byte-gives at = either (Below 256) (ltb at (length s)) (got (get_or s at 0) (at + 1)) (bad Short (length s)) (got_lem _ _ _ (b at)) (bad_lem _ _ _)

  number-below : (n at : ℕ) → number_in s at n < 256 ^ n
  number-below zero at = omega arith
  number-below (suc n) at =
      let h = b at in
      let k = number-below n (at + 1) in
      rw (pow-suc 256 n) (omega arith)

  number-gives : (n at : ℕ) → Gives (Below (256 ^ n)) (number_at n s at)
  unfolding number_at
  number-gives n at =
      either (Below (256 ^ n)) (leb (at + n) (length s)) (got (number_in s at n) (at + n)) (bad Short (length s)) (got_lem _ _ _ (number-below n at)) (bad_lem _ _ _)

  tested : (m x next at : ℕ) (r : Refusal) (t : Bool) → leb x m ≡ t → Gives (Below (suc m)) (cond t (got x next) (bad r at))
  tested m x next at r true e = let h = leb-true x m e in got_lem _ _ _ (omega arith)
  tested m x next at r false e = bad_lem _ _ _

  limited-gives : (m at : ℕ) (r : Refusal) → Gives (Below (suc m)) (limited_at m r s at)
  unfolding tested_at
  limited-gives m at r = after (Below 256) (Below (suc m)) (byte_at s at) _ (byte-gives at) (λ x next p. tested m x next at r (leb x m) refl)

  mark-gives : (x y at : ℕ) → Gives Any (either_at x y s at)
  unfolding tested_at
  mark-gives x y at =
      after (Below 256) Any (byte_at s at) _ (byte-gives at) (λ v next p.
      either Any (eqb v x || eqb v y) (got v next) (bad BadMark at) (got_lem _ _ _ tt) (bad_lem _ _ _))

  letters-gives : (n at : ℕ) → Gives (Long n) (letters_at n s at)
  unfolding letters_at
  letters-gives zero at = got_lem _ _ _ refl
  letters-gives (suc n) at =
      after (Below 128) (Long (suc n)) (limited_at 127 BadText s at) _ (limited-gives 127 at BadText) (λ x next p.
      after (Long n) (Long (suc n)) (letters_at n s next) _ (letters-gives n next) (λ l end q. got_lem _ _ _ (ap suc q)))

  text-gives : (at : ℕ) → Gives TextFits (text_at s at)
  unfolding text_at
  text-gives at =
      after (Below 33) TextFits (limited_at 32 BadText s at) _ (limited-gives 32 at BadText) (λ n next p.
      after (Long n) TextFits (letters_at n s next) _ (letters-gives n next) (λ l end q.
      got_lem _ _ _ (record {
        long = length-append l (replicate (32 - n) 0) ∙ rw (q, length-replicate {A = ℕ} (32 - n) 0) (omega arith);
        len = omega arith;
      })))

  no_text_fits : TextFits no_text
  no_text_fits = record { long = refl; len = omega arith }

  register-fits : (t : Text) → TextFits t → OperandFits (register t)
  register-fits t f = record { kind = omega arith; text = f; width = omega arith; known = omega arith; address = omega arith; slot = omega arith }

  other_fits : OperandFits other
  other_fits = record { kind = omega arith; text = no_text_fits; width = omega arith; known = omega arith; address = omega arith; slot = omega arith }

  memory-gives : (at : ℕ) → Gives OperandFits (memory_at s at)
  unfolding memory_at
  memory-gives at =
      after (Below (256 ^ 2)) OperandFits (number_at 2 s at) _ (number-gives 2 at) (λ w n₁ p.
      after (Below 2) OperandFits (limited_at 1 BadOperand s n₁) _ (limited-gives 1 n₁ BadOperand) (λ k n₂ q.
      after (Below (256 ^ 4)) OperandFits (number_at 4 s n₂) _ (number-gives 4 n₂) (λ a n₃ u.
      after (Below (256 ^ 4)) OperandFits (number_at 4 s n₃) _ (number-gives 4 n₃) (λ t n₄ v.
      got_lem _ _ _ (record { kind = omega arith; text = no_text_fits; width = p; known = omega arith; address = u; slot = v })))))

  operand-gives : (at : ℕ) → Gives OperandFits (operand_at s at)
  unfolding operand_at register_at
  operand-gives at =
      after (Below 3) OperandFits (limited_at 2 BadOperand s at) _ (limited-gives 2 at BadOperand) (λ k n p.
      either OperandFits (eqb k 0) (register_at s n) _ (after TextFits OperandFits (text_at s n) _ (text-gives n) (λ t end f. got_lem _ _ _ (register-fits t f)))
      (either OperandFits (eqb k 1) (memory_at s n) (got other n) (memory-gives n) (got_lem _ _ _ other_fits)))

  present-gives : (t : Bool) (at : ℕ) → Gives OperandFits (present_at t s at)
  unfolding present_at
  present-gives t at = either OperandFits t (operand_at s at) (got absent at) (operand-gives at) (got_lem _ _ _ (register-fits no_text no_text_fits))

  no-fits : InsnFits no_instruction
  no-fits =
      let f = register-fits no_text no_text_fits in
      record { address = omega arith; mnemonic = no_text_fits; count = omega arith; three = refl; first = f; second = f; third = f }

  record-gives : (at : ℕ) → Gives TakenFits (record_at s at)
  unfolding record_at
  record-gives at =
      after (Below (256 ^ 8)) TakenFits (number_at 8 s at) _ (number-gives 8 at) (λ a n₁ p.
      after TextFits TakenFits (text_at s n₁) _ (text-gives n₁) (λ m n₂ q.
      after (Below 4) TakenFits (limited_at 3 BadOperand s n₂) _ (limited-gives 3 n₂ BadOperand) (λ k n₃ u.
      after OperandFits TakenFits (present_at (ltb 0 k) s n₃) _ (present-gives (ltb 0 k) n₃) (λ x n₄ f.
      after OperandFits TakenFits (present_at (ltb 1 k) s n₄) _ (present-gives (ltb 1 k) n₄) (λ y n₅ g.
      after OperandFits TakenFits (present_at (ltb 2 k) s n₅) _ (present-gives (ltb 2 k) n₅) (λ z n₆ h.
      got_lem _ _ _ (record { address = p; mnemonic = q; count = omega arith; three = refl; first = f; second = g; third = h })))))))

  end-gives : (n : ℕ) → Gives TakenFits (end_at s n)
  unfolding end_at
  end-gives n = either TakenFits (eqb n (length s)) (got None n) (bad BadMark n) (got_lem _ _ _ tt) (bad_lem _ _ _)

  taken-gives : (at : ℕ) → Gives TakenFits (taken_at s at)
  unfolding taken_at
  taken-gives at =
      after Any TakenFits (either_at 0x87 0x87 s at) _ (mark-gives 0x87 0x87 at) (λ x n₁ p.
      after Any TakenFits (either_at 0x49 0x45 s n₁) _ (mark-gives 0x49 0x45 n₁) (λ m n₂ q.
      either TakenFits (eqb m 0x49) (record_at s n₂) (end_at s n₂) (record-gives n₂) (end-gives n₂)))

  answered : (m : Reading (Option Instruction)) → Gives TakenFits m → InsnFits (insn_in m)
  answered (got (Some i) n) h = h.value
  answered (got None n) h = no-fits
  answered (bad r p) h = no-fits

pub taken-fits : (s : List ℕ) (at : ℕ) → Bytes s → InsnFits (insn_in (taken_at s at))
taken-fits s at b = answered s b (taken_at s at) (taken-gives s b at)
