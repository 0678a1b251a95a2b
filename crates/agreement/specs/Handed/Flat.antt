-- The 177 bytes of an instruction, read part by part.
use Rattle.std.specs.Prelude.{◌≡◌, refl, List, [], ◌∷◌, ◌++◌, ℕ, zero, suc, ◌+◌, ◌*◌, ◌/◌, ◌%◌, ◌^◌, ◌≤◌, ◌<◌, length, take, drop, get_or}
use Rattle.std.proofs.Common.{sym, ◌∙◌, ap, append_assoc, pow-suc, add-zero, zero-add, arith, length-append, get_or-drop, drop-drop}
use Rattle.std.proofs.lemmas.List.Edits.{sets-eq}
use Rattle.std.proofs.Math.Seq.{take-append_seam, drop-append_seam}
use Rattle.words.specs.Bytes.{number_in, bytes_of}
use Rattle.texts.specs.declared.Text.{Text}
use Rattle.forms.specs.declared.Operand.{Operand}
use Rattle.forms.specs.declared.Instruction.{Instruction}
use Rattle.export.specs.Flat.{text_in, operand_in, insn_of, laid, text_flat, memory_flat, operand_flat, operand_of, flat_of}
use Rattle.agreement.specs.Handed.Carries.{TextFits, OperandFits, InsnFits}

-- From place p on, the list begins with v
pub record At (l : List ℕ) (p : ℕ) (v : List ℕ) : Type 0 where
  pub rest : List ℕ
  pub is : drop p l ≡ v ++ rest

module _ (l : List ℕ) (p : ℕ) (a b : List ℕ) where
  -- the first of two parts, and the second behind it
  front : At l p (a ++ b) → At l p a
  front x = record { rest = b ++ x.rest; is = x.is ∙ append_assoc a b x.rest }

  back : (q : ℕ) → p + length a ≡ q → At l p (a ++ b) → At l q b
  back q e x =
      record {
        rest = x.rest;
        is = ap (λ (k : ℕ). drop k l) (sym e) ∙ sym (drop-drop (length a) p l)
            ∙ ap (drop (length a)) (x.is ∙ append_assoc a b x.rest) ∙ drop-append_seam a (b ++ x.rest);
      }

-- the byte that stands at a place
byte_at : (l : List ℕ) (p x : ℕ) (v : List ℕ) → At l p (x ∷ v) → get_or l p 0 ≡ x
byte_at l p x v a = sym (get_or-drop p l 0 0 ∙ rw add-zero) ∙ ap (λ (m : List ℕ). get_or m 0 0) a.is

small_at : (l : List ℕ) (p v : ℕ) → At l p (bytes_of 1 v) → v < 256 → get_or l p 0 ≡ v
unfolding bytes_of
small_at l p v a h = byte_at l p (v % 256) [] a ∙ omega arith

number_at : (n v : ℕ) (l : List ℕ) (p : ℕ) → At l p (bytes_of n v) → v < 256 ^ n → number_in l p n ≡ v
unfolding bytes_of
number_at zero v l p a h = omega arith
number_at (suc n) v l p a h =
    let k : v < 256 ^ n * 256 = rw pow-suc at h in
    let b = byte_at l p (v % 256) (bytes_of n (v / 256)) a in
    let e = number_at n (v / 256) l (p + 1) (back l p (v % 256 ∷ []) (bytes_of n (v / 256)) (p + 1) refl a) (omega arith) in
    rw (b, e) (omega arith)

text-long : (t : Text) → TextFits t → length (text_flat t) ≡ 33
unfolding text_flat bytes_of
text-long t f = ap suc f.long

memory-long : (o : Operand) → length (memory_flat o) ≡ 11
unfolding memory_flat bytes_of
memory-long o = refl

operand-long : (o : Operand) → OperandFits o → length (operand_flat o) ≡ 45
unfolding operand_flat bytes_of
operand-long o f = ap suc (length-append (text_flat o.text) (memory_flat o) ∙ rw (text-long o.text f.text, memory-long o))

text_at : (l : List ℕ) (p : ℕ) (t : Text) → At l p (text_flat t) → TextFits t → text_in l p ≡ t
unfolding text_flat bytes_of
text_at l p t a f =
    let n = small_at l p t.len (front l p (bytes_of 1 t.len) t.bytes a) f.len in
    let b = back l p (bytes_of 1 t.len) t.bytes (p + 1) refl a in
    let e : take 32 (drop (p + 1) l) ≡ t.bytes = ap (take 32) b.is ∙ rw (← f.long) (take-append_seam t.bytes b.rest) in
    rw (n, e)

operand_at : (l : List ℕ) (p : ℕ) (o : Operand) → At l p (operand_flat o) → OperandFits o → operand_in l p ≡ o
unfolding operand_flat operand_in memory_flat bytes_of
operand_at l p o a f =
    let k = small_at l p o.kind (front l p (bytes_of 1 o.kind) _ a) f.kind in
    let a₁ = back l p (bytes_of 1 o.kind) _ (p + 1) refl a in
    let t = text_at l (p + 1) o.text (front l (p + 1) (text_flat o.text) _ a₁) f.text in
    let a₂ = back l (p + 1) (text_flat o.text) _ (p + 34) (rw (text-long o.text f.text) (omega arith)) a₁ in
    let w = number_at 2 o.width l (p + 34) (front l (p + 34) (bytes_of 2 o.width) _ a₂) f.width in
    let a₃ = back l (p + 34) (bytes_of 2 o.width) _ (p + 36) (omega arith) a₂ in
    let n = small_at l (p + 36) o.known (front l (p + 36) (bytes_of 1 o.known) _ a₃) f.known in
    let a₄ = back l (p + 36) (bytes_of 1 o.known) _ (p + 37) (omega arith) a₃ in
    let d = number_at 4 o.address l (p + 37) (front l (p + 37) (bytes_of 4 o.address) _ a₄) f.address in
    let a₅ = back l (p + 37) (bytes_of 4 o.address) _ (p + 41) (omega arith) a₄ in
    let s = number_at 4 o.slot l (p + 41) a₅ f.slot in
    rw (k, t, w, n, d, s)

-- the instruction whose 177 bytes stand in front
pub insn-at : (l : List ℕ) (i : Instruction) → At l 0 (flat_of i) → InsnFits i → insn_of l ≡ i
unfolding flat_of insn_of bytes_of
insn-at l i a f =
    let d = number_at 8 i.address l 0 (front l 0 (bytes_of 8 i.address) _ a) f.address in
    let a₁ = back l 0 (bytes_of 8 i.address) _ 8 refl a in
    let m = text_at l 8 i.mnemonic (front l 8 (text_flat i.mnemonic) _ a₁) f.mnemonic in
    let a₂ = back l 8 (text_flat i.mnemonic) _ 41 (rw (text-long i.mnemonic f.mnemonic)) a₁ in
    let k = small_at l 41 i.count (front l 41 (bytes_of 1 i.count) _ a₂) f.count in
    let a₃ = back l 41 (bytes_of 1 i.count) _ 42 refl a₂ in
    let x = operand_at l 42 (operand_of i 0) (front l 42 (operand_flat (operand_of i 0)) _ a₃) f.first in
    let a₄ = back l 42 (operand_flat (operand_of i 0)) _ 87 (rw (operand-long (operand_of i 0) f.first)) a₃ in
    let y = operand_at l 87 (operand_of i 1) (front l 87 (operand_flat (operand_of i 1)) _ a₄) f.second in
    let a₅ = back l 87 (operand_flat (operand_of i 1)) _ 132 (rw (operand-long (operand_of i 1) f.second)) a₄ in
    let z = operand_at l 132 (operand_of i 2) a₅ f.third in
    rw (d, m, k, x, y, z, ← f.three)

flat-long : (i : Instruction) → InsnFits i → length (flat_of i) ≡ 177
unfolding flat_of bytes_of
flat-long i f =
    rw (
      length-append (bytes_of 8 i.address),
      length-append (text_flat i.mnemonic),
      length-append (bytes_of 1 i.count),
      length-append (operand_flat (operand_of i 0)),
      length-append (operand_flat (operand_of i 1)),
      text-long i.mnemonic f.mnemonic,
      operand-long (operand_of i 0) f.first,
      operand-long (operand_of i 1) f.second,
      operand-long (operand_of i 2) f.third,
    )

-- bytes over which they were written begin with them
pub laid-at : (l : List ℕ) (i : Instruction) → 177 ≤ length l → InsnFits i → At (laid l 0 (flat_of i)) 0 (flat_of i)
unfolding laid
laid-at l i e f =
    record {
      rest = drop (length (flat_of i)) l;
      is = sets-eq (flat_of i) l 0 (rw (flat-long i f) (omega arith)) ∙ rw (zero-add (length (flat_of i)));
    }
