-- Laws of bytes that stand at a place, read and written.
use mathlib.Core.Path.{◌≡◌, refl, sym, ◌∙◌, ap}
use mathlib.Core.List.{List, [], ◌∷◌, ◌++◌, append_assoc}
use Prim.Native.Nat.{ℕ, zero, suc, ◌+◌, ◌≤◌}
use native.Mathlib.Omega.{arith}
use lib.ListN.{length, take, drop, set, length-append, drop_of_length-le}
use lib.Seq.{length-take-le, get_or-take, drop-drop}
use Rattle.std.proofs.lemmas.List.{append-nil, take-append-drop}
use Rattle.std.specs.Array.{IsFirstChunk}
use Rattle.std.specs.Int.{from_le_bytes, to_le_bytes, w16, w32, w64}
use Rattle.std.proofs.lemmas.List.Edits.{sets-eq}
use Rattle.words.specs.Bytes.{little_endian, number_in, bytes_at, bytes_of}
use Rattle.records.proofs.Leaves.{bytes-taken}
use Rattle.lists.proofs.Runs.{sets-append}
use Rattle.forms.specs.declared.Instruction.{Instruction}
use Rattle.export.specs.Flat.{text_in, operand_in, insn_of, laid}

-- a number is the bytes at a place, as std reads them at each width
module _ (s : List ℕ) (p : ℕ) where
  pub le_2 : p + 2 ≤ length s → from_le_bytes w16 (take 2 (drop p s)) ≡ number_in s p 2
  le_2 h = rw (bytes-taken 2 s p h) (omega arith)

  pub le_4 : p + 4 ≤ length s → from_le_bytes w32 (take 4 (drop p s)) ≡ number_in s p 4
  le_4 h = rw (bytes-taken 4 s p h) (omega arith)

  pub le_8 : p + 8 ≤ length s → from_le_bytes w64 (take 8 (drop p s)) ≡ number_in s p 8
  le_8 h = rw (bytes-taken 8 s p h) (omega arith)

-- .. and as std writes them
module _ (v : ℕ) where
  digit : (a b : ℕ) → a ≡ b → (l m : List ℕ) → l ≡ m → a ∷ l ≡ b ∷ m
  digit a b e l m f = λ i. e i ∷ f i

  pub le_2_of : to_le_bytes w16 v ≡ bytes_of 2 v
  unfolding bytes_of
  le_2_of = digit _ _ refl _ _ (digit _ _ refl _ _ refl)

  pub le_4_of : to_le_bytes w32 v ≡ bytes_of 4 v
  unfolding bytes_of
  le_4_of = digit _ _ refl _ _ (digit _ _ refl _ _ (digit _ _ (omega arith) _ _ (digit _ _ (omega arith) _ _ refl)))

  pub le_8_of : to_le_bytes w64 v ≡ bytes_of 8 v
  unfolding bytes_of
  le_8_of =
      digit _ _ refl _ _ (digit _ _ refl _ _ (digit _ _ (omega arith) _ _ (digit _ _ (omega arith) _ _
      (digit _ _ (omega arith) _ _ (digit _ _ (omega arith) _ _ (digit _ _ (omega arith) _ _ (digit _ _ (omega arith) _ _ refl)))))))

-- what stands in front is in the front
module _ (k : ℕ) (l : List ℕ) where
  bytes-front : (n p : ℕ) → p + n ≤ k → bytes_at (take k l) p n ≡ bytes_at l p n
  bytes-front zero p h = refl
  bytes-front (suc n) p h = rw (get_or-take k l p 0 (omega arith), bytes-front n (p + 1) (omega arith)) refl

  pub number-front : (n p : ℕ) → p + n ≤ k → number_in (take k l) p n ≡ number_in l p n
  number-front n p h = ap little_endian (bytes-front n p h)

  taken-front : (n p : ℕ) → p + n ≤ k → k ≤ length l → take n (drop p (take k l)) ≡ take n (drop p l)
  taken-front n p h m = bytes-taken n (take k l) p (omega (arith, length-take-le k l m)) ∙ bytes-front n p h ∙ sym (bytes-taken n l p (omega arith))

  pub text-front : (p : ℕ) → p + 33 ≤ k → k ≤ length l → text_in (take k l) p ≡ text_in l p
  text-front p h m = rw (taken-front 32 (p + 1) (omega arith) m, get_or-take k l p 0 (omega arith)) refl

  operand-front : (p : ℕ) → p + 45 ≤ k → k ≤ length l → operand_in (take k l) p ≡ operand_in l p
  unfolding operand_in
  operand-front p h m =
      rw (
        get_or-take k l p 0 (omega arith),
        text-front (p + 1) (omega arith) m,
        number-front 2 (p + 34) (omega arith),
        get_or-take k l (p + 36) 0 (omega arith),
        number-front 4 (p + 37) (omega arith),
        number-front 4 (p + 41) (omega arith),
      ) refl

-- the instruction in the first 177 bytes
pub insn-front : {l b : List ℕ} {i : Instruction} → IsFirstChunk l b 177 → i ≡ insn_of b → i ≡ insn_of l
unfolding insn_of
insn-front {l = l} f e =
    let h = f.enough in
    rw (e, f.same) (rw (
      operand-front 177 l 42 (omega arith) h,
      operand-front 177 l 87 (omega arith) h,
      operand-front 177 l 132 (omega arith) h,
      get_or-take 177 l 41 0 (omega arith),
      text-front 177 l 8 (omega arith) h,
      number-front 177 l 8 0 (omega arith),
    ) refl)

-- a word in the place of the first one, which was written before
pub laid_again : (l : List ℕ) (v w : ℕ) → set (set l 0 v) 0 w ≡ laid l 0 (w ∷ [])
unfolding laid
laid_again [] v w = refl
laid_again (x ∷ l) v w = refl

-- bytes in the place of as many
pub laid_over : (l b : List ℕ) (p k : ℕ) → p + k ≤ length l → length b ≡ k → take p l ++ (b ++ drop k (drop p l)) ≡ laid l p b
unfolding laid
laid_over l b p k h e = rw (← e) (ap (λ (r : List ℕ). take p l ++ (b ++ r)) (drop-drop (length b) p l) ∙ sym (append_assoc (take p l) b (drop (p + length b) l)) ∙ sym (sets-eq b l p (omega arith)))

-- one byte in the place of one
pub laid_one : (l : List ℕ) (p v w : ℕ) → w ≡ v → set l p v ≡ laid l p (w ∷ [])
unfolding laid
laid_one l p v w e = rw e refl

-- two runs, the second where the first, of k bytes, ends
pub run : (l m n a b : List ℕ) (i j k : ℕ) → length a ≡ k → i + k ≡ j → m ≡ laid l i a → n ≡ laid m j b → n ≡ laid l i (a ++ b)
unfolding laid
run l m n a b i j k z e p q = rw (sets-append l a b i, z, e, ← p) q

pub run_length : (a b : List ℕ) (i j k : ℕ) → length a ≡ i → length b ≡ j → i + j ≡ k → length (a ++ b) ≡ k
run_length a b i j k p q e = length-append a b ∙ rw (p, q) e

-- the first k of a list, as they were and written over, in front of the rest
module _ (k : ℕ) {l b : List ℕ} (f : IsFirstChunk l b k) where
  pub front-kept : b ++ drop k l ≡ l
  front-kept = rw f.same (take-append-drop k l)

  pub front-written : (w : List ℕ) {d : List ℕ} → d ≡ laid b 0 w → length w ≡ k → d ++ drop k l ≡ laid l 0 w
  front-written w e z =
      let n : length (take k l) ≡ k = length-take-le k l f.enough in
      let whole : laid (take k l) 0 w ≡ w =
      sym (laid_over (take k l) w 0 k (omega (arith, n)) z) ∙ ap (λ (r : List ℕ). w ++ r) (drop_of_length-le (take k l) {i = k} (omega (arith, n))) ∙ append-nil w in
      rw (e, f.same, whole) (laid_over l w 0 k (omega (arith, f.enough)) z)
