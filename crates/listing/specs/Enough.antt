-- No input has more records than bytes: a run that may take more turns than the bytes that are left comes to the same.
use Rattle.std.proofs.Math.Path.{◌≡◌, refl}
use Rattle.std.specs.Prelude.{Option, Some, None, Bool, true, false, cond, leb, ltb, eqb, length}
use mathlib.Core.List.{List, []}
use Prim.Native.Nat.{ℕ, zero, suc, ◌+◌, ◌≤◌}
use native.Mathlib.Omega.{arith}
use Rattle.std.proofs.Common.{le-ltb}
use Rattle.forms.specs.declared.Instruction.{Instruction}
use Rattle.lists.specs.Rows.{wrote}
use Rattle.lists.specs.declared.State.{State}
use Rattle.records.specs.Reading.{Reading, got, bad, ◌▹◌, byte_at, tested_at, number_at}
use Rattle.records.specs.Format.{letters_at, text_at, register_at, memory_at, operand_at, present_at, record_at, end_at, taken_at, other, absent}
use Rattle.records.specs.declared.Refusal.{Refusal}
use Rattle.records.specs.declared.Refusal.TheVariants.{Short}
use Rattle.lifter.specs.Lift.{lift_of}
use Rattle.listing.specs.Run.{Ran, after, lifted, run_from}

-- a reading that is not refused goes on at p or behind it
record Past {A : Type 0} (p : ℕ) (r : Reading A) : Type 0 where
  on : (v : A) (n : ℕ) → r ≡ got v n → p ≤ n

never : ◌≡◌ {A = ℕ} 0 1 → ⊥
never t = omega arith

refused : {A : Type 0} (p : ℕ) (x : Refusal) (y : ℕ) → Past {A = A} p (bad x y)
refused p x y = record { on = λ v n e. let t : ◌≡◌ {A = ℕ} 0 1 = cc in absurd (never t) }

got_lem : {A : Type 0} {p n : ℕ} (v : A) → p ≤ n → Past p (got v n)
got_lem {n = n} v h = record { on = λ w m e. let q : n ≡ m = cc in omega arith }

-- one reading, and then another
seq : {A B : Type 0} {p q : ℕ} (r : Reading A) (g : A → ℕ → Reading B) → Past p r → ((v : A) (n : ℕ) → p ≤ n → Past q (g v n)) → Past q (r ▹ g)
seq (got v n) g h f = f v n (h.on v n refl)
seq {q = q} (bad x y) g h f = refused q x y

later : {A : Type 0} {p q : ℕ} {r : Reading A} → p ≤ q → Past q r → Past p r
later h x = record { on = λ v m e. let g = x.on v m e in omega arith }

either : {A : Type 0} {p : ℕ} (t : Bool) {a b : Reading A} → Past p a → Past p b → Past p (cond t a b)
either true x y = x
either false x y = y

module _ (s : List ℕ) where
  byte : (at : ℕ) → Past (at + 1) (byte_at s at)
  unfolding byte_at
  byte at = either (ltb at (length s)) (got_lem _ (omega arith)) (refused _ _ _)

  tested : (f : ℕ → Bool) (r : Refusal) (at : ℕ) → Past (at + 1) (tested_at f r s at)
  unfolding tested_at
  tested f r at = seq (byte_at s at) _ (byte at) (λ b n h. either (f b) (got_lem b h) (refused _ r at))

  number : (k at : ℕ) → Past at (number_at k s at)
  unfolding number_at
  number k at = either (leb (at + k) (length s)) (got_lem _ (omega arith)) (refused _ _ _)

  letters : (k at : ℕ) → Past at (letters_at k s at)
  unfolding letters_at
  letters zero at = got_lem [] (omega arith)
  letters (suc k) at = seq _ _ (tested _ _ at) (λ b n h. seq (letters_at k s n) _ (letters k n) (λ l m g. got_lem _ (omega arith)))

  text : (at : ℕ) → Past at (text_at s at)
  unfolding text_at
  text at = seq _ _ (tested _ _ at) (λ k n h. seq (letters_at k s n) _ (letters k n) (λ l m g. got_lem _ (omega arith)))

  register : (at : ℕ) → Past at (register_at s at)
  unfolding register_at
  register at = seq (text_at s at) _ (text at) (λ t n h. got_lem _ (omega arith))

  memory : (at : ℕ) → Past at (memory_at s at)
  unfolding memory_at
  memory at =
      seq (number_at 2 s at) _ (number 2 at) (λ w n h.
      seq _ _ (tested _ _ n) (λ k n i.
      seq (number_at 4 s n) _ (number 4 n) (λ a n j.
      seq (number_at 4 s n) _ (number 4 n) (λ t n l. got_lem _ (omega arith)))))

  operand : (at : ℕ) → Past at (operand_at s at)
  unfolding operand_at
  operand at =
      seq _ _ (tested _ _ at) (λ k n h.
      either (eqb k 0) (later (omega arith) (register n)) (either (eqb k 1) (later (omega arith) (memory n)) (got_lem other (omega arith))))

  present : (b : Bool) (at : ℕ) → Past at (present_at b s at)
  unfolding present_at
  present b at = either b (operand at) (got_lem absent (omega arith))

  ends : (at : ℕ) → Past at (end_at s at)
  unfolding end_at
  ends at = either (eqb at (length s)) (got_lem _ (omega arith)) (refused _ _ _)

  records : (at : ℕ) → Past at (record_at s at)
  unfolding record_at
  records at =
      seq (number_at 8 s at) _ (number 8 at) (λ a n h₁.
      seq (text_at s n) _ (text n) (λ m n h₂.
      seq _ _ (tested _ _ n) (λ k n h₃.
      seq (present_at (ltb 0 k) s n) _ (present (ltb 0 k) n) (λ x n h₄.
      seq (present_at (ltb 1 k) s n) _ (present (ltb 1 k) n) (λ y n h₅.
      seq (present_at (ltb 2 k) s n) _ (present (ltb 2 k) n) (λ z n h₆. got_lem _ (omega arith)))))))

  items : (at : ℕ) → Past (at + 1) (taken_at s at)
  unfolding taken_at
  items at =
      seq _ _ (tested _ _ at) (λ _ n h.
      seq _ _ (tested _ _ n) (λ b m g. either (eqb b 73) (later (omega arith) (records m)) (later (omega arith) (ends m))))

  -- what is taken ends behind its place
  pub onward : (at : ℕ) (v : Option Instruction) (n : ℕ) → taken_at s at ≡ got v n → at + 1 ≤ n
  onward at = (items at).on

  -- behind the last byte nothing is read
  pub past_end : (at : ℕ) → length s ≤ at → taken_at s at ≡ bad Short (length s)
  unfolding taken_at tested_at byte_at
  past_end at h = rw (le-ltb at (length s) h)

  -- ONE MORE TURN THAN BYTES ARE LEFT MAKES NO DIFFERENCE
  pub enough : (k at : ℕ) (st : State) (n m : List ℕ) → length s ≤ at + k → run_from k s at st n m ≡ run_from (suc k) s at st n m
  unfolding run_from
  enough zero at st n m h = rw (past_end at (omega arith))
  enough (suc k) at st n m h = by (taken_at s at) refl (λ i p e st n m. enough k p st n m (omega (arith, onward at (Some i) p e)))
    where
      turn : (t : Bool) (x y z : Ran) → x ≡ y → cond t x z ≡ cond t y z
      turn true x y z e = e
      turn false x y z e = refl

      by : (r : Reading (Option Instruction)) → taken_at s at ≡ r
          → ((i : Instruction) (p : ℕ) → taken_at s at ≡ got (Some i) p → (st : State) (n m : List ℕ) → run_from k s p st n m ≡ run_from (suc k) s p st n m)
          → after r st n m (λ i next. lifted (lift_of st i n m) n m at (λ st n m. run_from k s next st n m))
          ≡ after r st n m (λ i next. lifted (lift_of st i n m) n m at (λ st n m. run_from (suc k) s next st n m))
      by (got (Some i) p) e f =
          let b = lift_of st i n m in
          turn (leb b.val 2) _ _ _ (f i p e b.st (wrote n b.ns) (wrote m b.ss))
      by (got None p) e f = refl
      by (bad r p) e f = refl
