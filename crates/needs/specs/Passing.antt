-- In a list that passes the check of sorts each operand is an earlier node.
use Rattle.std.specs.Prelude.{◌≡◌, Bool, false, cond, ◌&&◌, ◌||◌, List, [], ◌∷◌, ℕ, zero, suc, ◌+◌, ◌-◌, ◌*◌, ◌^◌, ◌≤◌, ◌<◌, length, get_or}
use Rattle.std.proofs.Math.Path.{refl}
use Rattle.std.proofs.Math.Bool.{true}
use native.Mathlib.Omega.{arith}
use borrow.Author.Tests.{eqb-true}
use Rattle.std.proofs.Math.Dec.{eqb, ltb, leb}
use Rattle.words.specs.Tests.{and_l, and_r}
use Rattle.sorts.specs.Sorts.{when, is_bits, is_float, is_word, is_stored, pattern_width, sort_row}
use Rattle.sorts.specs.Lists.{sorts, row_sort}
use Rattle.sorts.specs.Good.{bits-lo}
use Rattle.sorts.specs.Laws.{length-sorts}
use Rattle.needs.specs.Needed.{arity, Operand}
use Rattle.needs.specs.Laws.{arity-most, word}

-- each operand of a kind has a sort
record Sorted (k sa sb sc : ℕ) : Type 0 where
  a : 1 ≤ arity k → 0 < sa
  b : 2 ≤ arity k → 0 < sb
  c : 3 ≤ arity k → 0 < sc

-- of a row of the table: what its test says of its operands
row : (k sa sb sc j : ℕ) (ok : Bool) (s rest : ℕ) → (ok ≡ true → Sorted j sa sb sc) → ((rest ≡ 0 → ⊥) → Sorted k sa sb sc)
    → (cond (eqb k j) (when ok s) rest ≡ 0 → ⊥) → Sorted k sa sb sc
row k sa sb sc j ok s rest f g = go (eqb k j) ok refl refl
  where
    go : (t o : Bool) → eqb k j ≡ t → ok ≡ o → (cond t (when o s) rest ≡ 0 → ⊥) → Sorted k sa sb sc
    go true true e q h = rw (eqb-true k j e) (f q)
    go true false e q h = absurd (h refl)
    go false o e q h = g h

-- a sort that passes a test is one
bits-some : (s : ℕ) → is_bits s ≡ true → 0 < s
bits-some s e = let h = bits-lo s e in omega arith

float-some : (s : ℕ) → is_float s ≡ true → 0 < s
float-some zero e = absurd (let z : ◌≡◌ {A = ℕ} 0 1 = cc in omega arith)
float-some (suc s) e = omega arith

word_some : (s : ℕ) → is_word s ≡ true → 0 < s
word_some zero e = absurd (let z : ◌≡◌ {A = ℕ} 0 1 = cc in omega arith)
word_some (suc s) e = omega arith

width_some : (f : ℕ) → 0 < pattern_width f
width_some f = go (eqb f 2072) (eqb f 2869)
  where
    go : (s t : Bool) → 0 < cond s 32 (cond t 64 79)
    go true t = omega arith
    go false true = omega arith
    go false false = omega arith

module _ (sa sb sc : ℕ) where
  -- kinds of no operand, one, two
  none : (j : ℕ) → arity j ≡ 0 → Sorted j sa sb sc
  none j e = record { a = λ h. absurd (omega arith); b = λ h. absurd (omega arith); c = λ h. absurd (omega arith) }

  one : (j : ℕ) → arity j ≡ 1 → 0 < sa → Sorted j sa sb sc
  one j e p = record { a = λ h. p; b = λ h. absurd (omega arith); c = λ h. absurd (omega arith) }

  two : (j : ℕ) → arity j ≡ 2 → 0 < sa → 0 < sb → Sorted j sa sb sc
  two j e p q = record { a = λ h. p; b = λ h. q; c = λ h. absurd (omega arith) }

  -- two operands of one sort, two of width 1, and one float
  pair : (P : ℕ → Bool) → ((s : ℕ) → P s ≡ true → 0 < s) → (j : ℕ) (u : Bool) → arity j ≡ 2 → ((P sa && eqb sa sb) && u) ≡ true → Sorted j sa sb sc
  pair P f j u e h =
      let t = and_l (P sa && eqb sa sb) u h in
      let p = f sa (and_l (P sa) (eqb sa sb) t) in
      two j e p (let q = eqb-true sa sb (and_r (P sa) (eqb sa sb) t) in omega arith)

  bit : (j : ℕ) (u : Bool) → arity j ≡ 2 → ((eqb sa 1 && eqb sb 1) && u) ≡ true → Sorted j sa sb sc
  bit j u e h =
      let t = and_l (eqb sa 1 && eqb sb 1) u h in
      let p = eqb-true sa 1 (and_l (eqb sa 1) (eqb sb 1) t) in
      let q = eqb-true sb 1 (and_r (eqb sa 1) (eqb sb 1) t) in
      two j e (omega arith) (omega arith)

  alone : (j : ℕ) (u v : Bool) → arity j ≡ 1 → ((is_float sa && u) && v) ≡ true → Sorted j sa sb sc
  alone j u v e h = one j e (float-some sa (and_l (is_float sa) u (and_l (is_float sa && u) v h)))

module _ (k a b c sa sb sc : ℕ) where
  -- where the table gives a sort, each operand has one
  operands-sorted : (sort_row k a b c sa sb sc ≡ 0 → ⊥) → Sorted k sa sb sc
  unfolding sort_row arity
  operands-sorted =
      row k sa sb sc 1 ((eqb b 79 || eqb b 16) && eqb c 0) b _ (λ _. none sa sb sc 1 refl)
      (row k sa sb sc 2 (is_stored b && eqb c 0) b _ (λ _. none sa sb sc 2 refl)
      (row k sa sb sc 3 (is_stored b && eqb c 0) b _ (λ _. none sa sb sc 3 refl)
      (row k sa sb sc 4 ((eqb a 0 && eqb b 0) && eqb c 0) 16 _ (λ _. none sa sb sc 4 refl)
      (row k sa sb sc 5 ((leb a 2 && eqb b 0) && eqb c 0) 1 _ (λ _. none sa sb sc 5 refl)
      (row k sa sb sc 6 (is_bits c && ltb (b * 2 ^ 64 + a) (2 ^ c)) c _ (λ _. none sa sb sc 6 refl)
      (row k sa sb sc 7 _ sb _ (pair sa sb sc is_bits bits-some 7 (eqb c 0) refl)
      (row k sa sb sc 8 _ sb _ (pair sa sb sc is_bits bits-some 8 (eqb c 0) refl)
      (row k sa sb sc 9 _ 1 _ (pair sa sb sc is_bits bits-some 9 (eqb c 0) refl)
      (row k sa sb sc 10 _ 1 _ (bit sa sb sc 10 (eqb c 0) refl)
      (row k sa sb sc 11 _ 1 _ (bit sa sb sc 11 (eqb c 0) refl)
      (row k sa sb sc 12 _ 1 _ (λ h. one sa sb sc 12 refl (negated h))
      (row k sa sb sc 13 _ sc _ ite
      (row k sa sb sc 14 _ (b - c + 1) _ (λ h. one sa sb sc 14 refl (bits-some sa (and_r (leb c b && ltb b sa) (is_bits sa) h)))
      (row k sa sb sc 15 _ (sa + sb) _ concat
      (row k sa sb sc 16 _ sb _ (pair sa sb sc is_float float-some 16 (leb c 1) refl)
      (row k sa sb sc 17 _ sb _ (pair sa sb sc is_float float-some 17 (leb c 1) refl)
      (row k sa sb sc 18 _ sb _ (pair sa sb sc is_float float-some 18 (leb c 1) refl)
      (row k sa sb sc 19 _ sb _ (pair sa sb sc is_float float-some 19 (leb c 1) refl)
      (row k sa sb sc 20 _ 1 _ (pair sa sb sc is_float float-some 20 (eqb c 0) refl)
      (row k sa sb sc 21 _ 1 _ (pair sa sb sc is_float float-some 21 (eqb c 0) refl)
      (row k sa sb sc 22 _ 1 _ (alone sa sb sc 22 (eqb b 0) (eqb c 0) refl)
      (row k sa sb sc 23 _ sa _ (alone sa sb sc 23 (leb b 1) (eqb c 0) refl)
      (row k sa sb sc 24 _ sa _ (alone sa sb sc 24 (leb b 1) (eqb c 0) refl)
      (row k sa sb sc 25 _ c _ (λ h. one sa sb sc 25 refl (pattern h))
      (row k sa sb sc 26 _ (pattern_width sa) _ (alone sa sb sc 26 (eqb b 0) (eqb c 0) refl)
      (row k sa sb sc 27 _ c _ (alone sa sb sc 27 (leb b 1) (is_word c) refl)
      (row k sa sb sc 28 _ c _ (λ h. one sa sb sc 28 refl (word_some sa (and_l (is_word sa) (leb b 1) (and_l (is_word sa && leb b 1) (eqb c 3904) h))))
      (row k sa sb sc 29 _ c _ (alone sa sb sc 29 (leb b 1) (is_float c) refl)
      (λ z. absurd (z refl))))))))))))))))))))))))))))))
    where
      negated : ((eqb sa 1 && eqb b 0) && eqb c 0) ≡ true → 0 < sa
      negated h = let p = eqb-true sa 1 (and_l (eqb sa 1) (eqb b 0) (and_l (eqb sa 1 && eqb b 0) (eqb c 0) h)) in omega arith

      ite : ((eqb sa 1 && is_bits sb) && eqb sb sc) ≡ true → Sorted 13 sa sb sc
      ite h =
          let t = and_l (eqb sa 1 && is_bits sb) (eqb sb sc) h in
          let p = eqb-true sa 1 (and_l (eqb sa 1) (is_bits sb) t) in
          let q = bits-some sb (and_r (eqb sa 1) (is_bits sb) t) in
          let r = eqb-true sb sc (and_r (eqb sa 1 && is_bits sb) (eqb sb sc) h) in
          record { a = λ _. omega arith; b = λ _. q; c = λ _. omega arith }

      concat : (((is_bits sa && is_bits sb) && leb (sa + sb) 80) && eqb c 0) ≡ true → Sorted 15 sa sb sc
      concat h =
          let t = and_l (is_bits sa && is_bits sb) (leb (sa + sb) 80) (and_l ((is_bits sa && is_bits sb) && leb (sa + sb) 80) (eqb c 0) h) in
          two sa sb sc 15 refl (bits-some sa (and_l (is_bits sa) (is_bits sb) t)) (bits-some sb (and_r (is_bits sa) (is_bits sb) t))

      pattern : ((is_float c && eqb sa (pattern_width c)) && eqb b 0) ≡ true → 0 < sa
      pattern h =
          let e = eqb-true sa (pattern_width c) (and_r (is_float c) (eqb sa (pattern_width c)) (and_l (is_float c && eqb sa (pattern_width c)) (eqb b 0) h)) in
          rw e (width_some c)

-- an entry that is not 0 is inside
inside : (l : List ℕ) (i : ℕ) → 0 < get_or l i 0 → i < length l
inside [] zero h = absurd (omega arith)
inside [] (suc i) h = absurd (omega arith)
inside (s ∷ l) zero h = omega arith
inside (s ∷ l) (suc i) h = let k = inside l i h in omega arith

module _ (w : List ℕ) (n : ℕ) (h : row_sort w n (sorts w n) ≡ 0 → ⊥) where
  -- each operand of a node that has a sort is earlier than the node
  pub earlier : (p : ℕ) → p < arity (get_or w (4 * n) 0) → get_or w (4 * n + 1 + p) 0 < n
  unfolding row_sort
  earlier = go
    where
      s : Sorted (get_or w (4 * n) 0) (get_or (sorts w n) (get_or w (4 * n + 1) 0) 0) (get_or (sorts w n) (get_or w (4 * n + 2) 0) 0) (get_or (sorts w n) (get_or w (4 * n + 3) 0) 0)
      s = operands-sorted (get_or w (4 * n) 0) (get_or w (4 * n + 1) 0) (get_or w (4 * n + 2) 0) (get_or w (4 * n + 3) 0) _ _ _ h

      before : (i j : ℕ) → j ≡ i → 0 < get_or (sorts w n) (get_or w i 0) 0 → get_or w j 0 < n
      before i j e l = rw (word w j i e) (rw (length-sorts w n) at (inside (sorts w n) (get_or w i 0) l))

      go : (p : ℕ) → p < arity (get_or w (4 * n) 0) → get_or w (4 * n + 1 + p) 0 < n
      go zero k = before (4 * n + 1) (4 * n + 1 + 0) (omega arith) (s.a (omega arith))
      go (suc zero) k = before (4 * n + 2) (4 * n + 1 + 1) (omega arith) (s.b (omega arith))
      go (suc (suc zero)) k = before (4 * n + 3) (4 * n + 1 + 2) (omega arith) (s.c (omega arith))
      go (suc (suc (suc p))) k = absurd (omega (arith, arity-most (get_or w (4 * n) 0)))

  -- and so an operand of it in the sense of what a root needs
  pub operand : (p : ℕ) → p < arity (get_or w (4 * n) 0) → Operand w n (get_or w (4 * n + 1 + p) 0)
  operand p k = record { place = p; has = k; is = refl; earlier = earlier p k }
