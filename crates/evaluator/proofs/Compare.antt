-- Patterns compared as they lie: what the tests of the words say of the numbers that the patterns stand for.
use mathlib.Core.Bool.{Bool, true, false, cond, not, ◌&&◌, ◌||◌, beq, and-false, or-false}
use mathlib.Core.Path.{◌≡◌, refl, sym, ap, ◌∙◌}
use Prim.Native.Nat.{ℕ, ◌+◌, ◌-◌, ◌*◌, ◌/◌, ◌%◌, ◌^◌, ◌≤◌, ◌<◌}
use native.Mathlib.Nat.{div-eq_of_lt, mod-eq_of_lt, mod-lt}
use native.Mathlib.Decide.{dec_lt}
use native.Mathlib.Omega.{arith}
use lib.Bits.{bit_and, and_mask}
use mir.Val.{bool_byte}
use lib.Dec.{leb, ltb, eqb, lit<}
use lib.Pow.{high, low, pow-add, pow_pos}
use borrow.Author.Tests.{lt-ltb, le-ltb, le-leb, lt-leb, eq-eqb, ne_eqb, eqb-true, eqb-false, ltb-true, ltb-false, leb-true}
use Rattle.words.specs.Tests.{same_test}
use Rattle.evaluator.specs.Formats.{sign_place, inf_of, nan_of}
use Rattle.evaluator.specs.Exact.{is_negative, is_nan, canon, signed_below, signed_same, f_lt, f_eq}
use Rattle.evaluator.specs.Order.{nan-law, lt-law, eq-law}
use Rattle.words.proofs.Masks.{low-high}
use Rattle.words.proofs.Orders.{eq-two}
use Rattle.evaluator.specs.Value.{flag_of}
use Rattle.evaluator.specs.Inside.{order_of, Patterns}

-- a NaN, by a mask of the bits below the sign
pub nan-mask : (f v : ℕ) → is_nan f v ≡ ltb (inf_of f) (bit_and v (2 ^ sign_place f - 1))
nan-mask f v = rw (and_mask v (sign_place f)) (nan-law f v)

-- a pattern of p bits and a sign: a number without the sign, or with it
data Lies (p : ℕ) : ℕ → Bool → ℕ → Type 0 where
  plus : (q : ℕ) → q < 2 ^ p → Lies p q false q
  minus : (q : ℕ) → q < 2 ^ p → Lies p (2 ^ p + q) true q

lies : (p v : ℕ) → v < 2 ^ (p + 1) → Lies p v (not (eqb (v / 2 ^ p) 0)) (v % 2 ^ p)
lies p v h = by (dec_lt v (2 ^ p))
  where
    by : Dec (v < 2 ^ p) → Lies p v (not (eqb (v / 2 ^ p) 0)) (v % 2 ^ p)
    by (yes k) = rw (div-eq_of_lt k, mod-eq_of_lt k) (plus v k)
    by (no k) =
        let d : v - 2 ^ p < 2 ^ p = omega (arith, pow-add 2 p 1) in
        let e : v ≡ 1 * 2 ^ p + (v - 2 ^ p) = omega arith in
        let m : 2 ^ p + (v - 2 ^ p) ≡ v = omega arith in
        let t : Lies p (2 ^ p + (v - 2 ^ p)) true (v - 2 ^ p) = minus (v - 2 ^ p) d in
        let a : v / 2 ^ p ≡ 1 = ap (λ (x : ℕ). x / 2 ^ p) e ∙ high 1 p d in
        let b : v % 2 ^ p ≡ v - 2 ^ p = ap (λ (x : ℕ). x % 2 ^ p) e ∙ low 1 p d in
        rw (a, b) (rw m at t)

-- a test of two numbers that both have the sign bit is the test without it
ltb-above : (s a b : ℕ) → ltb (s + a) (s + b) ≡ ltb a b
ltb-above s a b = by (dec_lt a b)
  where
    by : Dec (a < b) → ltb (s + a) (s + b) ≡ ltb a b
    by (yes h) = let k : s + a < s + b = omega arith in lt-ltb (s + a) (s + b) k ∙ sym (lt-ltb a b h)
    by (no h) = let k : s + b ≤ s + a = omega arith in let g : b ≤ a = omega arith in le-ltb (s + a) (s + b) k ∙ sym (le-ltb a b g)

eqb-above : (s a : ℕ) → eqb (s + a) s ≡ eqb a 0
eqb-above s a = same_test (eqb (s + a) s) (eqb a 0)
    (λ e. let h = eqb-true (s + a) s e in eq-eqb a 0 (omega arith))
    (λ e. let h = eqb-true a 0 e in eq-eqb (s + a) s (omega arith))

-- the order as they lie is that of signed sizes
order : (p : ℕ) {s t : Bool} {x a y b : ℕ} → Lies p x s a → Lies p y t b → order_of (2 ^ p) x y ≡ signed_below s a t b
order p (plus a h) (plus b k) = rw (lt-leb (2 ^ p) a h, lt-ltb a (2 ^ p) h, lt-ltb b (2 ^ p) k) (all (ltb a b))
  where
    all : (u : Bool) → (u && true) && true ≡ u
    all true = refl
    all false = refl
order p (plus a h) (minus b k) =
    let g : 2 ^ p ≤ 2 ^ p + b = omega arith in
    rw (lt-leb (2 ^ p) a h, le-ltb (2 ^ p + b) (2 ^ p) g, and-false (ltb a (2 ^ p + b) && ltb a (2 ^ p)))
order p (minus a h) (plus b k) =
    let g : 2 ^ p ≤ 2 ^ p + a = omega arith in
    let d : b < 2 ^ p + a = omega arith in
    rw (le-leb (2 ^ p) (2 ^ p + a) g, lt-ltb b (2 ^ p + a) d, le-ltb (2 ^ p + a) (2 ^ p) g, and-false (ltb (2 ^ p + a) b), eqb-above (2 ^ p) a, or-false (not (eqb a 0 && eqb b 0)))
order p (minus a h) (minus b k) =
    let g : 2 ^ p ≤ 2 ^ p + a = omega arith in
    let z : 2 ^ p + b ≡ 0 → ⊥ = λ e. (let q = pow_pos p in omega arith) in
    rw (le-leb (2 ^ p) (2 ^ p + a) g, ltb-above (2 ^ p) b a, le-ltb (2 ^ p + a) (2 ^ p) g, and-false (ltb (2 ^ p + a) (2 ^ p + b)), ne_eqb (2 ^ p + b) 0 z, and-false (eqb (2 ^ p + a) (2 ^ p))) (all (ltb b a))
  where
    all : (u : Bool) → (u && true) || false ≡ u
    all true = refl
    all false = refl

-- FLt IS THE ORDER OF THE PATTERNS AS THEY LIE, where neither is a NaN
pub order-law : (f x y : ℕ) → Patterns f x y → (not (is_nan f x) && not (is_nan f y)) && order_of (2 ^ sign_place f) x y ≡ f_lt f x y
order-law f x y h =
    rw (lt-law f x y, order (sign_place f) (lies (sign_place f) x h.left) (lies (sign_place f) y h.right))

beq_same : (s : Bool) → beq s s ≡ true
beq_same true = refl
beq_same false = refl

alone : (n e : Bool) → e ≡ true → n ≡ (n && n) && (e && (true || e))
alone true e h = rw h
alone false e h = refl

-- a pattern equals itself, where it is no NaN
pub same-law : (f x y : ℕ) → x ≡ y → not (is_nan f x) ≡ f_eq f x y
same-law f x y e =
    rw (← e, eq-law f x x, beq_same (is_negative f x)) (alone (not (is_nan f x)) (eqb (x % 2 ^ sign_place f) (x % 2 ^ sign_place f)) (eq-eqb (x % 2 ^ sign_place f) (x % 2 ^ sign_place f) refl))

module _ (i : ℕ) where
  -- two sizes that differ are not both zero, and those of other signs are equal as zeros alone
  differ : (a b : ℕ) (n : Bool) → (a ≡ b → ⊥) → eqb a 0 && eqb b 0 ≡ n && (eqb a b && true)
  differ a b n h = by (eqb a 0) (eqb b 0) refl refl
    where
      by : (u v : Bool) → eqb a 0 ≡ u → eqb b 0 ≡ v → u && v ≡ n && (eqb a b && true)
      by true true e g =
          let d = eqb-true a 0 e in
          let k = eqb-true b 0 g in
          absurd (h (omega arith))
      by true false e g = rw (ne_eqb a b h) (sym (and-false n))
      by false v e g = rw (ne_eqb a b h) (sym (and-false n))

  zeros : (a b : ℕ) → eqb a 0 && eqb b 0 ≡ (not (ltb i a) && not (ltb i b)) && (eqb a b && (false || eqb a 0))
  zeros a b = by (eqb a 0) (eqb b 0) refl refl
    where
      by : (u v : Bool) → eqb a 0 ≡ u → eqb b 0 ≡ v → u && v ≡ (not (ltb i a) && not (ltb i b)) && (eqb a b && (false || u))
      by true true e g =
          let d = eqb-true a 0 e in
          let k = eqb-true b 0 g in
          let q : a ≡ b = omega arith in
          let y : a ≤ i = omega arith in
          let z : b ≤ i = omega arith in
          rw (le-ltb i a y, le-ltb i b z, eq-eqb a b q)
      by true false e g =
          let d = eqb-true a 0 e in
          let n : a ≡ b → ⊥ = λ q. eqb-false b 0 g (omega arith) in
          rw (ne_eqb a b n) (sym (and-false (not (ltb i a) && not (ltb i b))))
      by false v e g = simp (and-false)

  both : (p : ℕ) {s t : Bool} {x a y b : ℕ} → Lies p x s a → Lies p y t b → (x ≡ y → ⊥)
      → eqb a 0 && eqb b 0 ≡ (not (ltb i a) && not (ltb i b)) && signed_same s a t b
  both p (plus a h) (plus b k) n = differ a b (not (ltb i a) && not (ltb i b)) n
  both p (plus a h) (minus b k) n = zeros a b
  both p (minus a h) (plus b k) n = zeros a b
  both p (minus a h) (minus b k) n = differ a b (not (ltb i a) && not (ltb i b)) (λ e. n (ap (λ (z : ℕ). 2 ^ p + z) e))

-- PATTERNS THAT DIFFER ARE EQUAL AS ZEROS ALONE
pub other-law : (f x y : ℕ) → Patterns f x y → (x ≡ y → ⊥) → eqb (x % 2 ^ sign_place f) 0 && eqb (y % 2 ^ sign_place f) 0 ≡ f_eq f x y
other-law f x y h n =
    rw (eq-law f x y, nan-law f x, nan-law f y) (both (inf_of f) (sign_place f) (lies (sign_place f) x h.left) (lies (sign_place f) y h.right) n)

-- the same by the words of a format's limits, as the code has them
module _ (f : ℕ) where
  pub nan_at : (i m v : ℕ) → i ≡ inf_of f → m ≡ 2 ^ sign_place f - 1 → ltb i (bit_and v m) ≡ is_nan f v
  nan_at i m v e g = rw (e, g) (sym (nan-mask f v))

  pub zero-at : (m v : ℕ) → m ≡ 2 ^ sign_place f - 1 → eqb (bit_and v m) 0 ≡ eqb (v % 2 ^ sign_place f) 0
  zero-at m v e = rw (e, and_mask v (sign_place f))

  pub numbers-at : (i m x y : ℕ) → i ≡ inf_of f → m ≡ 2 ^ sign_place f - 1
      → not (ltb i (bit_and x m)) && not (ltb i (bit_and y m)) ≡ not (is_nan f x) && not (is_nan f y)
  numbers-at i m x y e g = rw (nan_at i m x e g, nan_at i m y e g)

  pub canon-at : (i m n v : ℕ) → i ≡ inf_of f → m ≡ 2 ^ sign_place f - 1 → n ≡ nan_of f → cond (ltb i (bit_and v m)) n v ≡ canon f v
  unfolding canon
  canon-at i m n v e g k = rw (nan_at i m v e g, k)

  -- FLt, by a test of NaNs and one of the order
  pub less-at : (t u : Bool) (s v w x y : ℕ) → t ≡ not (is_nan f x) && not (is_nan f y) → u ≡ order_of s v w → s ≡ 2 ^ sign_place f → v ≡ x → w ≡ y → Patterns f x y
      → t && u ≡ f_lt f x y
  less-at t u s v w x y a b e p q h = rw (a, b, e, p, q) (order-law f x y h)

-- of a number of one word the low word is all
pub narrow : (h l n : ℕ) → n ≤ 18446744073709551616 → h * 2 ^ 64 + l < n → l ≡ h * 2 ^ 64 + l
narrow h l n k e = omega arith

-- the upper word of a pattern of format 3904
pub upper : (h l : ℕ) → h * 2 ^ 64 + l < 2 ^ 79 → h < 32768
upper h l e = omega arith

-- every format but the two narrow ones is read as 3904
pub extended : (f v : ℕ) → eqb f 2072 ≡ false → eqb f 2869 ≡ false → is_nan 3904 v ≡ is_nan f v
extended f v n m = rw (nan-law 3904 v, nan-law f v, n, m)

-- a test as a number
pub byte-flag : (b : Bool) → bool_byte b ≡ flag_of b
byte-flag true = refl
byte-flag false = refl

-- numbers of two words, by their words
module _ (h l k m : ℕ) (hl : l < 2 ^ 64) (hm : m < 2 ^ 64) where
  -- below, where the upper word is below the other's and its borrow
  pub borrowed : ltb h (k + flag_of (ltb l m)) ≡ ltb (h * 2 ^ 64 + l) (k * 2 ^ 64 + m)
  borrowed = by (ltb l m) refl
    where
      by : (t : Bool) → ltb l m ≡ t → ltb h (k + flag_of t) ≡ ltb (h * 2 ^ 64 + l) (k * 2 ^ 64 + m)
      by true e =
          let z = ltb-true l m e in
          same_test (ltb h (k + 1)) (ltb (h * 2 ^ 64 + l) (k * 2 ^ 64 + m))
          (λ q. let a = ltb-true h (k + 1) q in lt-ltb (h * 2 ^ 64 + l) (k * 2 ^ 64 + m) (omega arith))
          (λ q. let a = ltb-true (h * 2 ^ 64 + l) (k * 2 ^ 64 + m) q in lt-ltb h (k + 1) (omega arith))
      by false e =
          let z = ltb-false l m e in
          same_test (ltb h (k + 0)) (ltb (h * 2 ^ 64 + l) (k * 2 ^ 64 + m))
          (λ q. let a = ltb-true h (k + 0) q in lt-ltb (h * 2 ^ 64 + l) (k * 2 ^ 64 + m) (omega arith))
          (λ q. let a = ltb-true (h * 2 ^ 64 + l) (k * 2 ^ 64 + m) q in lt-ltb h (k + 0) (omega arith))

module _ (h l : ℕ) (hl : l < 2 ^ 64) where
  -- bit 78 is bit 14 of the upper word
  pub sign-ltb : ltb h 16384 ≡ ltb (h * 2 ^ 64 + l) (2 ^ 78)
  sign-ltb = same_test (ltb h 16384) (ltb (h * 2 ^ 64 + l) (2 ^ 78))
      (λ q. let a = ltb-true h 16384 q in lt-ltb (h * 2 ^ 64 + l) (2 ^ 78) (omega arith))
      (λ q. let a = ltb-true (h * 2 ^ 64 + l) (2 ^ 78) q in lt-ltb h 16384 (omega arith))

  pub sign-leb : leb 16384 h ≡ leb (2 ^ 78) (h * 2 ^ 64 + l)
  sign-leb = same_test (leb 16384 h) (leb (2 ^ 78) (h * 2 ^ 64 + l))
      (λ q. let a = leb-true 16384 h q in le-leb (2 ^ 78) (h * 2 ^ 64 + l) (omega arith))
      (λ q. let a = leb-true (2 ^ 78) (h * 2 ^ 64 + l) q in le-leb 16384 h (omega arith))

  -- a NaN of format 3904, by its words
  pub number-words : ltb (bit_and h 16383 + flag_of (ltb 9223372036854775808 l)) 16384 ≡ not (is_nan 3904 (h * 2 ^ 64 + l))
  number-words = rw (and_mask h 14, nan-law 3904 (h * 2 ^ 64 + l), ← low-high 78 h l (omega arith) hl) (by (ltb 9223372036854775808 l) refl)
    where
      top : h % 2 ^ 14 < 16384
      top = mod-lt h (pow_pos 14)

      opposite : (a b : Bool) → (a ≡ true → b ≡ false) → (a ≡ false → b ≡ true) → a ≡ not b
      opposite true b f g = rw (f refl)
      opposite false b f g = rw (g refl)

      by : (t : Bool) → ltb 9223372036854775808 l ≡ t → ltb (h % 2 ^ 14 + flag_of t) 16384 ≡ not (ltb (inf_of 3904) (h % 2 ^ 14 * 2 ^ 64 + l))
      by true e =
          let z = ltb-true 9223372036854775808 l e in
          opposite (ltb (h % 2 ^ 14 + 1) 16384) (ltb (inf_of 3904) (h % 2 ^ 14 * 2 ^ 64 + l))
          (λ q. let a = ltb-true (h % 2 ^ 14 + 1) 16384 q in le-ltb (inf_of 3904) (h % 2 ^ 14 * 2 ^ 64 + l) (omega arith))
          (λ q. let a = ltb-false (h % 2 ^ 14 + 1) 16384 q in lt-ltb (inf_of 3904) (h % 2 ^ 14 * 2 ^ 64 + l) (omega arith))
      by false e =
          let z = ltb-false 9223372036854775808 l e in
          opposite (ltb (h % 2 ^ 14 + 0) 16384) (ltb (inf_of 3904) (h % 2 ^ 14 * 2 ^ 64 + l))
          (λ q. le-ltb (inf_of 3904) (h % 2 ^ 14 * 2 ^ 64 + l) (let u = top in omega arith))
          (λ q. absurd (let a = ltb-false (h % 2 ^ 14 + 0) 16384 q in let u = top in omega arith))

-- the order of two patterns of format 3904, by their words
module _ (h l k m : ℕ) (hl : l < 2 ^ 64) (hm : m < 2 ^ 64) where
  zeros-words : ((eqb h 16384 && eqb l 0) && eqb k 0) && eqb m 0 ≡ eqb (h * 2 ^ 64 + l) (2 ^ 78) && eqb (k * 2 ^ 64 + m) 0
  zeros-words = four (eqb h 16384) (eqb l 0) (eqb k 0) (eqb m 0) ∙ (rw (eq-two h l 16384 0 hl (lit< tt), eq-two k m 0 0 hm (lit< tt)))
    where
      four : (a b c d : Bool) → ((a && b) && c) && d ≡ (a && b) && (c && d)
      four true true c d = refl
      four true false c d = refl
      four false b c d = refl

  pub order-words : ((leb 16384 h && ltb k (h + flag_of (ltb m l))) && not (((eqb h 16384 && eqb l 0) && eqb k 0) && eqb m 0)) || ((ltb h (k + flag_of (ltb l m)) && ltb h 16384) && ltb k 16384)
      ≡ order_of (2 ^ 78) (h * 2 ^ 64 + l) (k * 2 ^ 64 + m)
  order-words = rw (sign-leb h l hl, borrowed k m h l hm hl, zeros-words, borrowed h l k m hl hm, sign-ltb h l hl, sign-ltb k m hm)
