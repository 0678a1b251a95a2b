-- Comparing patterns gives the order of the numbers that they stand for: the size of a number grows with the pattern below its sign.
use Rattle.std.specs.Prelude.{Bool, true, false, cond, not, ◌&&◌, ◌≡◌, refl, ℕ, zero, suc, ◌+◌, ◌-◌, ◌*◌, ◌/◌, ◌%◌, ◌^◌, ◌≤◌, ◌<◌, ltb, eqb}
use Rattle.std.specs.Bool.{beq}
use Rattle.std.proofs.Math.Bool.{and-false, or-false}
use Rattle.std.proofs.Common.{sym, subst, ◌∙◌, ap, mod-lt, mul_assoc, add-mul, lt_of_lt_of_le, le_trans, mul-le-mul_left, mul-lt-mul_of_pos_right, mod-eq_of_lt, arith, pow_pos, pow-add, pow_mono, lt-ltb, le-ltb, eq-eqb, ne_eqb, eqb-true}
use Rattle.std.proofs.Math.Nat.{div-eq_of_lt}
use Rattle.std.proofs.Math.Decide.{dec_lt}
use Rattle.std.proofs.Math.Arith.{digits_lt}
use Rattle.std.proofs.Math.Dec.{eqb-suc-zero}
use Rattle.std.proofs.Math.Pow.{shr_mono, split, field, mod-mod-pow}
use Rattle.std.proofs.lemmas.Nat.{mod-pow-add}
use Rattle.std.proofs.lemmas.Bool.{eqb-false}
use Rattle.evaluator.specs.Formats.{exponent_bits, fraction_bits, sign_place, inf_of}
use Rattle.evaluator.specs.Exact.{Exact, nan, infinite, finite, is_negative, significand, exact_of, signed_below, signed_same, less_than, same_as, no_number, is_nan, f_lt, f_eq}

-- the size of exponent e and fraction m
abbrev size : ℕ → ℕ → ℕ → ℕ
size p e m = significand p e m * 2 ^ (e - 1)

-- a size is below all of the next exponent
below_next : (p e m : ℕ) → m < 2 ^ p → size p e m < 2 ^ p * 2 ^ e
below_next p zero m h = omega arith
below_next p (suc k) m h =
    let e : suc k - 1 ≡ k = omega arith in
    let n : suc k ≡ k + 1 = omega arith in
    let g : m * 2 ^ k < 2 ^ p * 2 ^ k = mul-lt-mul_of_pos_right h (pow_pos k) in
    let q : 2 ^ p * 2 ^ suc k ≡ 2 ^ p * 2 ^ k * 2 = ap (λ (x : ℕ). 2 ^ p * 2 ^ x) n ∙ ap (λ (x : ℕ). 2 ^ p * x) (pow-add 2 k 1) ∙ sym (mul_assoc (2 ^ p) (2 ^ k) 2) in
    rw (eqb-suc-zero k, e, q, add-mul) (omega arith)

from-hidden : (p k m : ℕ) → 2 ^ p * 2 ^ k ≤ size p (suc k) m
from-hidden p k m =
    let e : suc k - 1 ≡ k = omega arith in
    rw (eqb-suc-zero k, e, add-mul) (omega arith)

-- a greater exponent is a greater size
by-exponent : (p e m e' m' : ℕ) → m < 2 ^ p → e < e' → size p e m < size p e' m'
by-exponent p e m zero m' h k = absurd (none k)
  where
    none : e < zero → ⊥
    none q = omega arith
by-exponent p e m (suc k) m' h g =
    lt_of_lt_of_le (below_next p e m h) (le_trans (mul-le-mul_left (2 ^ p) (pow_mono {i = e} {j = k} (omega arith))) (from-hidden p k m'))

-- and at one exponent a greater fraction
by_fraction : (p e m m' : ℕ) → m < m' → size p e m < size p e m'
by_fraction p zero m m' h = omega arith
by_fraction p (suc k) m m' h =
    let s : 2 ^ p + m < 2 ^ p + m' = omega arith in
    rw eqb-suc-zero (mul-lt-mul_of_pos_right s (pow_pos (suc k - 1)))

-- the size of a pattern without its sign
abbrev pub size_of : ℕ → ℕ → ℕ
size_of p t = size p (t / 2 ^ p) (t % 2 ^ p)

pub size-lt : (p t u : ℕ) → t < u → size_of p t < size_of p u
size-lt p t u h = by (dec_lt (t / 2 ^ p) (u / 2 ^ p))
  where
    by : Dec (t / 2 ^ p < u / 2 ^ p) → size_of p t < size_of p u
    by (yes k) = by-exponent p (t / 2 ^ p) (t % 2 ^ p) (u / 2 ^ p) (u % 2 ^ p) (mod-lt t (pow_pos p)) k
    by (no k) =
        let le : t ≤ u = omega arith in
        let m = shr_mono {a = t} {b = u} p le in
        let e : t / 2 ^ p ≡ u / 2 ^ p = omega arith in
        let f : t % 2 ^ p < u % 2 ^ p = omega (arith, split t p, split u p, ap (λ (x : ℕ). x * 2 ^ p) e) in
        subst (λ (x : ℕ). size p x (t % 2 ^ p) < size p (u / 2 ^ p) (u % 2 ^ p)) (sym e) (by_fraction p (u / 2 ^ p) (t % 2 ^ p) (u % 2 ^ p) f)

size-le : (p t u : ℕ) → t ≤ u → size_of p t ≤ size_of p u
size-le p t u h = by (dec_lt t u)
  where
    by : Dec (t < u) → size_of p t ≤ size_of p u
    by (yes k) = omega (arith, size-lt p t u k)
    by (no k) = let e : t ≡ u = omega arith in omega (arith, ap (size_of p) e)

pub size-ltb : (p t u : ℕ) → ltb (size_of p t) (size_of p u) ≡ ltb t u
size-ltb p t u = by (dec_lt t u)
  where
    by : Dec (t < u) → ltb (size_of p t) (size_of p u) ≡ ltb t u
    by (yes k) = lt-ltb (size_of p t) (size_of p u) (size-lt p t u k) ∙ sym (lt-ltb t u k)
    by (no k) = let g : u ≤ t = omega arith in le-ltb (size_of p t) (size_of p u) (size-le p u t g) ∙ sym (le-ltb t u g)

pub size-eqb : (p t u : ℕ) → eqb (size_of p t) (size_of p u) ≡ eqb t u
size-eqb p t u = by (dec_lt t u) (dec_lt u t)
  where
    by : Dec (t < u) → Dec (u < t) → eqb (size_of p t) (size_of p u) ≡ eqb t u
    by (yes k) d = ne_eqb (size_of p t) (size_of p u) (λ e. omega (arith, size-lt p t u k)) ∙ sym (ne_eqb t u (λ e. omega arith))
    by (no k) (yes g) = ne_eqb (size_of p t) (size_of p u) (λ e. omega (arith, size-lt p u t g)) ∙ sym (ne_eqb t u (λ e. omega arith))
    by (no k) (no g) = let e : t ≡ u = omega arith in eq-eqb (size_of p t) (size_of p u) (ap (size_of p) e) ∙ sym (eq-eqb t u e)

size-zero : (p : ℕ) → size_of p 0 ≡ 0
size-zero p = rw (div-eq_of_lt (pow_pos p), mod-eq_of_lt (pow_pos p))

size_none : (p t : ℕ) → eqb (size_of p t) 0 ≡ eqb t 0
size_none p t = ap (eqb (size_of p t)) (sym (size-zero p)) ∙ size-eqb p t 0

-- what a pattern with a below its sign s stands for, where i is infinity's
data Case (p i a : ℕ) (s : Bool) : Exact → Type 0 where
  of_nan : i < a → Case p i a s nan
  of_inf : a ≡ i → Case p i a s (infinite s)
  of_fin : (m e : ℕ) → a < i → m * 2 ^ e ≡ size_of p a → Case p i a s (finite s m e)

some : (n : ℕ) → (n ≡ 0 → ⊥) → 0 < n
some zero f = absurd (f refl)
some (suc n) f = omega arith

less : (e n : ℕ) → e < n → (e ≡ n - 1 → ⊥) → e < n - 1
less e n h f = by (dec_lt e (n - 1))
  where
    by : Dec (e < n - 1) → e < n - 1
    by (yes k) = k
    by (no k) = let z : e ≡ n - 1 = omega arith in absurd (f z)

case_at : (q p v : ℕ) (s : Bool)
    → Case p ((2 ^ q - 1) * 2 ^ p) (v % 2 ^ (q + p)) s
    (cond (eqb (v / 2 ^ p % 2 ^ q) (2 ^ q - 1)) (cond (eqb (v % 2 ^ p) 0) (infinite s) nan)
    (finite s (significand p (v / 2 ^ p % 2 ^ q) (v % 2 ^ p)) (v / 2 ^ p % 2 ^ q - 1)))
case_at q p v s = by (eqb (v / 2 ^ p % 2 ^ q) (2 ^ q - 1)) (eqb (v % 2 ^ p) 0) refl refl
  where
    by : (b d : Bool) → eqb (v / 2 ^ p % 2 ^ q) (2 ^ q - 1) ≡ b → eqb (v % 2 ^ p) 0 ≡ d
        → Case p ((2 ^ q - 1) * 2 ^ p) (v % 2 ^ (q + p)) s
        (cond b (cond d (infinite s) nan) (finite s (significand p (v / 2 ^ p % 2 ^ q) (v % 2 ^ p)) (v / 2 ^ p % 2 ^ q - 1)))
    by true true e f =
        let g = ap (λ (x : ℕ). x * 2 ^ p) (eqb-true (v / 2 ^ p % 2 ^ q) (2 ^ q - 1) e) in
        let z = eqb-true (v % 2 ^ p) 0 f in
        of_inf (omega (arith, mod-pow-add v q p))
    by true false e f =
        let g = ap (λ (x : ℕ). x * 2 ^ p) (eqb-true (v / 2 ^ p % 2 ^ q) (2 ^ q - 1) e) in
        let z : 0 < v % 2 ^ p = some (v % 2 ^ p) (eqb-false (v % 2 ^ p) 0 f) in
        of_nan (omega (arith, mod-pow-add v q p))
    by false d e f =
        let n = eqb-false (v / 2 ^ p % 2 ^ q) (2 ^ q - 1) e in
        let h : v / 2 ^ p % 2 ^ q < 2 ^ q - 1 = less (v / 2 ^ p % 2 ^ q) (2 ^ q) (mod-lt (v / 2 ^ p) (pow_pos q)) n in
        of_fin (significand p (v / 2 ^ p % 2 ^ q) (v % 2 ^ p)) (v / 2 ^ p % 2 ^ q - 1)
        (subst (λ (x : ℕ). x < (2 ^ q - 1) * 2 ^ p) (sym (mod-pow-add v q p)) (digits_lt h (mod-lt v (pow_pos p))))
        (rw (field v q p, mod-mod-pow v q p))

case-of : (f v : ℕ) → Case (fraction_bits f) (inf_of f) (v % 2 ^ sign_place f) (is_negative f v) (exact_of f v)
unfolding exact_of
case-of f v = case_at (exponent_bits f) (fraction_bits f) v (is_negative f v)

inf-some : (f : ℕ) → 0 < inf_of f
inf-some f = by (eqb f 2072) (eqb f 2869)
  where
    by : (x y : Bool) → 0 < (2 ^ cond x 8 (cond y 11 15) - 1) * 2 ^ cond x 23 (cond y 52 63)
    by true y = omega arith
    by false true = omega arith
    by false false = omega arith

nan-case : (p i a : ℕ) (s : Bool) {x : Exact} → Case p i a s x → no_number x ≡ ltb i a
nan-case p i a s (of_nan h) = sym (lt-ltb i a h)
nan-case p i a s (of_inf h) = let k : a ≤ i = omega arith in sym (le-ltb i a k)
nan-case p i a s (of_fin m e h g) = let k : a ≤ i = omega arith in sym (le-ltb i a k)

-- a NaN is a pattern above infinity's
pub nan-law : (f v : ℕ) → is_nan f v ≡ ltb (inf_of f) (v % 2 ^ sign_place f)
unfolding is_nan
nan-law f v = nan-case (fraction_bits f) (inf_of f) (v % 2 ^ sign_place f) (is_negative f v) (case-of f v)

module _ (i a b : ℕ) (pos : 0 < i) where
  both-inf : (s t : Bool) → a ≡ i → b ≡ i → s && not t ≡ signed_below s a t b
  both-inf false false e f = let k : b ≤ a = omega arith in sym (le-ltb a b k)
  both-inf false true e f = refl
  both-inf true false e f = let n : a ≡ 0 → ⊥ = λ z. omega arith in rw (ne_eqb a 0 n)
  both-inf true true e f = let k : a ≤ b = omega arith in sym (le-ltb b a k)

  inf-fin : (s t : Bool) → a ≡ i → b < i → s ≡ signed_below s a t b
  inf-fin false false e f = let k : b ≤ a = omega arith in sym (le-ltb a b k)
  inf-fin false true e f = refl
  inf-fin true false e f = let n : a ≡ 0 → ⊥ = λ z. omega arith in rw (ne_eqb a 0 n)
  inf-fin true true e f = let k : b < a = omega arith in sym (lt-ltb b a k)

  fin-inf : (s t : Bool) → a < i → b ≡ i → not t ≡ signed_below s a t b
  fin-inf false false e f = let k : a < b = omega arith in sym (lt-ltb a b k)
  fin-inf false true e f = refl
  fin-inf true false e f = let n : b ≡ 0 → ⊥ = λ z. omega arith in rw (ne_eqb b 0 n, and-false)
  fin-inf true true e f = let k : a ≤ b = omega arith in sym (le-ltb b a k)

sizes-below : (p a b : ℕ) (s t : Bool) → signed_below s (size_of p a) t (size_of p b) ≡ signed_below s a t b
sizes-below p a b false false = size-ltb p a b
sizes-below p a b false true = refl
sizes-below p a b true false = rw (size_none p a, size_none p b)
sizes-below p a b true true = size-ltb p b a

lt-case : (p i a b : ℕ) (s t : Bool) {x y : Exact} → 0 < i → Case p i a s x → Case p i b t y
    → less_than x y ≡ (not (no_number x) && not (no_number y)) && signed_below s a t b
lt-case p i a b s t pos (of_nan h) cy = refl
lt-case p i a b s t pos (of_inf h) (of_nan k) = refl
lt-case p i a b s t pos (of_inf h) (of_inf k) = both-inf i a b pos s t h k
lt-case p i a b s t pos (of_inf h) (of_fin n d k g) = inf-fin i a b pos s t h k
lt-case p i a b s t pos (of_fin m e h g) (of_nan k) = refl
lt-case p i a b s t pos (of_fin m e h g) (of_inf k) = fin-inf i a b pos s t h k
lt-case p i a b s t pos (of_fin m e h g) (of_fin n d k q) = rw (g, q) (sizes-below p a b s t)

-- THE ORDER OF THE NUMBERS IS THAT OF THE PATTERNS, sign by sign, NaN apart
pub lt-law : (f x y : ℕ)
    → f_lt f x y ≡ (not (is_nan f x) && not (is_nan f y)) && signed_below (is_negative f x) (x % 2 ^ sign_place f) (is_negative f y) (y % 2 ^ sign_place f)
unfolding f_lt is_nan
lt-law f x y =
    lt-case (fraction_bits f) (inf_of f) (x % 2 ^ sign_place f) (y % 2 ^ sign_place f) (is_negative f x) (is_negative f y)
    (inf-some f) (case-of f x) (case-of f y)

inf-same : (i a b : ℕ) (s t : Bool) → 0 < i → a ≡ i → b ≡ i → beq s t ≡ signed_same s a t b
inf-same i a b s t pos e f =
    let n : a ≡ 0 → ⊥ = λ z. omega arith in
    let q : a ≡ b = omega arith in
    simp (eq-eqb a b q, ne_eqb a 0 n, or-false)

not_same : (a b : ℕ) (s t : Bool) → (a ≡ b → ⊥) → false ≡ signed_same s a t b
not_same a b s t n = rw (ne_eqb a b n)

eq-case : (p i a b : ℕ) (s t : Bool) {x y : Exact} → 0 < i → Case p i a s x → Case p i b t y
    → same_as x y ≡ (not (no_number x) && not (no_number y)) && signed_same s a t b
eq-case p i a b s t pos (of_nan h) cy = refl
eq-case p i a b s t pos (of_inf h) (of_nan k) = refl
eq-case p i a b s t pos (of_inf h) (of_inf k) = inf-same i a b s t pos h k
eq-case p i a b s t pos (of_inf h) (of_fin n d k g) = not_same a b s t (λ z. omega arith)
eq-case p i a b s t pos (of_fin m e h g) (of_nan k) = refl
eq-case p i a b s t pos (of_fin m e h g) (of_inf k) = not_same a b s t (λ z. omega arith)
eq-case p i a b s t pos (of_fin m e h g) (of_fin n d k q) = rw (g, q, size-eqb p a b, size_none p a)

-- AND THEIR EQUALITY THAT OF THE PATTERNS, both zeros apart
pub eq-law : (f x y : ℕ)
    → f_eq f x y ≡ (not (is_nan f x) && not (is_nan f y)) && signed_same (is_negative f x) (x % 2 ^ sign_place f) (is_negative f y) (y % 2 ^ sign_place f)
unfolding f_eq is_nan
eq-law f x y =
    eq-case (fraction_bits f) (inf_of f) (x % 2 ^ sign_place f) (y % 2 ^ sign_place f) (is_negative f x) (is_negative f y)
    (inf-some f) (case-of f x) (case-of f y)
