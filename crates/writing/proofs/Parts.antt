-- A digit and a bit more.
use mathlib.Core.Path.{◌≡◌, refl}
use mathlib.Core.List.{[], ◌∷◌, ◌++◌}
use Prim.Native.Nat.{ℕ, zero, suc, ◌+◌, ◌-◌, ◌/◌, ◌%◌, ◌^◌, ◌≤◌, ◌<◌}
use native.Mathlib.Nat.{pow-suc, div-div-eq-div-mul}
use native.Mathlib.Omega.{arith}
use borrow.Author.Tests.{lt-ltb, le-ltb}
use Rattle.std.proofs.Common.{⊎_elim, eq-zero-or-pos, true, false, ltb}
use Rattle.words.specs.declared.Wide.{Wide}
use Rattle.words.specs.Wide.{wide_of}
use Rattle.writing.specs.Bytes.{digits, decimal, bits}

-- a number of one digit, and of more
few : (k v : ℕ) → (k ≡ 0 → ⊥) → v < 10 → (48 + v) ∷ [] ≡ digits k v
unfolding digits
few zero v h l = absurd (h refl)
few (suc k) v h l = rw (lt-ltb v 10 l)

many : (k v : ℕ) → (k ≡ 0 → ⊥) → 10 ≤ v → digits (k - 1) (v / 10) ++ ((48 + v % 10) ∷ []) ≡ digits k v
unfolding digits
many zero v h l = absurd (h refl)
many (suc k) v h l = let q : suc k - 1 ≡ k = omega arith in rw (le-ltb v 10 l, q)

-- one digit more than are needed changes nothing
enough : (k v : ℕ) → 0 < k → v < 10 ^ k → digits (suc k) v ≡ digits k v
unfolding digits
enough zero v z h = absurd (omega arith)
enough (suc k) v z h =
    ⊎_elim
    (λ (q : 10 - v ≡ 0).
    let t : ltb v 10 ≡ false = le-ltb v 10 (omega arith) in
    rw (t, enough k (v / 10) (some k v (omega arith) h) (omega (arith, pow-suc 10 k))) refl)
    (λ (q : 0 < 10 - v). let t : ltb v 10 ≡ true = lt-ltb v 10 (omega arith) in rw t refl)
    (eq-zero-or-pos (10 - v))
  where
    some : (k v : ℕ) → 10 ≤ v → v < 10 ^ suc k → 0 < k
    some zero v m h = absurd (omega arith)
    some (suc k) v m h = omega arith

-- a number in decimal: of one digit, or of more
pub one-digit : (v : ℕ) → v < 10 → (48 + v) ∷ [] ≡ decimal v
unfolding decimal
one-digit v h = few 20 v (λ e. absurd (omega arith)) h

pub more-digits : (v : ℕ) → 10 ≤ v → v < 2 ^ 64 → decimal (v / 10) ++ ((48 + v % 10) ∷ []) ≡ decimal v
unfolding decimal
more-digits v h w = rw (enough 19 (v / 10) (omega arith) (omega arith)) (many 20 v (λ e. absurd (omega arith)) h)

-- the bits from bit i on are those from bit i + 1 on, and bit i
bits-suc : (n i v : ℕ) → bits n (v / 2 ^ suc i) ++ ((48 + v / 2 ^ i % 2) ∷ []) ≡ bits (suc n) (v / 2 ^ i)
unfolding bits
bits-suc n i v = rw (div-div-eq-div-mul v (2 ^ i) 2, pow-suc 2 i)

-- none at first
pub bits_none : (n v : ℕ) → [] ≡ bits (n - n) v
unfolding bits
bits_none n v = let q : n - n ≡ 0 = omega arith in rw q

-- .. where bit i is taken from the two words of what is left
pub bits-more : (n i v : ℕ) → i ≤ n → 0 < i → (r : Wide) (b : ℕ) → r ≡ wide_of (v / 2 ^ (i - 1)) → b ≡ r.lo
    → bits (n - i) (v / 2 ^ i) ++ ((48 + b % 2) ∷ []) ≡ bits (n - (i - 1)) (v / 2 ^ (i - 1))
bits-more n zero v h z r b e f = absurd (omega arith)
bits-more n (suc i) v h z r b e f =
    let j : suc i - 1 ≡ i = omega arith in
    let k : n - i ≡ suc (n - suc i) = omega arith in
    let w : b % 2 ≡ v / 2 ^ i % 2 = rw (f, e, j) (omega arith) in
    rw (w, j, k) (bits-suc (n - suc i) i v)
