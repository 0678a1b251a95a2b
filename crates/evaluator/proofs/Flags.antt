-- Numbers of one bit: what the code's words say of two flags, and the bits of the kinds that are given.
use mathlib.Core.Bool.{Bool, true, false, not, ◌&&◌, ◌||◌, beq}
use mathlib.Core.Path.{◌≡◌, refl, sym, subst}
use Prim.Native.Nat.{ℕ, zero, suc, ◌+◌, ◌*◌, ◌/◌, ◌^◌, ◌<◌}
use native.Mathlib.Decide.{dec_lt}
use native.Mathlib.Omega.{arith}
use lib.Bits.{bit_and, bit_or, bit_xor}
use lib.Dec.{eqb}
use Rattle.words.specs.Tests.{and_l, and_r}
use Rattle.evaluator.specs.Value.{flag_of, is_given}
use Rattle.evaluator.proofs.Compare.{narrow}

bit : (P : ℕ → Type 0) → P 0 → P 1 → (a : ℕ) → a < 2 → P a
bit P x y zero h = x
bit P x y (suc zero) h = y
bit P x y (suc (suc a)) h = absurd (omega arith)

bits : (P : ℕ → ℕ → Type 0) → P 0 0 → P 0 1 → P 1 0 → P 1 1 → (a b : ℕ) → a < 2 → b < 2 → P a b
bits P x y z t a b h k = bit (λ (m : ℕ). P m b) (bit (P 0) x y b k) (bit (P 1) z t b k) a h

module _ (ha la : ℕ) (h : ha * 2 ^ 64 + la < 2) where
  pub low-is : la ≡ ha * 2 ^ 64 + la
  low-is = narrow ha la 2 (omega arith) h

  pub other : bit_xor la 1 ≡ flag_of (not (eqb (ha * 2 ^ 64 + la) 1))
  other = rw (← low-is) (bit (λ (m : ℕ). bit_xor m 1 ≡ flag_of (not (eqb m 1))) refl refl la (rw (sym low-is) at h))

  module _ (hb lb : ℕ) (k : hb * 2 ^ 64 + lb < 2) where
    second : lb ≡ hb * 2 ^ 64 + lb
    second = narrow hb lb 2 (omega arith) k

    pub both : bit_and la lb ≡ flag_of (eqb (ha * 2 ^ 64 + la) 1 && eqb (hb * 2 ^ 64 + lb) 1)
    both = rw (← low-is, ← second)
        (bits (λ (m n : ℕ). bit_and m n ≡ flag_of (eqb m 1 && eqb n 1)) refl refl refl refl la lb (rw (sym low-is) at h) (rw (sym second) at k))

    pub either : bit_or la lb ≡ flag_of (eqb (ha * 2 ^ 64 + la) 1 || eqb (hb * 2 ^ 64 + lb) 1)
    either = rw (← low-is, ← second)
        (bits (λ (m n : ℕ). bit_or m n ≡ flag_of (eqb m 1 || eqb n 1)) refl refl refl refl la lb (rw (sym low-is) at h) (rw (sym second) at k))

-- what holds of each number below n, by trying each
below : (ℕ → Bool) → ℕ → Bool
below P zero = true
below P (suc n) = P n && below P n

each : (P : ℕ → Bool) (n : ℕ) → below P n ≡ true → (k : ℕ) → k < n → P k ≡ true
unfolding below
each P zero e k h = absurd (omega arith)
each P (suc n) e k h = by (λ l. each P n (and_r (P n) (below P n) e) k l) (dec_lt k n)
  where
    by : (k < n → P k ≡ true) → Dec (k < n) → P k ≡ true
    by f (yes l) = f l
    by f (no l) = let q : n ≡ k = omega arith in subst (λ (m : ℕ). P m ≡ true) q (and_l (P n) (below P n) e)

alike : (a b : Bool) → beq a b ≡ true → a ≡ b
alike true true e = refl
alike true false e = sym e
alike false true e = e
alike false false e = refl

-- the kinds whose value is given, as the bits of one word
pub given-bit : (k : ℕ) → k < 64 → eqb (bit_and (965673022 / 2 ^ k) 1) 1 ≡ is_given k
unfolding below
given-bit k h = alike _ _ (each (λ (m : ℕ). beq (eqb (bit_and (965673022 / 2 ^ m) 1) 1) (is_given m)) 64 refl k h)
