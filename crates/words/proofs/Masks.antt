-- Masks, extract and concat.
use mathlib.Core.Path.{◌≡◌, sym, subst}
use Prim.Native.Nat.{ℕ, ◌+◌, ◌-◌, ◌*◌, ◌%◌, ◌^◌, ◌≤◌, ◌<◌}
use native.Mathlib.Nat.{mul_assoc, mod-eq_of_lt, mod-lt, one-mul, mul-add-mod_self_right, mul-mod_left, lt_of_lt_of_le}
use native.Mathlib.Decide.{dec_lt}
use native.Mathlib.Omega.{arith}
use lib.Bits.{bit_or, or_shifted, or_zero_l}
use lib.Pow as Pow
use lib.Pow.{pow_pos, pow-add, pow-lt, pow_mono, high, mod-pow-add}
use Rattle.words.specs.Wide.{concat_of}
use Rattle.words.proofs.Shifts.{shl-word, mod-digits}

-- a one shifted
pub one_shl : (k : ℕ) → k < 64 → 1 * 2 ^ k % 2 ^ 64 ≡ 2 ^ k
one_shl k h = rw (one-mul, mod-eq_of_lt (pow-lt h))

-- a number below 2^128 has no more than k bits, from 128 on
pub whole : {x : ℕ} (k : ℕ) → x < 2 ^ 128 → 128 ≤ k → x < 2 ^ k
whole k h g = lt_of_lt_of_le h (pow_mono {i = 128} {j = k} g)

low-mod : (j k h l : ℕ) → l % 2 ^ k ≡ (h * 2 ^ (j + k) + l) % 2 ^ k
low-mod j k h l = rw (pow-add 2 j k, ← mul_assoc, mul-add-mod_self_right (h * 2 ^ j) (2 ^ k) l)

-- a mask within the low word
pub low-64 : (k h l : ℕ) → k ≤ 64 → l % 2 ^ k ≡ (h * 2 ^ 64 + l) % 2 ^ k
low-64 k h l hk =
    let e : 64 - k + k ≡ 64 = omega arith in
    subst (λ (n : ℕ). l % 2 ^ k ≡ (h * 2 ^ n + l) % 2 ^ k) e (low-mod (64 - k) k h l)

-- a mask that keeps the low word
pub low-high : (k h l : ℕ) → 64 ≤ k → l < 2 ^ 64 → h % 2 ^ (k - 64) * 2 ^ 64 + l ≡ (h * 2 ^ 64 + l) % 2 ^ k
low-high k h l hk hl =
    let e : k - 64 + 64 ≡ k = omega arith in
    subst (λ (n : ℕ). h % 2 ^ (k - 64) * 2 ^ 64 + l ≡ (h * 2 ^ 64 + l) % 2 ^ n) e
    (rw (mod-pow-add (h * 2 ^ 64 + l) (k - 64) 64, high h 64 hl, Pow.low h 64 hl))

-- x above k bits, within j + k
join : (k j x r : ℕ) → r < 2 ^ k → bit_or (x * 2 ^ k % 2 ^ (k + j)) r ≡ (x * 2 ^ k + r) % 2 ^ (k + j)
join k j x r h = rw (shl-word k j x, or_shifted (x % 2 ^ j) k r h, mod-digits k j x r h)

-- the law of `concat`
pub joined : (k x y : ℕ) → y < 2 ^ 128 → bit_or (x * 2 ^ k % 2 ^ 128) (y % 2 ^ k) ≡ concat_of x y k % 2 ^ 128
joined k x y hy = by (dec_lt k 128)
  where
    by : Dec (k < 128) → bit_or (x * 2 ^ k % 2 ^ 128) (y % 2 ^ k) ≡ (x * 2 ^ k + y % 2 ^ k) % 2 ^ 128
    by (yes h) =
        let e : k + (128 - k) ≡ 128 = omega arith in
        subst (λ (n : ℕ). bit_or (x * 2 ^ k % 2 ^ n) (y % 2 ^ k) ≡ (x * 2 ^ k + y % 2 ^ k) % 2 ^ n) e
        (join k (128 - k) x (y % 2 ^ k) (mod-lt y (pow_pos k)))
    by (no h) =
        let e : k - 128 + 128 ≡ k = omega arith in
        let m : x * 2 ^ k ≡ x * 2 ^ (k - 128) * 2 ^ 128 = subst (λ (n : ℕ). x * 2 ^ n ≡ x * 2 ^ (k - 128) * 2 ^ 128) e (rw (pow-add 2 (k - 128) 128, ← mul_assoc)) in
        rw (mod-eq_of_lt (whole {x = y} k hy (omega arith)), m, mul-mod_left, or_zero_l y, mul-add-mod_self_right (x * 2 ^ (k - 128)) (2 ^ 128) y)
        (sym (mod-eq_of_lt hy))
