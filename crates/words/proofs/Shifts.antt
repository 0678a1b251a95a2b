-- The shifts of two words, over the place j + k where the words part.
use mathlib.Core.Path.{◌≡◌, sym, subst, ◌∙◌, ap}
use Prim.Native.Nat.{ℕ, ◌+◌, ◌-◌, ◌*◌, ◌/◌, ◌%◌, ◌^◌, ◌≤◌, ◌<◌}
use native.Mathlib.Nat.{add_comm, mul_assoc, mul_comm, add-mul, add-zero, mul-mod_left, div-add-mod', mul-add-div_right, mul-add-mod_self_right, mul-div-mul_right}
use native.Mathlib.Omega.{arith}
use lib.Bits.{bit_or, or_shifted_r, or_shifted}
use lib.Arith.{mod-mul, digits_lt}
use lib.Pow as Pow
use lib.Pow.{pow_pos, pow-add, shl-shr, shr-shr, shr_lt, high, mod-pow-add}

pub two-lt : {h l : ℕ} → h < 2 ^ 64 → l < 2 ^ 64 → h * 2 ^ 64 + l < 2 ^ 128
two-lt hh hl = digits_lt hh hl

-- what a shift to the left keeps in a word
pub shl-word : (j k h : ℕ) → h * 2 ^ j % 2 ^ (j + k) ≡ h % 2 ^ k * 2 ^ j
shl-word j k h = rw (add_comm j k, pow-add 2 k j, mod-mul (h * 2 ^ j) (pow_pos k) (pow_pos j), shl-shr, mul-mod_left, add-zero)

-- a split number, shifted
pub split-shl : (j k h : ℕ) → h / 2 ^ k * 2 ^ (j + k) + h % 2 ^ k * 2 ^ j ≡ h * 2 ^ j
split-shl j k h = rw (add_comm j k, pow-add 2 k j, ← mul_assoc, ← add-mul, div-add-mod')

pub shr-sum : (j k h l : ℕ) → (h * 2 ^ (j + k) + l) / 2 ^ k ≡ h * 2 ^ j + l / 2 ^ k
shr-sum j k h l = rw (pow-add 2 j k, ← mul_assoc, mul-add-div_right (pow_pos k) (h * 2 ^ j) l)

pub shr-two : (j k h l : ℕ) → l < 2 ^ (j + k)
    → h / 2 ^ k * 2 ^ (j + k) + bit_or (l / 2 ^ k) (h * 2 ^ j % 2 ^ (j + k)) ≡ (h * 2 ^ (j + k) + l) / 2 ^ k
shr-two j k h l hl =
    rw (shl-word j k h, shr-sum j k h l)
    (omega (arith, split-shl j k h, or_shifted_r (h % 2 ^ k) j (l / 2 ^ k) (shr_lt j k hl)))

-- the law of `shr`, at 64
pub shr-64 : (k h l : ℕ) → k ≤ 64 → l < 2 ^ 64
    → h / 2 ^ k * 2 ^ 64 + bit_or (l / 2 ^ k) (h * 2 ^ (64 - k) % 2 ^ 64) ≡ (h * 2 ^ 64 + l) / 2 ^ k
shr-64 k h l hk =
    let e : 64 - k + k ≡ 64 = omega arith in
    subst
    (λ (n : ℕ). l < 2 ^ n → h / 2 ^ k * 2 ^ n + bit_or (l / 2 ^ k) (h * 2 ^ (64 - k) % 2 ^ n) ≡ (h * 2 ^ n + l) / 2 ^ k)
    e (shr-two (64 - k) k h l)

-- and from 64 on
pub shr_high : (k h l : ℕ) → 64 ≤ k → l < 2 ^ 64 → h / 2 ^ (k - 64) ≡ (h * 2 ^ 64 + l) / 2 ^ k
shr_high k h l hk hl =
    let e : 64 + (k - 64) ≡ k = omega arith in
    subst (λ (n : ℕ). h / 2 ^ (k - 64) ≡ (h * 2 ^ 64 + l) / 2 ^ n) e
    (ap (λ (n : ℕ). n / 2 ^ (k - 64)) (sym (high h 64 hl)) ∙ shr-shr (h * 2 ^ 64 + l) 64 (k - 64))

-- the law of `shl`
pub shl-div : (k j h l : ℕ) → (h * 2 ^ (k + j) + l) * 2 ^ k / 2 ^ (k + j) ≡ h * 2 ^ k + l / 2 ^ j
shl-div k j h l =
    rw (add_comm k j, pow-add 2 j k, mul-div-mul_right (h * (2 ^ j * 2 ^ k) + l) (2 ^ j) (pow_pos k), mul_comm (2 ^ j) (2 ^ k), ← mul_assoc, mul-add-div_right (pow_pos j) (h * 2 ^ k) l)

pub shl-mod : (k w h l : ℕ) → (h * 2 ^ w + l) * 2 ^ k % 2 ^ w ≡ l * 2 ^ k % 2 ^ w
shl-mod k w h l =
    rw (add-mul, mul_assoc, mul_comm (2 ^ w) (2 ^ k), ← mul_assoc, mul-add-mod_self_right (h * 2 ^ k) (2 ^ w) (l * 2 ^ k))

pub mod-digits : (k j h r : ℕ) → r < 2 ^ k → (h * 2 ^ k + r) % 2 ^ (k + j) ≡ h % 2 ^ j * 2 ^ k + r
mod-digits k j h r hr = rw (add_comm k j, pow-add 2 j k, mod-mul (h * 2 ^ k + r) (pow_pos j) (pow_pos k), high h k hr, Pow.low h k hr)

pub shl-two : (k j h l : ℕ) → l < 2 ^ (k + j)
    → bit_or (h * 2 ^ k % 2 ^ (k + j)) (l / 2 ^ j) * 2 ^ (k + j) + l * 2 ^ k % 2 ^ (k + j) ≡ (h * 2 ^ (k + j) + l) * 2 ^ k % 2 ^ (k + j + (k + j))
shl-two k j h l hl =
    let r : l / 2 ^ j < 2 ^ k = shr_lt k j hl in
    rw (shl-word k j h, or_shifted (h % 2 ^ j) k (l / 2 ^ j) r, mod-pow-add ((h * 2 ^ (k + j) + l) * 2 ^ k) (k + j) (k + j), shl-div k j h l, shl-mod k (k + j) h l, mod-digits k j h (l / 2 ^ j) r)

pub shl-64 : (k h l : ℕ) → k ≤ 64 → l < 2 ^ 64
    → bit_or (h * 2 ^ k % 2 ^ 64) (l / 2 ^ (64 - k)) * 2 ^ 64 + l * 2 ^ k % 2 ^ 64 ≡ (h * 2 ^ 64 + l) * 2 ^ k % 2 ^ 128
shl-64 k h l hk =
    let e : k + (64 - k) ≡ 64 = omega arith in
    subst
    (λ (n : ℕ). l < 2 ^ n → bit_or (h * 2 ^ k % 2 ^ n) (l / 2 ^ (64 - k)) * 2 ^ n + l * 2 ^ k % 2 ^ n ≡ (h * 2 ^ n + l) * 2 ^ k % 2 ^ (n + n))
    e (shl-two k (64 - k) h l)

pub shl_wide : (w m h l : ℕ) → l * 2 ^ m % 2 ^ w * 2 ^ w ≡ (h * 2 ^ w + l) * 2 ^ (w + m) % 2 ^ (w + w)
shl_wide w m h l =
    rw (add_comm w m, pow-add 2 m w, ← mul_assoc, shl-word w w ((h * 2 ^ w + l) * 2 ^ m), shl-mod m w h l)

pub shl-high : (k h l : ℕ) → 64 ≤ k → l * 2 ^ (k - 64) % 2 ^ 64 * 2 ^ 64 ≡ (h * 2 ^ 64 + l) * 2 ^ k % 2 ^ 128
shl-high k h l hk =
    let e : 64 + (k - 64) ≡ k = omega arith in
    subst (λ (n : ℕ). l * 2 ^ (k - 64) % 2 ^ 64 * 2 ^ 64 ≡ (h * 2 ^ 64 + l) * 2 ^ n % 2 ^ 128) e (shl_wide 64 (k - 64) h l)

pub shl-out : (k x : ℕ) → 128 ≤ k → 0 ≡ x * 2 ^ k % 2 ^ 128
shl-out k x hk =
    let e : k - 128 + 128 ≡ k = omega arith in
    subst (λ (n : ℕ). 0 ≡ x * 2 ^ n % 2 ^ 128) e (rw (pow-add 2 (k - 128) 128, ← mul_assoc, mul-mod_left))
