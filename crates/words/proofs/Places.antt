-- Laws of numbers that stand in bytes.
use mathlib.Core.Path.{◌≡◌, refl}
use mathlib.Core.List.{List}
use Prim.Native.Nat.{ℕ, zero, suc, ◌+◌, ◌-◌, ◌*◌, ◌^◌, ◌≤◌, ◌<◌}
use native.Mathlib.Nat.{pow-succ', pow-le-pow_right, mul_assoc, zero-add, suc-add, add-zero, lt_of_lt_of_le}
use native.Mathlib.Omega.{arith}
use lib.ListN.{length, get_or-eq_default}
use Rattle.words.specs.Bytes.{number_in}

-- past the end there is nothing but zeros
pub number_past : (l : List ℕ) (p n : ℕ) → length l ≤ p → 0 ≡ number_in l p n
number_past l p zero h = refl
number_past l p (suc n) h =
    rw (get_or-eq_default l 0 {n = p} h, ← number_past l (p + 1) n (omega arith))

-- the number of m bytes and that of the n behind them are one
pub number-joins : (l : List ℕ) (m n p : ℕ) → number_in l p m + 256 ^ m * number_in l (p + m) n ≡ number_in l p (m + n)
number-joins l zero n p = rw (zero-add n, add-zero p) (omega arith)
number-joins l (suc m) n p =
    let e : p + suc m ≡ p + 1 + m = omega arith in
    let h = number-joins l m n (p + 1) in
    rw (suc-add, e, pow-succ' 256 m, mul_assoc) (omega (arith, h))

-- a byte in front of the m - i behind it
pub number-more : (l : List ℕ) (p m i b n : ℕ) → 1 ≤ i → i ≤ m → b ≡ number_in l (p + (i - 1)) 1 → n ≡ number_in l (p + i) (m - i)
    → b + 256 * n ≡ number_in l (p + (i - 1)) (m - (i - 1))
number-more l p m i b n h k e f =
    let q : p + (i - 1) + 1 ≡ p + i = omega arith in
    let r : 1 + (m - i) ≡ m - (i - 1) = omega arith in
    rw (e, f, ← q, ← r) (number-joins l 1 (m - i) (p + (i - 1)))

-- .. has a bound 256 times as large, and with up to eight bytes it is one of 64 bits
pub bound-more : (m i b n : ℕ) → 1 ≤ i → i ≤ m → b < 256 → n < 256 ^ (m - i) → b + 256 * n < 256 ^ (m - (i - 1))
bound-more m i b n h k e f =
    let r : m - (i - 1) ≡ suc (m - i) = omega arith in
    rw (r, pow-succ' 256 (m - i)) (omega arith)

pub power : (i j n : ℕ) → i ≤ j → n < 256 ^ i → n < 256 ^ j
power i j n h k = lt_of_lt_of_le k (pow-le-pow_right {n = 256} (omega arith) {i = i} {j = j} h)

-- nothing is left in front
pub all-read : (l : List ℕ) (p m i n : ℕ) → i ≡ 0 → n ≡ number_in l (p + i) (m - i) → n ≡ number_in l p m
all-read l p m i n z e =
    let q : p + i ≡ p = omega arith in
    let r : m - i ≡ m = omega arith in
    rw (q, r) at e
