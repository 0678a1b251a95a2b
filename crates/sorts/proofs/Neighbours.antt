-- What holds of each of two neighbouring kinds, and of four; and that no other kind has a sort.
use mathlib.Core.Path.{◌≡◌, subst}
use Prim.Native.Nat.{ℕ, ◌+◌, ◌≤◌, ◌<◌}
use native.Mathlib.Omega.{arith}
use native.Mathlib.Decide.{dec_lt}
use Rattle.std.specs.Prelude.{false, eqb}
use Rattle.std.proofs.Common.{ne_eqb}
use Rattle.sorts.specs.Sorts.{sort_row}

pub of-two : (P : ℕ → Type 0) (n k : ℕ) → n ≤ k → k < n + 2 → P n → P (n + 1) → P k
of-two P n k h g p q = by (dec_lt n k)
  where
    by : Dec (n < k) → P k
    by (yes d) = let e : n + 1 ≡ k = omega arith in subst P e q
    by (no d) = let e : n ≡ k = omega arith in subst P e p

pub of-four : (P : ℕ → Type 0) (n k : ℕ) → n ≤ k → k < n + 4 → P n → P (n + 1) → P (n + 2) → P (n + 3) → P k
of-four P n k h g p q r s = by (dec_lt k (n + 2))
  where
    by : Dec (k < n + 2) → P k
    by (yes d) = of-two P n k h d p q
    by (no d) = of-two P (n + 2) k (omega arith) (omega arith) r (subst P (omega arith) s)

pub none-past : (k a b c sa sb sc : ℕ) → 30 ≤ k → 0 ≡ sort_row k a b c sa sb sc
unfolding sort_row
none-past k a b c sa sb sc h =
    let n : (j : ℕ) → j < 30 → eqb k j ≡ false = λ j g. ne_eqb k j (λ e. omega arith) in
    rw (n 1 (omega arith), n 2 (omega arith), n 3 (omega arith), n 4 (omega arith), n 5 (omega arith), n 6 (omega arith), n 7 (omega arith), n 8 (omega arith), n 9 (omega arith), n 10 (omega arith), n 11 (omega arith), n 12 (omega arith), n 13 (omega arith), n 14 (omega arith), n 15 (omega arith), n 16 (omega arith), n 17 (omega arith), n 18 (omega arith), n 19 (omega arith), n 20 (omega arith), n 21 (omega arith), n 22 (omega arith), n 23 (omega arith), n 24 (omega arith), n 25 (omega arith), n 26 (omega arith), n 27 (omega arith), n 28 (omega arith), n 29 (omega arith))
