-- Equality of two-word numbers, and what fits k bits, word by word.
use mathlib.Core.Path.{◌≡◌}
use mathlib.Core.Bool.{◌&&◌}
use Prim.Native.Nat.{ℕ, ◌+◌, ◌-◌, ◌*◌, ◌/◌, ◌^◌, ◌≤◌, ◌<◌}
use native.Mathlib.Nat.{div-eq_of_lt, div-lt_iff_lt-mul}
use native.Mathlib.Omega.{arith}
use lib.Dec.{ltb, eqb}
use lib.Pow.{pow_pos, pow-lt}
use borrow.Author.Tests.{lt-ltb, ltb-true, eq-eqb, eqb-true}
use Rattle.words.specs.Tests.{and_l, and_r, and_i, same_test}
use Rattle.words.proofs.Shifts.{shr_high}

module _ (hx lx hy ly : ℕ) (kx : lx < 2 ^ 64) (ky : ly < 2 ^ 64) where
  pub eq-two : eqb hx hy && eqb lx ly ≡ eqb (hx * 2 ^ 64 + lx) (hy * 2 ^ 64 + ly)
  eq-two =
      same_test (eqb hx hy && eqb lx ly) (eqb (hx * 2 ^ 64 + lx) (hy * 2 ^ 64 + ly))
      (λ e. let h = eqb-true hx hy (and_l (eqb hx hy) (eqb lx ly) e) in let k = eqb-true lx ly (and_r (eqb hx hy) (eqb lx ly) e) in
      eq-eqb (hx * 2 ^ 64 + lx) (hy * 2 ^ 64 + ly) (omega arith))
      (λ e. let h = eqb-true (hx * 2 ^ 64 + lx) (hy * 2 ^ 64 + ly) e in
      and_i (eqb hx hy) (eqb lx ly) (eq-eqb hx hy (omega arith)) (eq-eqb lx ly (omega arith)))

-- nothing of a number is above its low k bits exactly if they hold it
none_above : (k v : ℕ) → eqb (v / 2 ^ k) 0 ≡ ltb v (2 ^ k)
none_above k v =
    same_test (eqb (v / 2 ^ k) 0) (ltb v (2 ^ k))
    (λ e. let z = eqb-true (v / 2 ^ k) 0 e in let b : v < 1 * 2 ^ k = (div-lt_iff_lt-mul (pow_pos k)).0 (omega arith) in
    lt-ltb v (2 ^ k) (omega arith))
    (λ e. eq-eqb (v / 2 ^ k) 0 (div-eq_of_lt (ltb-true v (2 ^ k) e)))

-- the law of `fits`, below 64
pub fits-64 : (k h l : ℕ) → k < 64 → eqb h 0 && eqb (l / 2 ^ k) 0 ≡ ltb (h * 2 ^ 64 + l) (2 ^ k)
fits-64 k h l hk =
    let p : 2 ^ k < 2 ^ 64 = pow-lt hk in
    rw (none_above k l)
    (same_test (eqb h 0 && ltb l (2 ^ k)) (ltb (h * 2 ^ 64 + l) (2 ^ k))
    (λ e. let z = eqb-true h 0 (and_l (eqb h 0) (ltb l (2 ^ k)) e) in let b = ltb-true l (2 ^ k) (and_r (eqb h 0) (ltb l (2 ^ k)) e) in
    lt-ltb (h * 2 ^ 64 + l) (2 ^ k) (omega arith))
    (λ e. let b = ltb-true (h * 2 ^ 64 + l) (2 ^ k) e in
    and_i (eqb h 0) (ltb l (2 ^ k)) (eq-eqb h 0 (omega arith)) (lt-ltb l (2 ^ k) (omega arith))))

-- and from 64 on
pub fits-high : (k h l : ℕ) → 64 ≤ k → l < 2 ^ 64 → eqb (h / 2 ^ (k - 64)) 0 ≡ ltb (h * 2 ^ 64 + l) (2 ^ k)
fits-high k h l hk hl = rw (shr_high k h l hk hl, none_above k (h * 2 ^ 64 + l))
