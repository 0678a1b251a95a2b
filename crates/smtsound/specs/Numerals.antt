-- A number lies between its first digits and the next ones, so it has one next digit.
use Rattle.std.specs.Prelude.{◌≡◌, ℕ, suc, ◌+◌, ◌*◌, ◌^◌, ◌≤◌, ◌<◌}
use Rattle.std.proofs.Common.{sym, mul-le-mul_left, mul-le-mul_right, arith}
use Rattle.std.proofs.Math.Nat.{pow-succ', pow-le-pow_right, one-le-pow}
use Rattle.std.proofs.Math.Decide.{dec_lt}
use Rattle.smtsound.specs.Tables.{same?}

-- x begins with the digits of a, and j more follow
pub record Begins (a x j : ℕ) : Type 0 where
  pub from : a * 10 ^ j ≤ x
  pub below : x < (a + 1) * 10 ^ j

widened : (a d p x : ℕ) → d ≤ 9 → (10 * a + d) * p ≤ x → x < (10 * a + d + 1) * p → (a * (10 * p) ≤ x) × (x < (a + 1) * (10 * p))
widened a d p x h lo hi = let k = mul-le-mul_right p h in omega arith

pub begins-less : (a d x j : ℕ) → d ≤ 9 → Begins (10 * a + d) x j → Begins a x (suc j)
begins-less a d x j h b =
    let w = widened a d (10 ^ j) x h b.from b.below in
    record { from = rw (pow-succ' 10 j) w.0; below = rw (pow-succ' 10 j) w.1 }

-- with as many digits behind it, the smaller digit is too small
under : (a d e p x : ℕ) → d < e → x < (10 * a + d + 1) * p → (10 * a + e) * p ≤ x → ⊥
under a d e p x h lo hi = let m : 10 * a + d + 1 ≤ 10 * a + e = omega arith in let k = mul-le-mul_right p m in omega arith

-- with more digits behind it, all is 0
tenfold : (a e : ℕ) → 0 < 10 * a + e → 10 * a + 10 ≤ (10 * a + e) * 10
tenfold a e h = same? a 0 (λ z. omega arith) (λ z. omega arith)

over : (a d e p q x : ℕ) → d ≤ 9 → 10 * p ≤ q → x < (10 * a + d + 1) * p → (10 * a + e) * q ≤ x → 10 * a + e ≡ 0
over a d e p q x h l hi lo = same? (10 * a + e) 0 (λ z. z) (λ z. absurd (go (omega arith)))
  where
    go : 0 < 10 * a + e → ⊥
    go s =
        let m : 10 * a + d + 1 ≤ 10 * a + 10 = omega arith in
        let u = mul-le-mul_right p m in
        let v = mul-le-mul_right p (tenfold a e s) in
        let w = mul-le-mul_left (10 * a + e) l in
        omega arith

none : (d p : ℕ) → 1 ≤ p → d * p ≤ 0 → d ≡ 0
none d p h l = let k = mul-le-mul_left d h in omega arith

shorter : (a d e j i x : ℕ) → j < i → d ≤ 9 → Begins (10 * a + d) x j → Begins (10 * a + e) x i → (10 * a + e ≡ 0 → x ≡ 0) → d ≡ e
shorter a d e j i x h l b c f =
    let s : 10 * 10 ^ j ≤ 10 ^ i = rw (pow-succ' 10 j) at (pow-le-pow_right {n = 10} (omega arith) {i = suc j} {j = i} h) in
    let z = over a d e (10 ^ j) (10 ^ i) x l s b.below c.from in
    let y = f z in
    let w : 10 * a + d ≡ 0 = none (10 * a + d) (10 ^ j) (one-le-pow j 10 (omega arith)) (let g = b.from in omega arith) in
    omega arith

-- a number has one next digit; 0 stands alone
pub one-digit : (a d e j i x : ℕ) → d ≤ 9 → e ≤ 9 → Begins (10 * a + d) x j → Begins (10 * a + e) x i
    → (10 * a + d ≡ 0 → x ≡ 0) → (10 * a + e ≡ 0 → x ≡ 0) → d ≡ e
one-digit a d e j i x l m b c f g =
    three j i (λ h. shorter a d e j i x h l b c g) (λ h. sym (shorter a e d i j x h m c b f))
    (λ h.
    three d e
    (λ k. absurd (under a d e (10 ^ j) x k b.below (rw h c.from)))
    (λ k. absurd (under a e d (10 ^ j) x k (rw h c.below) b.from))
    (λ k. k))
  where
    three : {P : Type 0} (m n : ℕ) → (m < n → P) → (n < m → P) → (m ≡ n → P) → P
    three {P} m n lo hi eq = go (dec_lt m n)
      where
        go : Dec (m < n) → P
        go (yes l) = lo l
        go (no l) = same? m n eq (λ z. hi (omega arith))

-- a number that goes on is not at its end
pub no_end : (a d j : ℕ) → 0 < a → Begins (10 * a + d) a j → ⊥
no_end a d j h b = let k = mul-le-mul_left (10 * a + d) (one-le-pow j 10 (omega arith)) in let g = b.from in omega arith

-- the same of binary digits, of which m are left
pub binary-less : (u d x m : ℕ) → d ≤ 1 → (2 * u + d) * 2 ^ m ≤ x → x < (2 * u + d + 1) * 2 ^ m → (u * 2 ^ suc m ≤ x) × (x < (u + 1) * 2 ^ suc m)
binary-less u d x m h lo hi = rw (pow-succ' 2 m) (let k = mul-le-mul_right (2 ^ m) h in omega arith)

pub one_bit : (u d e x p : ℕ) → (2 * u + d) * p ≤ x → x < (2 * u + d + 1) * p → (2 * u + e) * p ≤ x → x < (2 * u + e + 1) * p → d ≡ e
one_bit u d e x p a b c f = go (dec_lt d e) (dec_lt e d)
  where
    less : (d e : ℕ) → d < e → x < (2 * u + d + 1) * p → (2 * u + e) * p ≤ x → ⊥
    less d e h lo hi = let m : 2 * u + d + 1 ≤ 2 * u + e = omega arith in let k = mul-le-mul_right p m in omega arith

    go : Dec (d < e) → Dec (e < d) → d ≡ e
    go (yes h) k = absurd (less d e h b c)
    go (no h) (yes k) = absurd (less e d k f a)
    go (no h) (no k) = omega arith
