-- What `find` answers over the numbers from i on.
use Rattle.std.specs.Prelude.{◌≡◌, Bool, true, false, cond, ℕ, zero, suc, ◌+◌, ◌-◌, ◌≤◌, ◌<◌, Option, Some, None}
use Rattle.std.proofs.Common.{refl, arith}
use native.Mathlib.Decide.{dec_lt}
use Rattle.std.specs.Option.{MatchOption, unwrap_or}
use Rattle.smtgrammar.specs.Next.{seek}

module _ (ok : ℕ → Bool) (none : ℕ) where
  missing : (k i : ℕ) → ((j : ℕ) → i ≤ j → j < i + k → ok j ≡ false) → seek ok i k none ≡ none
  unfolding seek
  missing zero i f = refl
  missing (suc k) i f = rw (f i (omega arith) (omega arith)) (missing k (i + 1) (λ j h l. f j (omega arith) (omega arith)))

  found : (k i j : ℕ) → i ≤ j → j < i + k → ok j ≡ true → ((m : ℕ) → i ≤ m → m < j → ok m ≡ false) → seek ok i k none ≡ j
  unfolding seek
  found zero i j h l e f = absurd (omega arith)
  found (suc k) i j h l e f = go (dec_lt i j) (λ b. found k (i + 1) j (omega arith) (omega arith) e (λ m c d. f m (omega arith) d))
    where
      go : Dec (i < j) → (i < j → seek ok (i + 1) k none ≡ j) → cond (ok i) i (seek ok (i + 1) k none) ≡ j
      go (yes b) g = rw (f i (omega arith) b) (g b)
      go (no b) g = let z : i ≡ j = omega arith in rw (z, e)

  pub seek_is : (i e : ℕ) (r : Option ℕ)
      → MatchOption r ((j : ℕ) → i ≤ j → j < e → ok j ≡ false) (λ j. (i ≤ j) × (j < e) × (ok j ≡ true) × ((m : ℕ) → i ≤ m → m < j → ok m ≡ false))
      → unwrap_or r none ≡ seek ok i (e - i) none
  seek_is i e None f = rw (missing (e - i) i (λ j h l. f j h (omega arith)))
  seek_is i e (Some j) f = rw (found (e - i) i j f.0 (omega arith) f.2 f.3)
