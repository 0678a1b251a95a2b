-- What `any` answers over the widths from u on.
use Rattle.std.specs.Prelude.{◌≡◌, Bool, true, false, ◌&&◌, ◌||◌, List, [], ◌∷◌, ℕ, zero, suc, ◌+◌, ◌-◌, ◌<◌, length}
use Rattle.std.proofs.Common.{refl, arith}
use Rattle.std.specs.Bool.{MatchBool}
use Rattle.std.specs.List.{range_with_len, HoldsAt, AllWithin}
use Rattle.smtgrammar.specs.Present.{below, some_of, join_of}

module _ (ok : ℕ → Bool) where
  some : List ℕ → Bool
  some [] = false
  some (x ∷ l) = ok x || some l

  hit : (l : List ℕ) (k : ℕ) → k < length l → HoldsAt (λ w. ok w ≡ true) l k → some l ≡ true
  unfolding some
  hit [] k b h = absurd (omega arith)
  hit (x ∷ l) zero b h = rw (h 0)
  hit (x ∷ l) (suc k) b h = go (ok x) (hit l k (omega arith) h)
    where
      go : (t : Bool) → some l ≡ true → t || some l ≡ true
      go true e = refl
      go false e = e

  none : (l : List ℕ) → AllWithin (λ w. ok w ≡ false) l 0 (length l) → some l ≡ false
  unfolding some
  none [] h = refl
  none (x ∷ l) h = rw (h 0 0 (omega arith) (omega arith)) (none l (λ k d a b. h (suc k) d (omega arith) (omega arith)))

  is : (l : List ℕ) (r : Bool) → MatchBool r ((k : ℕ) × (k < length l) × HoldsAt (λ w. ok w ≡ true) l k) (AllWithin (λ w. ok w ≡ false) l 0 (length l)) → r ≡ some l
  is l true h = rw (hit l h.0 h.1 h.2)
  is l false h = rw (none l h)

module _ (l : List ℕ) (n : ℕ) where
  ahead : (u k : ℕ) → some (λ w. below l w n) (range_with_len u k) ≡ some_of l k u n
  unfolding some some_of
  ahead u zero = refl
  ahead u (suc k) = rw (ahead (u + 1) k)

  pub some_is : (u k : ℕ) (r : Bool) → MatchBool r ((j : ℕ) × (j < length (range_with_len u k)) × HoldsAt (λ w. below l w n ≡ true) (range_with_len u k) j) (AllWithin (λ w. below l w n ≡ false) (range_with_len u k) 0 (length (range_with_len u k)))
      → r ≡ some_of l k u n
  some_is u k r h = rw (← ahead u k) (is (λ w. below l w n) (range_with_len u k) r h)

  module _ (s : ℕ) where
    pairs : (u k : ℕ) → some (λ w. below l w n && below l (s - w) n) (range_with_len u k) ≡ join_of l k u s n
    unfolding some join_of
    pairs u zero = refl
    pairs u (suc k) = rw (pairs (u + 1) k)

    pub join_is : (u k : ℕ) (r : Bool)
        → MatchBool r ((j : ℕ) × (j < length (range_with_len u k)) × HoldsAt (λ w. below l w n && below l (s - w) n ≡ true) (range_with_len u k) j)
        (AllWithin (λ w. below l w n && below l (s - w) n ≡ false) (range_with_len u k) 0 (length (range_with_len u k)))
        → r ≡ join_of l k u s n
    join_is u k r h = rw (← pairs u k) (is (λ w. below l w n && below l (s - w) n) (range_with_len u k) r h)
