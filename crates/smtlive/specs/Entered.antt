-- What the tables hold behind a node that is entered, or a number that is obliged.
use Rattle.std.specs.Prelude.{◌≡◌, Bool}
use Rattle.std.proofs.Math.Path.{refl}
use Rattle.std.proofs.Common.{◌∙◌}
use Rattle.std.proofs.Math.Bool.{true, false}
use Prim.Native.Nat.{ℕ, ◌≤◌, ◌<◌, min}
use native.Mathlib.Omega.{arith}
use Rattle.std.proofs.Math.ListN.{get_or, length-set}
use Rattle.std.proofs.Math.Seq.{get_or-set_same, get_or-set_other}
use Rattle.smtgrammar.specs.State.{Tables}
use Rattle.smtgrammar.specs.Next.{entered, obliged}
use Rattle.smtlive.specs.Tests.{by-eq, at_set}
use Rattle.smtlive.specs.Live.{Tabled}

module _ (t : Tables) (h : Tabled t) (n k a b c s : ℕ) (high : n < 65535) (free : get_or t.kinds n 0 ≡ 0) (some : k ≡ 0 → ⊥) (low : s < 3905) where
  -- a node that is not there yet is another one, and as it was
  pub kept-kind : (m : ℕ) → get_or (entered t n k a b c s).kinds m 0 ≡ 0 → (m ≡ n → ⊥) × (get_or t.kinds m 0 ≡ 0)
  unfolding entered
  kept-kind m e =
      at_set (λ x. x ≡ 0 → (m ≡ n → ⊥) × (get_or t.kinds m 0 ≡ 0)) t.kinds n m k 0 (omega (arith, h.kinds-long))
      (λ q e. absurd (some e))
      (λ q e. (q, e))
      e

  pub other-kind : (m : ℕ) → (m ≡ n → ⊥) → get_or (entered t n k a b c s).kinds m 0 ≡ get_or t.kinds m 0
  unfolding entered
  other-kind m q = get_or-set_other t.kinds n m k 0 q

  pub other-sort : (m : ℕ) → (m ≡ n → ⊥) → get_or (entered t n k a b c s).sorts m 0 ≡ get_or t.sorts m 0
  unfolding entered
  other-sort m q = get_or-set_other t.sorts n m s 0 q

  -- the lowest numbers go down only, and that of the sort to the node
  pub lowest-down : (u : ℕ) → get_or (entered t n k a b c s).lowest u 65535 ≤ get_or t.lowest u 65535
  unfolding entered
  lowest-down u =
      at_set (λ x. x ≤ get_or t.lowest u 65535) t.lowest s u (min (get_or t.lowest s 65535) n) 65535 (omega (arith, h.lowest-long))
      (λ q. rw q (omega arith))
      (λ q. omega arith)

  pub lowest-own : get_or (entered t n k a b c s).lowest s 65535 ≤ n
  unfolding entered
  lowest-own = rw (get_or-set_same t.lowest s (min (get_or t.lowest s 65535) n) 65535 (omega (arith, h.lowest-long))) (omega arith)

  -- a number below the limit that has a kind keeps it and its sort
  old : (i u : ℕ) → (get_or t.kinds i 0 ≡ 0 → ⊥) → get_or t.sorts i 0 ≡ u
      → (get_or (entered t n k a b c s).kinds i 0 ≡ 0 → ⊥) × (get_or (entered t n k a b c s).sorts i 0 ≡ u)
  old i u q e = (λ z. q (kept-kind i z).1, other-sort i (λ z. q (rw z free)) ∙ e)

  own : (get_or (entered t n k a b c s).kinds n 0 ≡ 0 → ⊥) × (get_or (entered t n k a b c s).sorts n 0 ≡ s)
  unfolding entered
  own = (λ z. (kept-kind n z).0 refl, get_or-set_same t.sorts n s 0 (omega (arith, h.sorts-long)))

  is-there : (u : ℕ) → get_or (entered t n k a b c s).lowest u 65535 < 65535
      → (get_or (entered t n k a b c s).kinds (get_or (entered t n k a b c s).lowest u 65535) 0 ≡ 0 → ⊥)
      × (get_or (entered t n k a b c s).sorts (get_or (entered t n k a b c s).lowest u 65535) 0 ≡ u)
  unfolding entered
  is-there u =
      let T : ℕ → Type 0 = λ x. (get_or (entered t n k a b c s).kinds x 0 ≡ 0 → ⊥) × (get_or (entered t n k a b c s).sorts x 0 ≡ u) in
      at_set (λ x. x < 65535 → T x) t.lowest s u (min (get_or t.lowest s 65535) n) 65535 (omega (arith, h.lowest-long))
      (λ q l.
      by-eq (min (get_or t.lowest s 65535) n) n
      (λ e. rw (e, q) own)
      (λ e.
      let z : min (get_or t.lowest s 65535) n ≡ get_or t.lowest s 65535 = omega arith in
      rw (z, q) (old (get_or t.lowest s 65535) s (h.there s (omega arith)) (h.sorted s (omega arith)))))
      (λ q l. old (get_or t.lowest u 65535) u (h.there u l) (h.sorted u l))

  -- and each node is listed and below the limit
  is-listed : (i : ℕ) → (get_or (entered t n k a b c s).kinds i 0 ≡ 0 → ⊥)
      → (get_or (entered t n k a b c s).lowest (get_or (entered t n k a b c s).sorts i 0) 65535 ≤ i) × (i < 65535)
  is-listed i q =
      by-eq i n
      (λ e. rw (e, own.1) (lowest-own, high))
      (λ e.
      let r : get_or t.kinds i 0 ≡ 0 → ⊥ = λ z. q (other-kind i e ∙ z) in
      let x = h.listed i r in
      let y = lowest-down (get_or t.sorts i 0) in
      rw (other-sort i e) (omega arith, h.high i r))

  pub entered-tabled : Tabled (entered t n k a b c s)
  unfolding entered
  entered-tabled = record {
    kinds-long = length-set t.kinds n k ∙ h.kinds-long;
    sorts-long = length-set t.sorts n s ∙ h.sorts-long;
    lowest-long = length-set t.lowest s (min (get_or t.lowest s 65535) n) ∙ h.lowest-long;
    there = λ u l. (is-there u l).0;
    sorted = λ u l. (is-there u l).1;
    listed = λ i q. (is-listed i q).0;
    high = λ i q. (is-listed i q).1;
  }

-- a number that is not there is obliged
module _ (t : Tables) (h : Tabled t) (is : Bool) (m s : ℕ) (free : is ≡ true → get_or t.kinds m 0 ≡ 0) where
  pub obliged-kinds : (obliged is m s t).kinds ≡ t.kinds
  unfolding obliged
  obliged-kinds = go is
    where
      go : (b : Bool) → (obliged b m s t).kinds ≡ t.kinds
      go true = refl
      go false = refl

  pub obliged-lowest : (obliged is m s t).lowest ≡ t.lowest
  unfolding obliged
  obliged-lowest = go is
    where
      go : (b : Bool) → (obliged b m s t).lowest ≡ t.lowest
      go true = refl
      go false = refl

  pub obliged-tabled : Tabled (obliged is m s t)
  unfolding obliged
  obliged-tabled = go is free
    where
      go : (b : Bool) → (b ≡ true → get_or t.kinds m 0 ≡ 0) → Tabled (obliged b m s t)
      go true f = record {
        kinds-long = h.kinds-long;
        sorts-long = length-set t.sorts m s ∙ h.sorts-long;
        lowest-long = h.lowest-long;
        there = h.there;
        sorted = λ u l.
            get_or-set_other t.sorts m (get_or t.lowest u 65535) s 0 (λ z. h.there u l (rw z (f refl)))
            ∙ h.sorted u l;
        listed = λ i q. rw (get_or-set_other t.sorts m i s 0 (λ z. q (rw z (f refl)))) (h.listed i q);
        high = h.high;
      }
      go false f = h
