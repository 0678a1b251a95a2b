-- The numbers of the nodes of a kind, in a list's words whose rows were numbered as they came
use Rattle.std.specs.Prelude.{◌≡◌, refl, Bool, cond, get_or}
use Rattle.std.proofs.Common.{sym, ◌∙◌, add-zero, eqb-true, eq-eqb, ne_eqb}
use Rattle.std.proofs.Math.Path.{ap, subst}
use Rattle.std.proofs.Math.Bool.{true, false}
use mathlib.Core.List.{List, [], ◌∷◌, ◌++◌, append-nil}
use Prim.Native.Nat.{ℕ, zero, suc, ◌+◌, ◌*◌, ◌≤◌, ◌<◌}
use native.Mathlib.Omega.{arith}
use Rattle.std.proofs.Math.Decide.{dec_lt}
use Rattle.std.proofs.Math.Numerals.{add-one}
use Rattle.std.proofs.lemmas.Bool.{eqb-false}
use Rattle.std.proofs.Math.Dec.{eqb}
use Rattle.std.proofs.Math.ListN.{length}
use Rattle.lists.specs.Rows.{Row, row, up}
use Rattle.sorts.specs.Lists.{field}
use Rattle.agreement.specs.Demands.{kind_at}
use Rattle.agreement.specs.Operands.{Each}
use Rattle.agreement.specs.Laid.{Reads, Lies}
use Rattle.agreement.specs.Makes.{Once}
use Rattle.agreement.specs.Counted.Numbers.{numbered, below}

up-exact : (n : ℕ) → n + 1 ≤ 4294967295 → up n ≡ n + 1
unfolding up
up-exact n h = omega arith

-- A row's number is its own, or the numbers go on behind it
at_once : {P : Type 0} (k i j n x a b c : ℕ) (rs : List Row) → (x ≡ k → a ≡ i → Once k (up i) rs j → P) → ((x ≡ k → ⊥) → Once k i rs j → P) → Once k i (row n x a b c ∷ rs) j → P
unfolding Once
at_once {P = P} k i j n x a b c rs f g = way (eqb x k) refl
  where
    way : (t : Bool) → eqb x k ≡ t → cond t ((a ≡ i) × Once k (up i) rs j) (Once k i rs j) → P
    way true e q = f (eqb-true x k e) q.0 q.1
    way false e q = g (eqb-false x k e) q

-- The next number is at most so many further
pub once-up : (k i j : ℕ) (rs : List Row) → Once k i rs j → i + length rs ≤ 4294967295 → (i ≤ j) × (j ≤ i + length rs)
unfolding Once
once-up k i j [] p h = (omega arith, omega arith)
once-up k i j (row n x a b c ∷ rs) p h =
    at_once k i j n x a b c rs
    (λ _ _ q. let e = up-exact i (omega arith) in let r = once-up k (up i) j rs q (omega arith) in (omega arith, omega arith))
    (λ _ q. let r = once-up k i j rs q (omega arith) in (omega arith, omega arith)) p

module _ (k : ℕ) (w : List ℕ) where
  -- Each of the rows has its number or a later one
  pub once-from : (rs : List Row) (n i j : ℕ) → Lies w n rs → Once k i rs j → i + length rs ≤ 4294967295
      → (v : ℕ) → n ≤ v → v < n + length rs → kind_at w v ≡ k → i ≤ field w v 1
  unfolding Lies
  once-from [] n i j l p h v x y e = absurd (none x y)
    where
      none : n ≤ v → v < n + 0 → ⊥
      none x y = omega arith
  once-from (row m z a b c ∷ rs) n i j l p h v x y e =
      at_once k i j m z a b c rs
      (λ _ s q. way (omega (arith, l.0.first)) (λ d. let t = up-exact i (omega arith) in let r = once-from rs (n + 1) (up i) j l.1 q (omega arith) v (omega arith) (omega arith) e in omega arith) (dec_lt n v))
      (λ s q. later (λ f. s (sym l.0.kind ∙ ap (λ (u : ℕ). kind_at w u) f ∙ e)) (λ d. once-from rs (n + 1) i j l.1 q (omega arith) v (omega arith) (omega arith) e) (dec_lt n v)) p
    where
      way : i ≤ field w n 1 → (n < v → i ≤ field w v 1) → Dec (n < v) → i ≤ field w v 1
      way f g (yes d) = g d
      way f g (no d) = let s : n ≡ v = omega arith in subst (λ (u : ℕ). i ≤ field w u 1) s f

      later : (n ≡ v → ⊥) → (n < v → i ≤ field w v 1) → Dec (n < v) → i ≤ field w v 1
      later f g (yes d) = g d
      later f g (no d) = absurd (f (omega arith))

  -- One row more
  pub numbered-suc : (n x a b c : ℕ) → Reads w n x a b c → numbered k w (suc n) ≡ numbered k w n ++ cond (eqb x k) (a ∷ []) []
  unfolding numbered
  numbered-suc n x a b c r = rw (r.kind, r.first)

  -- THE ROWS ARE NUMBERED ON
  pub rows-count : (rs : List Row) (n i j : ℕ) → Lies w n rs → Once k i rs j → i + length rs ≤ 4294967295
      → numbered k w n ≡ below i → numbered k w (n + length rs) ≡ below j
  unfolding Once Lies below
  rows-count [] n i j l p h e = rw (add-zero, p) e
  rows-count (row m x a b c ∷ rs) n i j l p h e =
      let far : n + suc (length rs) ≡ suc n + length rs = omega arith in
      at_once k i j m x a b c rs
      (λ z s q. let u : up i ≡ suc i = up-exact i (omega arith) ∙ add-one i in
      rw far (rows-count rs (suc n) (suc i) j (rw add-one at l.1) (subst (λ (t : ℕ). Once k t rs j) u q) (omega arith) (numbered-suc n x a b c l.0 ∙ rw (eq-eqb x k z, e, s))))
      (λ z q. rw far (rows-count rs (suc n) i j (rw add-one at l.1) q (omega arith) (numbered-suc n x a b c l.0 ∙ rw (ne_eqb x k z, append-nil, e)))) p

-- Words that agree have the same numbers
pub numbered-same : (k : ℕ) (w w' : List ℕ) (n : ℕ) → ((j : ℕ) → j < 4 * n → get_or w' j 0 ≡ get_or w j 0) → numbered k w' n ≡ numbered k w n
unfolding numbered
numbered-same k w w' zero f = refl
numbered-same k w w' (suc n) f = rw (numbered-same k w w' n (λ j h. f j (omega arith)), f (4 * n) (omega arith), f (4 * n + 1) (omega arith))

-- What holds of each number holds of each node of the kind
module _ (P : ℕ → Type 0) where
  each-front : (a b : List ℕ) → Each P (a ++ b) → Each P a
  unfolding Each
  each-front [] b p = tt
  each-front (v ∷ a) b p = (p.0, each-front a b p.1)

  each_back : (a b : List ℕ) → Each P (a ++ b) → Each P b
  unfolding Each
  each_back [] b p = p
  each_back (v ∷ a) b p = each_back a b p.1

  each-join : (a b : List ℕ) → Each P a → Each P b → Each P (a ++ b)
  unfolding Each
  each-join [] b p q = q
  each-join (v ∷ a) b p q = (p.0, each-join a b p.1 q)

  pub each-node : (k : ℕ) (w : List ℕ) (n : ℕ) → Each P (numbered k w n) → (v : ℕ) → v < n → kind_at w v ≡ k → P (field w v 1)
  unfolding numbered Each
  each-node k w zero p v h e = absurd (none h)
    where
      none : v < 0 → ⊥
      none h = omega arith
  each-node k w (suc n) p v h e = way (λ d. each-node k w n (each-front (numbered k w n) _ p) v d e) (dec_lt v n)
    where
      last : (t : Bool) → eqb (kind_at w n) k ≡ t → kind_at w n ≡ k → Each P (cond t (field w n 1 ∷ []) []) → P (field w n 1)
      last true q e p = p.0
      last false q e p = absurd (eqb-false (kind_at w n) k q e)

      way : (v < n → P (field w v 1)) → Dec (v < n) → P (field w v 1)
      way f (yes d) = f d
      way f (no d) =
          let s : n ≡ v = omega arith in
          subst (λ (u : ℕ). P (field w u 1)) s (last (eqb (kind_at w n) k) refl (ap (λ (u : ℕ). kind_at w u) s ∙ e) (each_back (numbered k w n) (cond (eqb (kind_at w n) k) (field w n 1 ∷ []) []) p))

-- Each of 0, 1, 2, .. below c is below c
pub each_below : (c m : ℕ) → c ≤ m → Each (λ (v : ℕ). v < m) (below c)
unfolding below Each
each_below zero m h = tt
each_below (suc c) m h = each-join (λ (v : ℕ). v < m) (below c) (c ∷ []) (each_below c m (omega arith)) (omega arith, tt)
