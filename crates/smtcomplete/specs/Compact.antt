-- Tables that hold all the nodes that are here hold the compact formula.
use Rattle.std.specs.Prelude.{◌≡◌, Bool, leb}
use Rattle.std.proofs.Math.Path.{refl}
use Rattle.std.proofs.Common.{ap, ◌∙◌, add-suc, ne_eqb, leb-true, lt-ltb, le-ltb}
use Rattle.std.proofs.Math.Bool.{true, false, cond}
use mathlib.Core.List.{List, [], ◌∷◌, ◌++◌, append-nil}
use Prim.Native.Nat.{ℕ, zero, suc, ◌+◌, ◌-◌, ◌≤◌, ◌<◌}
use Rattle.std.proofs.Math.Nat.{add-zero}
use native.Mathlib.Omega.{arith}
use Rattle.std.proofs.Math.ListN.{get_or}
use Rattle.sorts.specs.Lists.{field}
use Rattle.needs.specs.Needed.{arity}
use Rattle.smttext.specs.Names.{kind_at}
use Rattle.smttext.specs.Text.{on}
use Rattle.smttext.specs.Subset.{rank, compact, field_by}
use Rattle.smtgrammar.specs.State.{Tables}
use Rattle.smtgrammar.specs.Rows.{there, rank_at, ranked, rows_below}
use Rattle.smtcomplete.specs.Sources.{has-kind}
use Rattle.smtcomplete.specs.Holds.{Holds}
use Rattle.smtcomplete.specs.Stands.{Given, here, inside, operand-here}

module _ (w m : List ℕ) (n : ℕ) (given : Given w m n) (t : Tables) (o : Holds w m n (here m n) t) where
  there-is : (j : ℕ) → there t j ≡ here m n j
  there-is j = go (here m n j) refl
    where
      go : (b : Bool) → here m n j ≡ b → there t j ≡ b
      go true e =
          let k = o.kinds j in
          rw (k, e, ne_eqb (kind_at w j) 0 (has-kind w n given.passes j (inside w m n j e)))
      go false e = let k = o.kinds j in rw (k, e)

  marked-is : (j : ℕ) → j < n → there t j ≡ on m j
  marked-is j h = there-is j ∙ rw (lt-ltb j n h)

  ranks : (v : ℕ) → v ≤ n → rank_at t v ≡ rank m v
  unfolding rank_at rank
  ranks zero h = refl
  ranks (suc v) h = rw (ranks v (omega arith), marked-is v h)

  -- a field, by its number among those that are there
  field_is : (k j v : ℕ) → (suc j ≤ arity k → v < n) → cond (leb (suc j) (arity k)) (rank_at t v) v ≡ cond (leb (suc j) (arity k)) (rank m v) v
  field_is k j v f = go (leb (suc j) (arity k)) refl
    where
      go : (b : Bool) → leb (suc j) (arity k) ≡ b → cond b (rank_at t v) v ≡ cond b (rank m v) v
      go true e = ranks v (let l = f (leb-true (suc j) (arity k) e) in omega arith)
      go false e = refl

  rows : (k : ℕ) → k ≤ n → rows_below t k ≡ compact w m k
  unfolding rows_below compact
  rows zero h = refl
  rows (suc k) h = rw (rows k (omega arith), marked-is k h) (ap (λ (l : List ℕ). compact w m k ++ l) (go (on m k) refl))
    where
      go : (b : Bool) → on m k ≡ b
          → cond b (get_or t.kinds k 0 ∷ ranked t k 1 (get_or t.field_a k 0) ∷ ranked t k 2 (get_or t.field_b k 0) ∷ ranked t k 3 (get_or t.field_c k 0) ∷ []) []
          ≡ cond b (kind_at w k ∷ field_by w m k 1 ∷ field_by w m k 2 ∷ field_by w m k 3 ∷ []) []
      go true e =
          let q : here m n k ≡ true = rw (lt-ltb k n h) e in
          let x : get_or t.kinds k 0 ≡ kind_at w k = o.kinds k ∙ rw q in
          let a : get_or t.field_a k 0 ≡ field w k 1 = o.field_a k ∙ rw q in
          let b : get_or t.field_b k 0 ≡ field w k 2 = o.field_b k ∙ rw q in
          let c : get_or t.field_c k 0 ≡ field w k 3 = o.field_c k ∙ rw q in
          let f : (j : ℕ) → j < arity (kind_at w k) → field w k (suc j) < n = λ j l. let y = (operand-here w m n given k j q l).1 in omega arith in
          rw (x, a, b, c, field_is (kind_at w k) 0 (field w k 1) (f 0), field_is (kind_at w k) 1 (field w k 2) (f 1), field_is (kind_at w k) 2 (field w k 3) (f 2))
      go false e = refl

  -- there is nothing from n on
  beyond : (r : ℕ) → rows_below t (n + r) ≡ compact w m n
  unfolding rows_below
  beyond zero = rw add-zero (rows n (omega arith))
  beyond (suc r) =
      let e : there t (n + r) ≡ false = there-is (n + r) ∙ rw (le-ltb (n + r) n (omega arith)) in
      rw (add-suc, e, append-nil) (beyond r)

  pub all-rows : rows_below t 65535 ≡ compact w m n
  all-rows =
      let e : n + (65535 - n) ≡ 65535 = (let z = given.size in omega arith) in
      rw e at (beyond (65535 - n))
