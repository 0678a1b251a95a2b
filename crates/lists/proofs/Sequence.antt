-- The laws of sequence: a function that calls others does what their steps do, one after the other
use mathlib.Core.Path.{◌≡◌, refl}
use Prim.Native.Nat.{ℕ}
use Rattle.lists.specs.Rows.{wrote, wrote-append}
use Rattle.lists.specs.Steps.{Built, Does, ◌▸◌, gives}
use Rattle.lists.specs.declared.State.{State}
use Rattle.lists.specs.declared.LiftCtx.{LiftCtx}

module _ {b : Built} {l l' l'' : LiftCtx} {v w : ℕ} where
  pub then : (g : State → ℕ → Built) → Does b l l' v → Does (g l'.state v) l' l'' w → Does (b ▸ g) l l'' w
  unfolding ◌▸◌
  then g p q =
      let h : g l'.state v ≡ g b.st b.val = cc in
      record { state = cc; number = cc; list = simp wrote-append (cc); said = simp wrote-append (cc); same-nodes = cc; same-statements = cc }

-- What a step adds to the lists does not depend on the state that they had
pub over : {b : Built} {l l' : LiftCtx} {s : State} {v : ℕ} → Does b (record l { state = s }) l' v → Does b l l' v
over p = record { state = p.state; number = p.number; list = p.list; said = p.said; same-nodes = p.same-nodes; same-statements = p.same-statements }

-- The last step, where only the state becomes another one
module _ {l : LiftCtx} {s t : State} {v w : ℕ} where
  pub last : s ≡ t → v ≡ w → Does (gives t w) l (record l { state = s }) v
  unfolding gives wrote
  last p q = record { state = p; number = q; list = refl; said = refl; same-nodes = refl; same-statements = refl }

-- .. or nothing is done
pub still : {l : LiftCtx} {v w : ℕ} → v ≡ w → Does (gives l.state w) l l v
unfolding gives wrote
still q = record { state = refl; number = q; list = refl; said = refl; same-nodes = refl; same-statements = refl }
