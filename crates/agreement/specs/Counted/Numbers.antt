-- The numbers of the nodes of a kind, in a list's words.
use Rattle.std.specs.Prelude.{cond}
use mathlib.Core.List.{List, [], ◌∷◌, ◌++◌}
use Prim.Native.Nat.{ℕ, zero, suc}
use Rattle.std.proofs.Math.Dec.{eqb}
use Rattle.sorts.specs.Lists.{field}
use Rattle.agreement.specs.Demands.{kind_at}

-- The numbers of the nodes of kind k among the first n, in order
unfoldable pub numbered : ℕ → List ℕ → ℕ → List ℕ
numbered k w zero = []
numbered k w (suc n) = numbered k w n ++ cond (eqb (kind_at w n) k) (field w n 1 ∷ []) []

-- 0, 1, 2, .. below n
unfoldable pub below : ℕ → List ℕ
below zero = []
below (suc n) = below n ++ (n ∷ [])
