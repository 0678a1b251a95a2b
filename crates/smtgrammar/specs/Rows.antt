-- The nodes that the tables hold, as rows: in order, numbered from 0.
use Rattle.std.specs.Prelude.{Bool, cond, not, List, [], ◌∷◌, ◌++◌, ℕ, zero, suc, ◌+◌, leb, eqb, get_or}
use Rattle.needs.specs.Needed.{arity}
use Rattle.smtgrammar.specs.State.{Tables}

module _ (t : Tables) where
  -- node i is there
  abbrev pub there : ℕ → Bool
  there i = not (eqb (get_or t.kinds i 0) 0)

  -- how many nodes below n are there
  unfoldable pub rank_at : ℕ → ℕ
  rank_at zero = 0
  rank_at (suc n) = rank_at n + cond (there n) 1 0

  -- a field of node i: operand j by its number among the nodes that are there
  abbrev pub ranked : ℕ → ℕ → ℕ → ℕ
  ranked i j v = cond (leb j (arity (get_or t.kinds i 0))) (rank_at v) v

  -- the rows of the nodes below n
  unfoldable pub rows_below : ℕ → List ℕ
  rows_below zero = []
  rows_below (suc n) =
      rows_below n
      ++ cond (there n)
      (get_or t.kinds n 0 ∷ ranked n 1 (get_or t.field_a n 0) ∷ ranked n 2 (get_or t.field_b n 0) ∷ ranked n 3 (get_or t.field_c n 0) ∷ [])
      []
