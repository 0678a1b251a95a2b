-- How the rows are written: the ranks beforehand, then row behind row.
use Rattle.std.specs.Prelude.{◌≡◌, cond, List, [], ◌∷◌, ℕ, ◌*◌, ◌≤◌, ◌<◌, leb, length, get_or}
use Rattle.std.proofs.lemmas.List.Edits.{sets}
use Rattle.needs.specs.Needed.{arity}
use Rattle.smtgrammar.specs.State.{Tables}
use Rattle.smtgrammar.specs.Rows.{rank_at, rows_below}
use Rattle.smtsound.specs.Tables.{Is}

-- the rank of each number that has an entry
pub record Ranks (t : Tables) (ranks : List ℕ) : Type 0 where
  pub at : (i : ℕ) → i < length ranks → get_or ranks i 0 ≡ rank_at t i

-- a field of a node with n operands: operand j by its rank
abbrev pub by_rank : List ℕ → ℕ → ℕ → ℕ → ℕ
by_rank ranks n j v = cond (leb j n) (get_or ranks v 0) v

-- the row of node i
unfoldable pub row_of : Tables → List ℕ → ℕ → List ℕ
row_of t ranks i =
    let n = arity (get_or t.kinds i 0) in
    get_or t.kinds i 0 ∷ by_rank ranks n 1 (get_or t.field_a i 0) ∷ by_rank ranks n 2 (get_or t.field_b i 0) ∷ by_rank ranks n 3 (get_or t.field_c i 0) ∷ []

-- the columns that the rows are made of
abbrev pub bare : Tables → Tables
bare t = record { kinds = t.kinds; field_a = t.field_a; field_b = t.field_b; field_c = t.field_c; sorts = []; lowest = [] }

-- the operands of each node that is there are below m, and the rows have room
pub record Fit (t : Tables) (m long : ℕ) : Type 0 where
  pub room : 4 * rank_at t 65535 ≤ long
  pub one : (i : ℕ) → Is t i → 1 ≤ arity (get_or t.kinds i 0) → get_or t.field_a i 0 < m
  pub two : (i : ℕ) → Is t i → 2 ≤ arity (get_or t.kinds i 0) → get_or t.field_b i 0 < m
  pub three : (i : ℕ) → Is t i → 3 ≤ arity (get_or t.kinds i 0) → get_or t.field_c i 0 < m

-- the rows of all nodes that are there stand at the front
pub record Written (t : Tables) (l l' : List ℕ) : Type 0 where
  pub words : l' ≡ sets l 0 (rows_below t 65535)
