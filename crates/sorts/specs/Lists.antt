-- The sorts of a list of rows: one entry for each row, added at the end.
use Rattle.std.specs.Prelude.{List, [], ◌∷◌, ◌++◌, ℕ, zero, suc, ◌+◌, ◌*◌, get_or}
use Rattle.sorts.specs.Sorts.{sort_row}

-- word j of row n
abbrev pub field : List ℕ → ℕ → ℕ → ℕ
field w n j = get_or w (4 * n + j) 0

-- the sort of row n, where l has the sorts of the earlier rows: an operand that is not earlier has none
unfoldable pub row_sort : List ℕ → ℕ → List ℕ → ℕ
row_sort w n l =
    sort_row (get_or w (4 * n) 0) (field w n 1) (field w n 2) (field w n 3)
    (get_or l (field w n 1) 0) (get_or l (field w n 2) 0) (get_or l (field w n 3) 0)

-- the sorts of the first n rows
unfoldable pub sorts : List ℕ → ℕ → List ℕ
sorts w zero = []
sorts w (suc n) = sorts w n ++ (row_sort w n (sorts w n) ∷ [])
