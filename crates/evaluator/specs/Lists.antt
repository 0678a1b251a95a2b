-- The values of a list of rows: one for each row, added at the end.
use Rattle.std.specs.Prelude.{Bool, true, cond, List, [], ◌∷◌, ◌++◌, ℕ, zero, suc, ◌+◌, ◌*◌, ◌/◌, ◌%◌, ◌^◌, ltb, get_or, Result, Ok, Err}
use Rattle.sorts.specs.Lists.{field, row_sort, sorts}
use Rattle.evaluator.specs.Value.{width_of, is_given, held, computed}
use Rattle.evaluator.specs.declared.EvalError.{EvalError}
use Rattle.evaluator.specs.declared.EvalError.TheVariants.{TooWide}

-- entry n of a column: two words, low first
abbrev pub pair_at : List ℕ → ℕ → ℕ
pair_at l n = get_or l (2 * n + 1) 0 * 2 ^ 64 + get_or l (2 * n) 0

-- the value of operand a of row n, out of the column
abbrev pub operand_at : List ℕ → ℕ → ℕ → ℕ
operand_at l n a = cond (ltb a n) (pair_at l a) 0

-- the value of row n, where ss and vs have the sorts and the values of the earlier rows
unfoldable pub row_value : List ℕ → List ℕ → ℕ → List ℕ → List ℕ → ℕ
row_value w g n ss vs =
    cond (is_given (get_or w (4 * n) 0)) (held (row_sort w n ss) (pair_at g n))
    (computed (get_or w (4 * n) 0) (field w n 1) (field w n 2) (field w n 3)
    (get_or ss (field w n 1) 0) (get_or ss (field w n 2) 0)
    (get_or vs (field w n 1) 0) (get_or vs (field w n 2) 0) (get_or vs (field w n 3) 0))

-- the values of the first n rows
unfoldable pub vals : List ℕ → List ℕ → ℕ → List ℕ
vals w g zero = []
vals w g (suc n) = vals w g n ++ (row_value w g n (sorts w n) (vals w g n) ∷ [])

-- values as a column
unfoldable pub flat : List ℕ → List ℕ
flat [] = []
flat (v ∷ l) = v % 2 ^ 64 ∷ v / 2 ^ 64 ∷ flat l

-- the given value of row n fits its sort s, where the row takes one
abbrev pub fits_at : List ℕ → List ℕ → ℕ → ℕ → Bool
fits_at w g n s = cond (is_given (get_or w (4 * n) 0)) (ltb (pair_at g n) (2 ^ width_of s)) true

-- the first of k rows from i on whose given value does not fit
unfoldable pub wide_from : List ℕ → List ℕ → ℕ → ℕ → Result Unit EvalError
wide_from w g i zero = Ok tt
wide_from w g i (suc k) = cond (fits_at w g i (row_sort w i (sorts w i))) (wide_from w g (i + 1) k) (Err (TooWide i))
