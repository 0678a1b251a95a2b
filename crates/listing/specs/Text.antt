-- Numbers and lines as bytes.
use Rattle.std.specs.Prelude.{List, [], ◌∷◌, ◌++◌, ℕ, zero, suc, ◌+◌, ◌*◌, get_or}
use Rattle.writing.specs.Bytes.{decimal}

-- a blank before each number
unfoldable pub numbers : List ℕ → List ℕ
numbers [] = []
numbers (v ∷ l) = 32 ∷ (decimal v ++ numbers l)

-- a letter, numbers, and the line's end
unfoldable pub line : ℕ → List ℕ → List ℕ
line letter l = letter ∷ (numbers l ++ (10 ∷ []))

-- a line for each of the first n rows of a list: the row's number and its four words
unfoldable pub rows : ℕ → List ℕ → ℕ → List ℕ
rows letter w zero = []
rows letter w (suc n) =
    rows letter w n ++ line letter (n ∷ get_or w (4 * n) 0 ∷ get_or w (4 * n + 1) 0 ∷ get_or w (4 * n + 2) 0 ∷ get_or w (4 * n + 3) 0 ∷ [])
