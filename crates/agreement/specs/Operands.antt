-- Which fields of a node are operands.
use Rattle.std.specs.Prelude.{cond, ◌&&◌, ◌||◌, List, [], ◌∷◌, ℕ, ◌*◌, leb, eqb, get_or}
use Rattle.sorts.specs.Lists.{field}

-- The node operands of a row, by its kind
unfoldable pub operands_of : ℕ → ℕ → ℕ → ℕ → List ℕ
operands_of k a b c =
    -- input, temporary, named slot, fsw, flag, constant
    cond (leb k 6) []
    -- And, Xor, Eq, BoolAnd, BoolOr; Concat; FAdd to FLt
    (cond ((leb k 11 || eqb k 15) || (leb 16 k && leb k 21)) (a ∷ b ∷ [])
    -- Ite
    (cond (eqb k 13) (a ∷ b ∷ c ∷ [])
    -- BoolNot, Extract, FIsNaN to FpToFp
    (a ∷ [])))

-- .. of row n of a list's words
abbrev pub operands_at : List ℕ → ℕ → List ℕ
operands_at w n = operands_of (get_or w (4 * n) 0) (field w n 1) (field w n 2) (field w n 3)

-- Something holds of each
unfoldable pub Each : (ℕ → Type 0) → List ℕ → Type 0
Each P [] = Unit {0}
Each P (v ∷ l) = P v × Each P l
