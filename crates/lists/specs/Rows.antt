-- Rows of four words in a lent list, and what storing some of them makes of its words
use Rattle.std.specs.Prelude.{◌≡◌, refl, Bool, true, false, cond, List, [], ◌∷◌, ◌++◌, ℕ, ◌+◌, ◌*◌, ◌/◌, min, length, set, leb}
use Rattle.std.proofs.Common.{◌∙◌, length-set}

-- A node or a statement: its number, kind, a, b, c
pub data Row : Type 0 where
  row : ℕ → ℕ → ℕ → ℕ → ℕ → Row

-- The words with one row laid in, if there is room for it
unfoldable pub stored : List ℕ → Row → List ℕ
stored l (row n k a b c) =
    cond (leb (4 * n + 4) (length l))
    (set (set (set (set l (4 * n) k) (4 * n + 1) a) (4 * n + 2) b) (4 * n + 3) c)
    l

-- The words with some rows laid in, one after the other
unfoldable pub wrote : List ℕ → List Row → List ℕ
wrote l [] = l
wrote l (r ∷ rs) = wrote (stored l r) rs

-- One more, stopping at the largest u32 as the Rust's saturating_add
unfoldable pub up : ℕ → ℕ
up n = min (n + 1) 4294967295

-- How many rows so many words have room for
unfoldable pub room_of : ℕ → ℕ
room_of words = min (words / 4) 65535

pub wrote-append : (l : List ℕ) (a b : List Row) → wrote l (a ++ b) ≡ wrote (wrote l a) b
unfolding wrote
wrote-append l [] b = refl
wrote-append l (r ∷ a) b = wrote-append (stored l r) a b

either-long : (t : Bool) (l m : List ℕ) → length m ≡ length l → length (cond t m l) ≡ length l
either-long true l m h = h
either-long false l m h = refl

pub length-stored : (l : List ℕ) (r : Row) → length (stored l r) ≡ length l
unfolding stored
length-stored l (row n k a b c) = either-long (leb (4 * n + 4) (length l)) l _ (simp length-set)

pub length-wrote : (l : List ℕ) (rs : List Row) → length (wrote l rs) ≡ length l
unfolding wrote
length-wrote l [] = refl
length-wrote l (r ∷ rs) = length-wrote (stored l r) rs ∙ length-stored l r
