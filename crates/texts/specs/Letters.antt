-- Letters without case, and the trim at both ends.
use Rattle.std.specs.Prelude.{Bool, true, false, cond, ◌&&◌, ◌||◌, List, [], ◌∷◌, reverse, ℕ, ◌+◌, leb, eqb}

-- a capital letter's small one
abbrev pub lower_of : ℕ → ℕ
lower_of b = cond (leb 65 b && leb b 90) (b + 32) b

-- bytes 9 to 13 and 32
abbrev pub blank_is : ℕ → Bool
blank_is b = (leb 9 b && leb b 13) || eqb b 32

-- without the blanks at the front
abbrev pub skip : List ℕ → List ℕ
skip [] = []
skip (b ∷ s) = cond (blank_is b) (skip s) (b ∷ s)

-- without the blanks at the end
unfoldable pub cut : List ℕ → List ℕ
cut s = reverse (skip (reverse s))

-- without the blanks at both ends
unfoldable pub trim_of : List ℕ → List ℕ
trim_of s = cut (skip s)

-- two texts are the same but for the case of their letters
abbrev pub same_letters : List ℕ → List ℕ → Bool
same_letters [] [] = true
same_letters [] (y ∷ t) = false
same_letters (x ∷ s) [] = false
same_letters (x ∷ s) (y ∷ t) = eqb (lower_of x) (lower_of y) && same_letters s t
