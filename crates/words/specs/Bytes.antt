-- Numbers and bytes, low byte first.
use Rattle.std.specs.Prelude.{List, [], ◌∷◌, ℕ, zero, suc, ◌+◌, ◌*◌, ◌/◌, ◌%◌, get_or}

-- the number that bytes stand for
abbrev pub little_endian : List ℕ → ℕ
little_endian [] = 0
little_endian (b ∷ l) = b + 256 * little_endian l

-- the n low bytes of a number
unfoldable pub bytes_of : ℕ → ℕ → List ℕ
bytes_of zero v = []
bytes_of (suc n) v = v % 256 ∷ bytes_of n (v / 256)

-- the n bytes at a place; a byte past the end counts as 0
abbrev pub bytes_at : List ℕ → ℕ → ℕ → List ℕ
bytes_at l p zero = []
bytes_at l p (suc n) = get_or l p 0 ∷ bytes_at l (p + 1) n

-- their number
abbrev pub number_in : List ℕ → ℕ → ℕ → ℕ
number_in l p n = little_endian (bytes_at l p n)
