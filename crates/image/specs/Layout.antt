-- The SDM's double extended format. A pattern is sign, 15 exponent bits, 63 fraction bits; its image has an integer bit between exponent and fraction.
use Rattle.std.specs.Prelude.{Bool, cond, ℕ, ◌+◌, ◌*◌, ◌/◌, ◌%◌, ◌^◌, eqb}

-- the fields of a pattern
abbrev pub sign_of : ℕ → ℕ
sign_of p = p / 2 ^ 78

abbrev pub exponent_of : ℕ → ℕ
exponent_of p = p / 2 ^ 63 % 2 ^ 15

abbrev pub fraction_of : ℕ → ℕ
fraction_of p = p % 2 ^ 63

-- the integer bit is 1 exactly if the exponent is nonzero
abbrev pub integer_bit : ℕ → ℕ
integer_bit e = cond (eqb e 0) 0 1

-- the image of a pattern
unfoldable pub image_of : ℕ → ℕ
image_of p = sign_of p * 2 ^ 79 + exponent_of p * 2 ^ 64 + integer_bit (exponent_of p) * 2 ^ 63 + fraction_of p

-- the fields of an image
abbrev pub image_sign : ℕ → ℕ
image_sign v = v / 2 ^ 79

abbrev pub image_exponent : ℕ → ℕ
image_exponent v = v / 2 ^ 64 % 2 ^ 15

abbrev pub image_bit : ℕ → ℕ
image_bit v = v / 2 ^ 63 % 2

abbrev pub image_fraction : ℕ → ℕ
image_fraction v = v % 2 ^ 63

-- an image has a number if its integer bit is the one that goes with its exponent
abbrev pub has_number : ℕ → Bool
has_number v = eqb (image_bit v) (integer_bit (image_exponent v))

-- the pattern of an image
unfoldable pub pattern_of : ℕ → ℕ
pattern_of v = image_sign v * 2 ^ 78 + image_exponent v * 2 ^ 63 + image_fraction v

-- what an image gives: its pattern, or the free one where it has no number
unfoldable pub pattern_in : ℕ → ℕ → ℕ
pattern_in v free = cond (has_number v) (pattern_of v) free
