-- The three formats: 2072 has 8 exponent and 23 fraction bits, 2869 has 11 and 52, and 3904 has 15 and 63.
use Rattle.std.specs.Prelude.{cond, ℕ, ◌+◌, ◌-◌, ◌*◌, ◌^◌, eqb}

abbrev pub by_format : ℕ → ℕ → ℕ → ℕ → ℕ
by_format f x y z = cond (eqb f 2072) x (cond (eqb f 2869) y z)

abbrev pub exponent_bits : ℕ → ℕ
exponent_bits f = by_format f 8 11 15

abbrev pub fraction_bits : ℕ → ℕ
fraction_bits f = by_format f 23 52 63

-- a pattern is sign, exponent, fraction: the sign stands above the others
abbrev pub sign_place : ℕ → ℕ
sign_place f = exponent_bits f + fraction_bits f

-- infinity's pattern: exponent all ones, fraction 0
abbrev pub inf_of : ℕ → ℕ
inf_of f = (2 ^ exponent_bits f - 1) * 2 ^ fraction_bits f

-- the one NaN's pattern: sign 0, exponent all ones, top fraction bit only
abbrev pub nan_of : ℕ → ℕ
nan_of f = inf_of f + 2 ^ (fraction_bits f - 1)
