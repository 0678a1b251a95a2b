-- The number that a pattern stands for, as SMT-LIB's FloatingPoint has it, and the order and equality of these numbers.
use Rattle.std.specs.Prelude.{Bool, true, false, cond, not, ◌&&◌, ◌||◌, ℕ, ◌+◌, ◌-◌, ◌*◌, ◌/◌, ◌%◌, ◌^◌, ltb, eqb}
use Rattle.std.specs.Bool.{beq}
use Rattle.evaluator.specs.Formats.{exponent_bits, fraction_bits, sign_place, nan_of}

-- no number, an infinity, or ± a whole number times a power of two, in units of the format's smallest positive number; the Bool says that it is negative
pub data Exact : Type 0 where
  nan : Exact
  infinite : Bool → Exact
  finite : Bool → ℕ → ℕ → Exact

-- the fields of a pattern
abbrev pub is_negative : ℕ → ℕ → Bool
is_negative f v = not (eqb (v / 2 ^ sign_place f) 0)

abbrev pub exponent_of : ℕ → ℕ → ℕ
exponent_of f v = v / 2 ^ fraction_bits f % 2 ^ exponent_bits f

abbrev pub fraction_of : ℕ → ℕ → ℕ
fraction_of f v = v % 2 ^ fraction_bits f

-- the fraction below a leading 1, which exponent 0 does not have
abbrev pub significand : ℕ → ℕ → ℕ → ℕ
significand p e m = cond (eqb e 0) m (2 ^ p + m)

-- exponent all ones: an infinity or no number; the exponents 0 and 1 have the same power
unfoldable pub exact_of : ℕ → ℕ → Exact
exact_of f v =
    cond (eqb (exponent_of f v) (2 ^ exponent_bits f - 1))
    (cond (eqb (fraction_of f v) 0) (infinite (is_negative f v)) nan)
    (finite (is_negative f v) (significand (fraction_bits f) (exponent_of f v) (fraction_of f v)) (exponent_of f v - 1))

-- ±a < ±b: a minus is below a plus, but both zeros are equal
abbrev pub signed_below : Bool → ℕ → Bool → ℕ → Bool
signed_below false a false b = ltb a b
signed_below false a true b = false
signed_below true a false b = not (eqb a 0 && eqb b 0)
signed_below true a true b = ltb b a

-- ±a = ±b
abbrev pub signed_same : Bool → ℕ → Bool → ℕ → Bool
signed_same s a t b = eqb a b && (beq s t || eqb a 0)

abbrev pub less_than : Exact → Exact → Bool
less_than nan y = false
less_than (infinite s) nan = false
less_than (infinite s) (infinite t) = s && not t
less_than (infinite s) (finite t n d) = s
less_than (finite s m e) nan = false
less_than (finite s m e) (infinite t) = not t
less_than (finite s m e) (finite t n d) = signed_below s (m * 2 ^ e) t (n * 2 ^ d)

abbrev pub same_as : Exact → Exact → Bool
same_as nan y = false
same_as (infinite s) nan = false
same_as (infinite s) (infinite t) = beq s t
same_as (infinite s) (finite t n d) = false
same_as (finite s m e) nan = false
same_as (finite s m e) (infinite t) = false
same_as (finite s m e) (finite t n d) = signed_same s (m * 2 ^ e) t (n * 2 ^ d)

abbrev pub no_number : Exact → Bool
no_number nan = true
no_number (infinite s) = false
no_number (finite s m e) = false

-- FIsNaN, FLt and FEq of patterns
unfoldable pub is_nan : ℕ → ℕ → Bool
is_nan f v = no_number (exact_of f v)

unfoldable pub f_lt : ℕ → ℕ → ℕ → Bool
f_lt f x y = less_than (exact_of f x) (exact_of f y)

unfoldable pub f_eq : ℕ → ℕ → ℕ → Bool
f_eq f x y = same_as (exact_of f x) (exact_of f y)

-- a pattern with every NaN as the one
unfoldable pub canon : ℕ → ℕ → ℕ
canon f v = cond (is_nan f v) (nan_of f) v
