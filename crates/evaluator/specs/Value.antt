-- The value of a node: given, or computed as SMT-LIB says of numbers below 2^width.
use Rattle.std.specs.Prelude.{Bool, cond, not, ◌&&◌, ◌||◌, ℕ, ◌+◌, ◌*◌, ◌^◌, leb, eqb}
use Rattle.std.specs.Int.Bits.{bit_and, bit_xor}
use Rattle.words.specs.Wide.{extract_of, concat_of}
use Rattle.sorts.specs.Sorts.{is_float, pattern_width}
use Rattle.evaluator.specs.Exact.{f_eq, f_lt, is_nan, canon}

-- how many bits a value of a sort has
abbrev pub width_of : ℕ → ℕ
width_of s = cond (is_float s) (pattern_width s) s

-- a test as a value of width 1
abbrev pub flag_of : Bool → ℕ
flag_of b = cond b 1 0

-- kinds 1 to 5, 16 to 19, 23, 24 and 27 to 29 are given their values
abbrev pub is_given : ℕ → Bool
is_given k = (((leb 1 k && leb k 5) || (leb 16 k && leb k 19)) || (leb 23 k && leb k 24)) || (leb 27 k && leb k 29)

-- a given value as a node of sort s holds it: a float's NaN becomes the one
unfoldable pub held : ℕ → ℕ → ℕ
held s g = cond (is_float s) (canon s g) g

-- the other kinds, from the row, its operands' sorts and values
unfoldable pub computed : ℕ → ℕ → ℕ → ℕ → ℕ → ℕ → ℕ → ℕ → ℕ → ℕ
computed k a b c sa sb va vb vc =
    -- constant
    cond (eqb k 6) (b * 2 ^ 64 + a)
    -- And, Xor, Eq
    (cond (eqb k 7) (bit_and va vb)
    (cond (eqb k 8) (bit_xor va vb)
    (cond (eqb k 9) (flag_of (eqb va vb))
    -- BoolAnd, BoolOr, BoolNot
    (cond (eqb k 10) (flag_of (eqb va 1 && eqb vb 1))
    (cond (eqb k 11) (flag_of (eqb va 1 || eqb vb 1))
    (cond (eqb k 12) (flag_of (not (eqb va 1)))
    -- Ite, Extract, Concat
    (cond (eqb k 13) (cond (eqb va 1) vb vc)
    (cond (eqb k 14) (extract_of va b c)
    (cond (eqb k 15) (concat_of va vb sb)
    -- FEq, FLt, FIsNaN
    (cond (eqb k 20) (flag_of (f_eq sa va vb))
    (cond (eqb k 21) (flag_of (f_lt sa va vb))
    (cond (eqb k 22) (flag_of (is_nan sa va))
    -- BvToFp, FpToIeeeBv
    (cond (eqb k 25) (canon c va)
    (cond (eqb k 26) va
    0))))))))))))))
