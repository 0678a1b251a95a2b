-- The table of sorts. A sort is one number: bits of width 1 to 80 by the width, a float by its format number, and 0 is none.
use Rattle.std.specs.Prelude.{Bool, cond, ◌&&◌, ◌||◌, ℕ, ◌+◌, ◌-◌, ◌*◌, ◌^◌, leb, ltb, eqb}

-- s where ok holds, and else none
abbrev pub when : Bool → ℕ → ℕ
when ok s = cond ok s 0

-- bits of width 1 to 80
abbrev pub is_bits : ℕ → Bool
is_bits s = leb 1 s && leb s 80

-- one of the three formats: exponent bits times 256 plus significand bits
abbrev pub is_float : ℕ → Bool
is_float s = (eqb s 2072 || eqb s 2869) || eqb s 3904

-- the widths of a temporary and of a named slot
abbrev pub is_stored : ℕ → Bool
is_stored s = ((eqb s 16 || eqb s 32) || eqb s 64) || eqb s 80

-- the widths of whole numbers
abbrev pub is_word : ℕ → Bool
is_word s = (eqb s 16 || eqb s 32) || eqb s 64

-- the width of a format's patterns
abbrev pub pattern_width : ℕ → ℕ
pattern_width f = cond (eqb f 2072) 32 (cond (eqb f 2869) 64 79)

-- The sort of a node from its row and the sorts of its operands, kind by kind; unused fields are 0, a rounding is 0 or 1
unfoldable pub sort_row : ℕ → ℕ → ℕ → ℕ → ℕ → ℕ → ℕ → ℕ
sort_row k a b c sa sb sc =
    -- input, temporary, named slot: their bits
    cond (eqb k 1) (when ((eqb b 79 || eqb b 16) && eqb c 0) b)
    (cond (eqb k 2) (when (is_stored b && eqb c 0) b)
    (cond (eqb k 3) (when (is_stored b && eqb c 0) b)
    -- fsw, flag
    (cond (eqb k 4) (when ((eqb a 0 && eqb b 0) && eqb c 0) 16)
    (cond (eqb k 5) (when ((leb a 2 && eqb b 0) && eqb c 0) 1)
    -- constant: 1 to 80 bits that hold it
    (cond (eqb k 6) (when (is_bits c && ltb (b * 2 ^ 64 + a) (2 ^ c)) c)
    -- And, Xor, Eq: bits of equal widths
    (cond (eqb k 7) (when ((is_bits sa && eqb sa sb) && eqb c 0) sb)
    (cond (eqb k 8) (when ((is_bits sa && eqb sa sb) && eqb c 0) sb)
    (cond (eqb k 9) (when ((is_bits sa && eqb sa sb) && eqb c 0) 1)
    -- BoolAnd, BoolOr, BoolNot: width 1
    (cond (eqb k 10) (when ((eqb sa 1 && eqb sb 1) && eqb c 0) 1)
    (cond (eqb k 11) (when ((eqb sa 1 && eqb sb 1) && eqb c 0) 1)
    (cond (eqb k 12) (when ((eqb sa 1 && eqb b 0) && eqb c 0) 1)
    -- Ite: a condition of width 1, branches of equal widths
    (cond (eqb k 13) (when ((eqb sa 1 && is_bits sb) && eqb sb sc) sc)
    -- Extract: lo ≤ hi < width
    (cond (eqb k 14) (when ((leb c b && ltb b sa) && is_bits sa) (b - c + 1))
    -- Concat: the sum, to 80 at most
    (cond (eqb k 15) (when (((is_bits sa && is_bits sb) && leb (sa + sb) 80) && eqb c 0) (sa + sb))
    -- FAdd, FSub, FMul, FDiv: one shared format, a rounding
    (cond (eqb k 16) (when ((is_float sa && eqb sa sb) && leb c 1) sb)
    (cond (eqb k 17) (when ((is_float sa && eqb sa sb) && leb c 1) sb)
    (cond (eqb k 18) (when ((is_float sa && eqb sa sb) && leb c 1) sb)
    (cond (eqb k 19) (when ((is_float sa && eqb sa sb) && leb c 1) sb)
    -- FEq, FLt: one shared format
    (cond (eqb k 20) (when ((is_float sa && eqb sa sb) && eqb c 0) 1)
    (cond (eqb k 21) (when ((is_float sa && eqb sa sb) && eqb c 0) 1)
    -- FIsNaN
    (cond (eqb k 22) (when ((is_float sa && eqb b 0) && eqb c 0) 1)
    -- FSqrt, FRoundToIntegral: a rounding
    (cond (eqb k 23) (when ((is_float sa && leb b 1) && eqb c 0) sa)
    (cond (eqb k 24) (when ((is_float sa && leb b 1) && eqb c 0) sa)
    -- BvToFp: a source as wide as the format's patterns
    (cond (eqb k 25) (when ((is_float c && eqb sa (pattern_width c)) && eqb b 0) c)
    -- FpToIeeeBv
    (cond (eqb k 26) (when ((is_float sa && eqb b 0) && eqb c 0) (pattern_width sa))
    -- FpToSbv: 16, 32 or 64 bits
    (cond (eqb k 27) (when ((is_float sa && leb b 1) && is_word c) c)
    -- SbvToFp: 16, 32 or 64 bits to format 3904
    (cond (eqb k 28) (when ((is_word sa && leb b 1) && eqb c 3904) c)
    -- FpToFp
    (cond (eqb k 29) (when ((is_float sa && leb b 1) && is_float c) c)
    0))))))))))))))))))))))))))))
