-- What is computed from slots: arithmetic, the unaries, the condition of a move
use Rattle.std.specs.Prelude.{ℕ}
use Rattle.lists.specs.Steps.{Built, ◌▸◌}
use Rattle.lists.specs.declared.State.{State}
use Rattle.forms.specs.declared.X87Arith.{X87Arith}
use Rattle.forms.specs.declared.UnaryOp.{UnaryOp}
use Rattle.forms.specs.declared.UnaryOp.TheVariants.{Abs, Chs, Sqrt, RoundToIntegral}
use Rattle.forms.specs.declared.X87Condition.{X87Condition}
use Rattle.forms.specs.declared.X87Condition.TheVariants.{Below, Equal, BelowOrEqual, Unordered, NotBelow, NotEqual, NotBelowOrEqual, NotUnordered}
use Rattle.exprs.specs.Nodes.{wide_konst_of, konst_of, flag_of, bv_and_of, bv_xor_of, eq_of, bool_and_of, bool_or_of, fp_arith_of, fisnan_of, fsqrt_of, fround_to_integral_of}
use Rattle.exprs.specs.Formats.{nearest, arith_kind_of}
use Rattle.exprs.specs.Slots.{as_extended_of, from_extended_of}

unfoldable pub extended_arith_of : State → X87Arith → ℕ → ℕ → Built
extended_arith_of s op lhs rhs =
    as_extended_of s lhs ▸ λ s a.
    as_extended_of s rhs ▸ λ s b.
    fp_arith_of s (arith_kind_of op) a b nearest ▸ λ s x.
    from_extended_of s x

-- `fabs` keeps all bits but the sign, `fchs` flips it; the others compute on the float
unfoldable pub unary_of : State → UnaryOp → ℕ → Built
unary_of s Abs top =
    wide_konst_of s 18446744073709551615 16383 79 ▸ λ s magnitude.
    bv_and_of s top magnitude
unary_of s Chs top =
    wide_konst_of s 0 16384 79 ▸ λ s sign.
    bv_xor_of s top sign
unary_of s Sqrt top =
    as_extended_of s top ▸ λ s x.
    fsqrt_of s x nearest ▸ λ s y.
    from_extended_of s y
unary_of s RoundToIntegral top =
    as_extended_of s top ▸ λ s x.
    fround_to_integral_of s x nearest ▸ λ s y.
    from_extended_of s y

-- Whether either of two floats is no number
unfoldable pub unordered_of : State → ℕ → ℕ → Built
unordered_of s a b =
    fisnan_of s a ▸ λ s x.
    fisnan_of s b ▸ λ s y.
    bool_or_of s x y

-- A flag is 1, or 0
unfoldable pub flag_is_of : State → ℕ → ℕ → Built
flag_is_of s flag value =
    flag_of s flag ▸ λ s f.
    konst_of s value 1 ▸ λ s k.
    eq_of s f k

-- The condition over the flags: 0 CF, 1 PF, 2 ZF
unfoldable pub predicate_of : State → X87Condition → Built
predicate_of s Below = flag_is_of s 0 1
predicate_of s Equal = flag_is_of s 2 1
predicate_of s BelowOrEqual =
    flag_is_of s 0 1 ▸ λ s below.
    flag_is_of s 2 1 ▸ λ s equal.
    bool_or_of s below equal
predicate_of s Unordered = flag_is_of s 1 1
predicate_of s NotBelow = flag_is_of s 0 0
predicate_of s NotEqual = flag_is_of s 2 0
predicate_of s NotBelowOrEqual =
    flag_is_of s 0 0 ▸ λ s not-below.
    flag_is_of s 2 0 ▸ λ s not_equal.
    bool_and_of s not-below not_equal
predicate_of s NotUnordered = flag_is_of s 1 0
