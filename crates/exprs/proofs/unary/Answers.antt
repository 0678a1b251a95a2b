use Rattle.lists.proofs.Sequence.{then}
use Rattle.exprs.specs.Operations.{unary_of}
use Rattle.exprs.proofs.unary.Goals as goal

pub returns-in-Abs : goal.returns-in-Abs
unfolding unary_of
returns-in-Abs c = rw c.in-Abs.is (then _ c.constant-magnitude.ensures c.bv_and.ensures)

pub returns-in-Chs : goal.returns-in-Chs
unfolding unary_of
returns-in-Chs c = rw c.in-Chs.is (then _ c.constant-sign.ensures c.bv_xor.ensures)

pub returns-in-Sqrt : goal.returns-in-Sqrt
unfolding unary_of
returns-in-Sqrt c =
    rw c.in-Sqrt.is
    (then _ c.as_extended-x.ensures
    (then _ c.fsqrt-y.ensures
    c.from_extended.ensures))

pub returns-in-RoundToIntegral : goal.returns-in-RoundToIntegral
unfolding unary_of
returns-in-RoundToIntegral c =
    rw c.in-RoundToIntegral.is
    (then _ c.as_extended-x-in-RoundToIntegral.ensures
    (then _ c.fround_to_integral-y.ensures
    c.from_extended-in-RoundToIntegral.ensures))
