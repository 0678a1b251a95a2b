use Rattle.exprs.specs.Image.{extended_from_memory_of}
use Rattle.lists.proofs.Sequence.{then}
use Rattle.exprs.proofs.extended_from_memory.Goals as goal

pub returns : goal.returns
unfolding extended_from_memory_of
returns c =
    then _ c.extract-sign.ensures
    (then _ c.extract-exponent.ensures
    (then _ c.extract-integer.ensures
    (then _ c.extract-fraction.ensures
    (then _ c.konst-zero.ensures
    (then _ c.eq-zero_exponent.ensures
    (then _ c.konst-one.ensures
    (then _ c.eq-leading.ensures
    (then _ c.bool_not-not_leading.ensures
    (then _ c.bool_and-denormal.ensures
    (then _ c.bool_not-not_zero.ensures
    (then _ c.bool_and-normal.ensures
    (then _ c.bool_or-canonical.ensures
    (then _ c.concat-low.ensures
    (then _ c.concat-pattern.ensures
    c.ite.ensures))))))))))))))
