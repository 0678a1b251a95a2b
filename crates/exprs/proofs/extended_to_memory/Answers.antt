use Rattle.exprs.specs.Image.{extended_to_memory_of}
use Rattle.lists.proofs.Sequence.{then}
use Rattle.exprs.proofs.extended_to_memory.Goals as goal

pub returns : goal.returns
unfolding extended_to_memory_of
returns c =
    then _ c.extract-sign.ensures
    (then _ c.extract-exponent.ensures
    (then _ c.extract-fraction.ensures
    (then _ c.konst-zero.ensures
    (then _ c.eq-zero_exponent.ensures
    (then _ c.konst-zero_bit.ensures
    (then _ c.konst-one_bit.ensures
    (then _ c.ite-integer.ensures
    (then _ c.concat-significand.ensures
    (then _ c.concat-low.ensures
    c.concat.ensures)))))))))
