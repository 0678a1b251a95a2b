use Rattle.lists.proofs.Sequence.{then}
use Rattle.exprs.specs.Slots.{narrowed_of}
use Rattle.exprs.proofs.narrowed.Goals as goal

pub returns-in-Float : goal.returns-in-Float
unfolding narrowed_of
returns-in-Float c =
    rw c.in-Float.is
    (then _ c.as_extended-x.ensures
    (then _ (rw (c.rounding_number.ensures, c.format_number.ensures) at c.fp_to_fp-y.ensures)
    c.from_extended.ensures))

pub returns-in-Integer : goal.returns-in-Integer
unfolding narrowed_of
returns-in-Integer c =
    rw c.in-Integer.is
    (then _ c.as_extended-x.ensures
    (rw c.rounding_number-in-Integer.ensures at c.fp_to_sbv.ensures))
