use Rattle.lists.proofs.Sequence.{then}
use Rattle.exprs.specs.Slots.{to_slot_of, float_to_slot_of, integer_to_slot_of}
use Rattle.exprs.proofs.to_slot.Goals as goal

pub returns-in-Float : goal.returns-in-Float
unfolding to_slot_of float_to_slot_of
returns-in-Float c =
    rw c.in-Float.is
    (then _ (rw c.format_number.ensures at c.bv_to_fp-x.ensures)
    (then _ c.fp_to_fp-y.ensures
    c.from_extended.ensures))

pub returns-in-Integer : goal.returns-in-Integer
unfolding to_slot_of integer_to_slot_of
returns-in-Integer c =
    rw c.in-Integer.is
    (then _ c.sbv_to_fp-x.ensures
    c.from_extended-in-Integer.ensures)
