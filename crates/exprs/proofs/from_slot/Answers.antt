use Rattle.std.proofs.Common.{sym, ◌∙◌}
use Rattle.exprs.specs.Slots.{from_slot_of}
use Rattle.exprs.proofs.from_slot.Goals as goal

pub returns-then-is_image : goal.returns-then-is_image
unfolding from_slot_of
returns-then-is_image c = rw (sym c.is_image.ensures ∙ c.if-is_image.true) c.extended_to_memory.ensures

pub returns : goal.returns
unfolding from_slot_of
returns c = rw (sym c.is_image.ensures ∙ c.if-is_image.false) c.narrowed.ensures
