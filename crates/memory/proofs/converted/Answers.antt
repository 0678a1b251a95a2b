use Rattle.std.proofs.Common.{sym, ◌∙◌}
use Rattle.memory.specs.Memory.{converted_of}
use Rattle.memory.proofs.converted.Goals as goal

pub returns-then-is_image : goal.returns-then-is_image
unfolding converted_of
returns-then-is_image c = rw (sym c.is_image.ensures ∙ c.if-is_image.true) c.image_read.ensures

pub returns : goal.returns
unfolding converted_of
returns c = rw (sym c.is_image.ensures ∙ c.if-is_image.false) c.to_slot.ensures
