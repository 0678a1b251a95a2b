use Rattle.lists.proofs.Sequence.{then}
use Rattle.memory.specs.Memory.{image_read_of}
use Rattle.memory.proofs.image_read.Goals as goal

pub returns : goal.returns
unfolding image_read_of
returns c =
    then _ c.fresh-free.ensures c.extended_from_memory.ensures
