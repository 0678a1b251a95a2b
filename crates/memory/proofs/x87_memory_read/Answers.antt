use Rattle.lists.proofs.Sequence.{then}
use Rattle.memory.specs.Memory.{x87_memory_read_of}
use Rattle.memory.proofs.x87_memory_read.Goals as goal

pub returns : goal.returns
unfolding x87_memory_read_of
returns c =
    then _ c.read_operand_lowered-raw.ensures c.converted.ensures
