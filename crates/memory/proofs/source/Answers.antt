use Rattle.memory.specs.Memory.{source_of}
use Rattle.memory.proofs.source.Goals as goal

pub returns-in-Slot : goal.returns-in-Slot
unfolding source_of
returns-in-Slot c = rw c.in-Slot.is c.read.ensures

pub returns-in-Memory : goal.returns-in-Memory
unfolding source_of
returns-in-Memory c = rw c.in-Memory.is c.x87_memory_read.ensures
