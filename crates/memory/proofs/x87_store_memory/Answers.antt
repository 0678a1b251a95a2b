use Rattle.lists.proofs.Sequence.{then}
use Rattle.memory.specs.Memory.{x87_store_memory_of}
use Rattle.memory.proofs.x87_store_memory.Goals as goal

pub returns : goal.returns
unfolding x87_store_memory_of
returns c =
    then _ c.top-value.ensures
    (then _ c.from_slot-stored.ensures
    c.write_dst.ensures)
