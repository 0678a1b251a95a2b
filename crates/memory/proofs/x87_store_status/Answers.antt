use Rattle.lists.proofs.Sequence.{then}
use Rattle.memory.specs.Memory.{x87_store_status_of}
use Rattle.memory.proofs.x87_store_status.Goals as goal

pub returns : goal.returns
unfolding x87_store_status_of
returns c =
    then _ c.fsw-status.ensures c.write_dst.ensures
