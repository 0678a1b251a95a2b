use Rattle.lists.proofs.Sequence.{then}
use Rattle.moves.specs.Pushes.{push_memory_of}
use Rattle.moves.proofs.push_memory.Goals as goal

pub returns : goal.returns
unfolding push_memory_of
returns c =
    then _ c.x87_memory_read-value.ensures c.land.ensures
