use Rattle.lists.proofs.Sequence.{then}
use Rattle.moves.specs.Pushes.{push_slot_of}
use Rattle.moves.proofs.push_slot.Goals as goal

pub returns : goal.returns
unfolding push_slot_of
returns c =
    then _ c.read-value.ensures c.land.ensures
