use Rattle.std.proofs.Common.{refl}
use Rattle.lists.proofs.Sequence.{then, last}
use Rattle.moves.specs.Moves.{store_slot_of}
use Rattle.moves.proofs.store_slot.Goals as goal

pub returns : goal.returns
unfolding store_slot_of
returns c =
    then _ c.read-value.ensures
    (then _ c.write.ensures
    (last c.drop_if.ensures refl))
