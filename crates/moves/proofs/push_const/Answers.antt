use Rattle.lists.proofs.Sequence.{then}
use Rattle.moves.specs.Pushes.{push_const_of}
use Rattle.moves.proofs.push_const.Goals as goal

pub returns : goal.returns
unfolding push_const_of
returns c =
    then _ c.constant-value.ensures c.land.ensures
