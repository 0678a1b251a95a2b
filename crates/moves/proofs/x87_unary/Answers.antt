use Rattle.lists.proofs.Sequence.{then}
use Rattle.moves.specs.Moves.{x87_unary_of}
use Rattle.moves.proofs.x87_unary.Goals as goal

pub returns : goal.returns
unfolding x87_unary_of
returns c =
    then _ c.read-top.ensures
    (then _ c.unary-v.ensures
    c.write.ensures)
