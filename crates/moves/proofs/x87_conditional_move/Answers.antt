use Rattle.lists.proofs.Sequence.{then}
use Rattle.moves.specs.Moves.{x87_conditional_move_of}
use Rattle.moves.proofs.x87_conditional_move.Goals as goal

pub returns : goal.returns
unfolding x87_conditional_move_of
returns c =
    then _ c.read-taken.ensures
    (then _ c.read-kept.ensures
    (then _ c.predicate-holds.ensures
    (then _ c.ite-v.ensures
    c.write.ensures)))
