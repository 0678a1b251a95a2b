use Rattle.std.proofs.Common.{refl}
use Rattle.lists.proofs.Sequence.{then, last}
use Rattle.moves.specs.Moves.{x87_arith_of}
use Rattle.moves.proofs.x87_arith.Goals as goal

pub returns : goal.returns
unfolding x87_arith_of
returns c =
    then _ c.read-a.ensures
    (then _ c.source-b.ensures
    (then _ c.ordered-v.ensures
    (then _ c.write.ensures
    (last c.drop_if.ensures refl))))
