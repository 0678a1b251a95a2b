use Rattle.std.proofs.Common.{refl}
use Rattle.lists.proofs.Sequence.{then, over, still}
use Rattle.moves.specs.Pushes.{decline_x87_of}
use Rattle.moves.proofs.decline_x87.Goals as goal

pub returns : goal.returns
unfolding decline_x87_of
returns c = then _ (over (rw c.havoc.ensures at c.statement.ensures)) (still refl)
