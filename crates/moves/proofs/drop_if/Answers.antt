use Rattle.moves.specs.Moves.{dropped_if}
use Rattle.moves.proofs.drop_if.Goals as goal

pub returns-then-pop : goal.returns-then-pop
unfolding dropped_if
returns-then-pop c = rw c.if-pop.true c.drop_top.ensures

pub returns-else-pop : goal.returns-else-pop
unfolding dropped_if
returns-else-pop c = rw c.if-pop.false
