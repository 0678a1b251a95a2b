use Rattle.moves.specs.Moves.{ordered_of}
use Rattle.moves.proofs.ordered.Goals as goal

pub returns-then-reversed : goal.returns-then-reversed
unfolding ordered_of
returns-then-reversed c = rw c.if-reversed.true c.extended_arith.ensures

pub returns-else-reversed : goal.returns-else-reversed
unfolding ordered_of
returns-else-reversed c = rw c.if-reversed.false c.extended_arith-else-reversed.ensures
