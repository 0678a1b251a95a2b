use Rattle.memory.specs.Memory.{top_of}
use Rattle.memory.proofs.top.Goals as goal

pub returns-then-pop : goal.returns-then-pop
unfolding top_of
returns-then-pop c = rw c.if-pop.true c.pop.ensures

pub returns-else-pop : goal.returns-else-pop
unfolding top_of
returns-else-pop c = rw c.if-pop.false c.read.ensures
