use Rattle.std.proofs.Common.{lt-ltb, le-ltb}
use Rattle.lists.specs.Stack.{grown}
use Rattle.lists.proofs.State.grow.Goals as goal

pub returns-then-self-lt8 : goal.returns-then-self-lt8
unfolding grown
returns-then-self-lt8 c = rw (lt-ltb _ _ c.if-self-lt8.true)

pub returns-else-self-lt8 : goal.returns-else-self-lt8
unfolding grown
returns-else-self-lt8 c = rw (le-ltb _ _ c.if-self-lt8.false)
