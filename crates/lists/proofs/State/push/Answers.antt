use Rattle.std.proofs.Common.{refl, le-leb}
use Rattle.lists.specs.Stack.{push_of, overflows}
use borrow.Author.Tests.{lt-leb}
use Rattle.lists.proofs.State.push.Goals as goal

pub returns-then-self-ge8 : goal.returns-then-self-ge8
unfolding push_of overflows
returns-then-self-ge8 c = rw (le-leb _ _ c.if-self-ge8.true) (c.havoc.ensures, refl)

pub returns : goal.returns
unfolding push_of overflows
returns c = rw (lt-leb _ _ c.if-self-ge8.false) (refl, refl)
