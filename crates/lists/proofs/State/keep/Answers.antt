use Rattle.std.proofs.Common.{arith, ◌≤◌, ◌<◌, le-leb}
use Rattle.lists.specs.Stack.{kept}
use borrow.Author.Tests.{lt-leb}
use Rattle.lists.proofs.State.keep.Goals as goal

pub returns-then-index-lt8 : goal.returns-then-index-lt8
unfolding kept
returns-then-index-lt8 c = let h : c.args.index ≤ 7 = omega arith in rw (le-leb _ _ h)

pub returns-else-index-lt8 : goal.returns-else-index-lt8
unfolding kept
returns-else-index-lt8 c = let h : 7 < c.args.index = omega arith in rw (lt-leb _ _ h)
