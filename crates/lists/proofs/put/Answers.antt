use Rattle.std.proofs.Common.{arith, le-leb, ◌+◌, ◌*◌, ◌≤◌, ◌<◌, length}
use Rattle.lists.specs.Rows.{wrote, stored}
use Rattle.lists.proofs.Laid.{laid}
use borrow.Author.Tests.{lt-leb}
use Rattle.lists.proofs.put.Goals as goal

pub returns-then-n-list : goal.returns-then-n-list
unfolding wrote stored
returns-then-n-list c =
    let h : 4 * c.args.at + 4 ≤ length c.args.list.now = omega arith in
    rw (le-leb _ _ h, c.copy_from_slice.ensures.after) (laid _ (4 * c.args.at) _ _ _ _ h)

pub returns-else-n-list : goal.returns-else-n-list
unfolding wrote stored
returns-else-n-list c =
    let h : length c.args.list.now < 4 * c.args.at + 4 = omega arith in
    rw (lt-leb _ _ h)
