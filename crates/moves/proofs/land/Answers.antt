use Rattle.std.proofs.Common.{refl}
use Rattle.lists.proofs.Sequence.{over, last}
use Rattle.moves.proofs.Pushed.{overflow-is}
use Rattle.moves.specs.Pushes.{land_of}
use Rattle.moves.proofs.land.Goals as goal

pub returns-then-is_err : goal.returns-then-is_err
unfolding land_of
returns-then-is_err c =
    let p = c.push-pushed.ensures in
    let full = overflow-is _ _ _ p.1 c.if-is_err.ensures.value in
    rw (p.1, full) (over (rw p.0 at c.decline_x87.ensures))

pub returns-else-is_err : goal.returns-else-is_err
unfolding land_of
returns-else-is_err c =
    let p = c.push-pushed.ensures in
    let room = overflow-is _ _ _ p.1 c.if-is_err.ensures.value in
    rw (p.1, room) (last p.0 refl)
