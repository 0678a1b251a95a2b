use Rattle.std.proofs.Common.{arith}
use Rattle.export.proofs.Places.{laid_over}
use Rattle.export.proofs.lay.Goals as goal

pub returns : goal.returns
returns c = rw c.copy_from_slice.ensures.after (laid_over _ _ 0 _ (omega arith) (omega arith))
