use Rattle.std.proofs.Common.{refl}
use Rattle.lists.proofs.Sequence.{then, last}
use Rattle.lists.specs.Stack.{write_of}
use Rattle.lists.proofs.LiftCtx.write.Goals as goal

pub returns : goal.returns
unfolding write_of
returns c = then _ c.ensure.ensures (last c.keep.ensures refl)
