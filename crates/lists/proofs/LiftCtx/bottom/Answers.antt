use Rattle.std.proofs.Common.{refl}
use Rattle.lists.proofs.Sequence.{then, last}
use Rattle.lists.specs.Stack.{bottom_of}
use Rattle.lists.proofs.LiftCtx.bottom.Goals as goal

pub returns : goal.returns
unfolding bottom_of
returns c = then _ c.fresh-v.ensures (last c.grow.ensures refl)
