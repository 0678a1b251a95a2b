use Rattle.std.proofs.Common.{refl}
use Rattle.lists.proofs.Sequence.{then, last}
use Rattle.lists.specs.Stack.{pop_of}
use Rattle.lists.proofs.LiftCtx.pop.Goals as goal

pub returns : goal.returns
unfolding pop_of
returns c = then _ c.read-top.ensures (last c.drop_top.ensures refl)
