use Rattle.lists.proofs.Sequence.{then, still}
use Rattle.lists.specs.Stack.{read_of}
use Rattle.lists.proofs.LiftCtx.read.Goals as goal

pub returns : goal.returns
unfolding read_of
returns c = then _ c.ensure.ensures (still c.slot.ensures)
