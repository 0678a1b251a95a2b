use Rattle.lists.proofs.Sequence.{then}
use Rattle.lists.specs.Stack.{exchange_of}
use Rattle.lists.proofs.LiftCtx.exchange.Goals as goal

pub returns : goal.returns
unfolding exchange_of
returns c = then _ c.read-top.ensures (then _ c.read-other.ensures (then _ c.write.ensures c.write-2.ensures))
