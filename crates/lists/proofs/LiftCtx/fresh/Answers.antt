use Rattle.std.proofs.Common.{refl}
use Rattle.lists.specs.Rows.{up}
use Rattle.lists.specs.Nodes.{input_counted, fresh_of}
use Rattle.lists.proofs.Sequence.{then, last}
use Rattle.lists.proofs.LiftCtx.fresh.Goals as goal

pub returns : goal.returns
unfolding fresh_of input_counted up
returns c = then _ c.node-v.ensures (last (cc) refl)
