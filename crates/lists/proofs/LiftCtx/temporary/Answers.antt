use Rattle.std.proofs.Common.{refl}
use Rattle.lists.specs.Rows.{up}
use Rattle.lists.specs.Nodes.{temporary_counted, temporary_of}
use Rattle.lists.proofs.Sequence.{then, last}
use Rattle.lists.proofs.LiftCtx.temporary.Goals as goal

pub returns : goal.returns
unfolding temporary_of temporary_counted up
returns c = then _ c.node-v.ensures (last (cc) refl)
