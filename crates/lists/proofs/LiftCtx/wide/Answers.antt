use Rattle.std.proofs.Common.{refl}
use Rattle.lists.specs.Rows.{up, wrote}
use Rattle.lists.specs.Nodes.{node_of}
use Rattle.lists.proofs.LiftCtx.wide.Goals as goal

pub returns : goal.returns
unfolding node_of wrote up
returns c = record { state = cc; number = refl; list = cc; said = refl; same-nodes = refl; same-statements = refl }
