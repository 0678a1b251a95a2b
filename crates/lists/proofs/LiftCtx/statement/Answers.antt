use Rattle.std.proofs.Common.{refl}
use Rattle.lists.specs.Rows.{up, wrote}
use Rattle.lists.specs.Nodes.{statement_of}
use Rattle.lists.proofs.LiftCtx.statement.Goals as goal

pub returns : goal.returns
unfolding statement_of wrote up
returns c = record { state = cc; number = refl; list = refl; said = cc; same-nodes = refl; same-statements = refl }
