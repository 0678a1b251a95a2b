use Rattle.lists.specs.Stack.{havoc_of}
use Rattle.lists.proofs.State.havoc.Goals as goal

pub returns : goal.returns
unfolding havoc_of
returns c = cc
