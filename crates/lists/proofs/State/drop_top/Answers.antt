use Rattle.lists.specs.Stack.{drop_top_of}
use Rattle.lists.proofs.State.drop_top.Goals as goal

pub returns : goal.returns
unfolding drop_top_of
returns c = cc
