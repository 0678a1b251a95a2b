use Rattle.std.proofs.Common.{refl, ap, ◌∙◌, add-one}
use Rattle.lists.specs.Stack.{drop_top_of}
use Rattle.moves.specs.Moves.{dropped_times}
use Rattle.moves.proofs.drop_times.Goals as goal

pub loop-init : goal.loop-init
unfolding dropped_times
loop-init c = refl

pub loop-preserved : goal.loop-preserved
unfolding dropped_times
loop-preserved c = rw add-one (c.drop_top.ensures ∙ ap drop_top_of c.loop.invariant)
