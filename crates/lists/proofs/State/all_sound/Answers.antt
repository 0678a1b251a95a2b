use Rattle.std.proofs.Common.{refl, add-one}
use Rattle.lists.specs.Valid.{all_sound}
use Rattle.lists.proofs.State.all_sound.Goals as goal

pub loop-i-init : goal.loop-i-init
unfolding all_sound
loop-i-init c = refl

pub loop-i-preserved : goal.loop-i-preserved
unfolding all_sound
loop-i-preserved c = rw (add-one, c.loop-i.invariant, c.sound-all.ensures)
