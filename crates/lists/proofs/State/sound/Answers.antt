use Rattle.std.proofs.Common.{lt-ltb, le-ltb}
use Rattle.lists.specs.Valid.{sound_of}
use Rattle.lists.proofs.State.sound.Goals as goal

pub returns-then-i-self : goal.returns-then-i-self
unfolding sound_of
returns-then-i-self c = rw (lt-ltb _ _ c.if-i-self.true)

pub returns-else-i-self : goal.returns-else-i-self
unfolding sound_of
returns-else-i-self c = rw (le-ltb _ _ c.if-i-self.false)
