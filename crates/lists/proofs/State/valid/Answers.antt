use Rattle.std.proofs.Common.{sym}
use Rattle.lists.specs.Valid.{valid_of}
use Rattle.lists.proofs.State.valid.Goals as goal

pub returns : goal.returns
unfolding valid_of
returns c = rw (sym c.all_sound.ensures)
