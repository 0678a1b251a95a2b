use Rattle.lists.specs.Rows.{room_of}
use Rattle.lists.proofs.room.Goals as goal

pub returns : goal.returns
unfolding room_of
returns c = cc
