use Rattle.std.proofs.Common.{◌≡◌}
use Rattle.lists.specs.Valid.{all_sound}
use Rattle.lists.proofs.State.all_sound.Given as goal

abbrev pub invariant-loop-i : goal.invariant-loop-i
invariant-loop-i l = l.all ≡ all_sound l.self l.i
