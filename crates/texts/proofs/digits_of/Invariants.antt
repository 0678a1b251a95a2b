use Rattle.std.proofs.Common.{◌≡◌, ◌<◌, length}
use Rattle.texts.specs.Places.{digits}
use Rattle.texts.proofs.digits_of.Given as goal

abbrev pub invariant-loop-left : goal.invariant-loop-left
invariant-loop-left l = (l.v < 80) × (digits l.v l.left ≡ digits l.fn.from l.fn.s)

abbrev pub decreases-loop-left : goal.decreases-loop-left
decreases-loop-left l = length l.left
