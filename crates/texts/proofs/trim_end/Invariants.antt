use Rattle.std.proofs.Common.{◌≡◌, length}
use Rattle.texts.specs.Letters.{cut}
use Rattle.texts.proofs.trim_end.Given as goal

abbrev pub invariant-loop-s : goal.invariant-loop-s
invariant-loop-s l = cut l.s ≡ cut l.fn.s

abbrev pub decreases-loop-s : goal.decreases-loop-s
decreases-loop-s l = length l.s
