use Rattle.std.proofs.Common.{◌≡◌, length}
use Rattle.texts.specs.Letters.{skip}
use Rattle.texts.proofs.trim_start.Given as goal

abbrev pub invariant-loop-s : goal.invariant-loop-s
invariant-loop-s l = skip l.s ≡ skip l.fn.s

abbrev pub decreases-loop-s : goal.decreases-loop-s
decreases-loop-s l = length l.s
