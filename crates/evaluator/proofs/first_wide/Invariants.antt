use Rattle.std.proofs.Common.{◌≡◌, ◌-◌}
use Rattle.evaluator.specs.Lists.{wide_from}
use Rattle.evaluator.proofs.first_wide.Given as goal

abbrev pub invariant-loop-i : goal.invariant-loop-i
invariant-loop-i l = wide_from l.nodes l.given 0 l.count ≡ wide_from l.nodes l.given l.i (l.count - l.i)
