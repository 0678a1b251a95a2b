use Rattle.std.proofs.Common.{◌≡◌, ◌++◌, drop}
use Rattle.sorts.specs.Laws.{Passes}
use Rattle.sorts.specs.Lists.{sorts}
use Rattle.evaluator.proofs.table.fill.Given as goal

abbrev pub invariant-loop-i : goal.invariant-loop-i
invariant-loop-i l = (l.t ≡ sorts l.nodes l.i ++ drop l.i l.initial.t) × Passes l.nodes l.i
