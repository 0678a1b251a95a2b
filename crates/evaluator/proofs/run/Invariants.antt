use Rattle.std.proofs.Common.{◌≡◌, ◌*◌, length, take, drop}
use Rattle.evaluator.specs.Lists.{flat, vals}
use Rattle.evaluator.proofs.run.Given as goal

abbrev pub invariant-loop-i : goal.invariant-loop-i
invariant-loop-i l =
    (length l.column ≡ length l.initial.column) × (take (2 * l.i) l.column ≡ flat (vals l.nodes l.given l.i)) × (drop (2 * l.i) l.column ≡ drop (2 * l.i) l.initial.column)
