use Rattle.std.proofs.Common.{◌≡◌}
use Rattle.moves.specs.Moves.{dropped_times}
use Rattle.moves.proofs.drop_times.Given as goal

abbrev pub invariant-loop : goal.invariant-loop
invariant-loop l = l.s ≡ dropped_times l.counter l.initial.s
