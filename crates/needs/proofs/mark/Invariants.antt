use Rattle.std.proofs.Common.{◌≡◌, ◌+◌, length}
use Rattle.needs.specs.Needed.{pass}
use Rattle.needs.proofs.mark.Given as goal

abbrev pub invariant-loop-i : goal.invariant-loop-i
invariant-loop-i l = (length l.m ≡ length l.initial.m) × (pass l.nodes (l.i + 1) l.m ≡ pass l.nodes (l.root + 1) l.initial.m)
