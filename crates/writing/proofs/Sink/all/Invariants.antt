use Rattle.std.proofs.Common.{take}
use Rattle.writing.proofs.Sink.all.Given as goal

abbrev pub invariant-loop-b : goal.invariant-loop-b
invariant-loop-b g l = g.Self.Sink.took (take l.b-index l.text) l.initial.self l.self
