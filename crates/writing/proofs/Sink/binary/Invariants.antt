use Rattle.std.proofs.Common.{◌-◌, ◌/◌, ◌^◌}
use Rattle.words.specs.Wide.{val}
use Rattle.writing.specs.Bytes.{bits}
use Rattle.writing.proofs.Sink.binary.Given as goal

abbrev pub invariant-loop-i : goal.invariant-loop-i
invariant-loop-i g l = g.Self.Sink.took (bits (l.n - l.i) (val l.x / 2 ^ l.i)) l.initial.self l.self
