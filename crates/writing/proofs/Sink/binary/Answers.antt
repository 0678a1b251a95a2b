use Rattle.std.proofs.Common.{refl, ◌/◌, ◌^◌}
use Rattle.words.specs.Wide.{val}
use Rattle.writing.proofs.Parts.{bits-more, bits_none}
use Rattle.writing.proofs.Sink.binary.Goals as goal

pub loop-i-init : goal.loop-i-init
loop-i-init g c = rw (← bits_none c.args.n (val c.args.x / 2 ^ c.args.n)) (g.met.Self.Sink.laws.nothing c.args.self.now)

pub loop-i-preserved : goal.loop-i-preserved
loop-i-preserved g c =
    rw (← bits-more _ _ _ c.loop-i.auto.i c.loop-i-test.true _ _ c.shr-rest.ensures refl)
    (g.met.Self.Sink.laws.then c.loop-i.invariant c.put.ensures)
