use Rattle.std.proofs.lemmas.List.{take_more}
use Rattle.writing.proofs.Sink.all.Goals as goal

pub loop-b-init : goal.loop-b-init
loop-b-init g c = g.met.Self.Sink.laws.nothing c.args.self.now

pub loop-b-preserved : goal.loop-b-preserved
loop-b-preserved g c = rw (take_more _ _ 0 c.loop-b-test.true) (g.met.Self.Sink.laws.then c.loop-b.invariant c.put.ensures)
