use Rattle.listing.proofs.Writing.{numbers-take}
use Rattle.listing.specs.Text.{numbers}
use Rattle.writing.specs.Sink.{also}
use Rattle.listing.proofs.print.places.Goals as goal

pub loop-slot-init : goal.loop-slot-init
unfolding numbers
loop-slot-init g c = g.met.S.Sink.laws.nothing c.args.out.now

pub loop-slot-preserved : goal.loop-slot-preserved
loop-slot-preserved g c =
    let s = g.met.S.Sink.laws in
    also s (numbers-take _ _ c.loop-slot-test.true) (s.then c.loop-slot.invariant c.number.ensures)
