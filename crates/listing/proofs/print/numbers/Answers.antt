use Rattle.listing.proofs.Writing.{numbers-take}
use Rattle.listing.specs.Text.{numbers}
use Rattle.writing.specs.Sink.{also}
use Rattle.listing.proofs.print.numbers.Goals as goal

pub loop-v-init : goal.loop-v-init
unfolding numbers
loop-v-init g c = g.met.S.Sink.laws.nothing c.args.out.now

pub loop-v-preserved : goal.loop-v-preserved
loop-v-preserved g c =
    let s = g.met.S.Sink.laws in
    also s (numbers-take _ _ c.loop-v-test.true) (s.then c.loop-v.invariant c.number.ensures)
