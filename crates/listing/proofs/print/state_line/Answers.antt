use Rattle.listing.proofs.Writing.{state-is}
use Rattle.writing.specs.Sink.{also}
use Rattle.listing.proofs.print.state_line.Goals as goal

pub returns : goal.returns
returns g c =
    let s = g.met.S.Sink.laws in
    also s (state-is c.args.s.now c.places.ensures.eight) (s.then c.put.ensures (s.then c.numbers.ensures (s.then c.places.ensures.wrote c.put-2.ensures)))
