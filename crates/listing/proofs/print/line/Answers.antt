use Rattle.listing.specs.Text.{line}
use Rattle.listing.proofs.print.line.Goals as goal

pub returns : goal.returns
unfolding line
returns g c =
    let s = g.met.S.Sink.laws in
    s.then c.put.ensures (s.then c.numbers.ensures c.put-2.ensures)
