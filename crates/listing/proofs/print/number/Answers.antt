use Rattle.std.proofs.Common.{append-nil}
use Rattle.listing.specs.Text.{numbers}
use Rattle.listing.proofs.print.number.Goals as goal

pub returns : goal.returns
unfolding numbers
returns g c = rw append-nil (g.met.S.Sink.laws.then c.put.ensures c.decimal.ensures)
