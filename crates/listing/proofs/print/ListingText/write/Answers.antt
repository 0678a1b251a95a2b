use Rattle.listing.specs.Listing.{text_of}
use Rattle.listing.proofs.print.ListingText.write.Goals as goal

pub returns : goal.returns
unfolding text_of
returns g c =
    let s = g.met.S.Sink.laws in
    s.then c.rows.ensures (s.then c.rows-2.ensures (s.then c.state_line.ensures c.refusal_line.ensures))
