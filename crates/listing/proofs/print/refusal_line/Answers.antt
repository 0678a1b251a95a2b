use Rattle.listing.specs.Listing.{refusal_line}
use Rattle.listing.proofs.print.refusal_line.Goals as goal

pub returns-in-Some : goal.returns-in-Some
unfolding refusal_line
returns-in-Some g c = rw c.in-Some.is c.line.ensures

pub returns-in_default : goal.returns-in_default
unfolding refusal_line
returns-in_default g c = rw c.in_default.is (g.met.S.Sink.laws.nothing c.args.out.now)
