use Rattle.listing.specs.Text.{rows}
use Rattle.listing.proofs.print.rows.Given as goal

abbrev pub invariant-loop-i : goal.invariant-loop-i
invariant-loop-i g l = g.S.Sink.took (rows l.letter l.words l.i) l.initial.out l.out
