use Rattle.listing.proofs.Writing.{row_on}
use Rattle.listing.specs.Text.{rows}
use Rattle.listing.proofs.print.rows.Goals as goal

pub loop-i-init : goal.loop-i-init
unfolding rows
loop-i-init g c = g.met.S.Sink.laws.nothing c.args.out.now

pub loop-i-preserved : goal.loop-i-preserved
loop-i-preserved g c =
    row_on g.met.S.Sink.laws _ _ _ _ _ _ _ c.word.ensures c.word-in-loop-i.ensures c.word-in-loop-i-2.ensures c.word-in-loop-i-3.ensures c.loop-i.invariant c.line.ensures
