use Rattle.std.proofs.Common.{◌-◌, length}
use Rattle.smtreader.specs.Inside.{tables_of}
use Rattle.smtreader.specs.Ran.{Going}
use Rattle.smtreader.proofs.next.Reader.run.Given as goal

abbrev pub invariant-loop-at : goal.invariant-loop-at
invariant-loop-at l = Going l.x (length l.initial.self.columns.kinds.now) (tables_of l.self.columns) l.self.place l.self.line l.at

abbrev pub decreases-loop-at : goal.decreases-loop-at
decreases-loop-at l = length l.x - l.at
