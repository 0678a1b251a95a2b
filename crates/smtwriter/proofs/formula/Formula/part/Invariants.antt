use Rattle.smttext.specs.Text.{part}
use Rattle.smtwriter.proofs.formula.Formula.part.Given as goal

abbrev pub invariant-loop-i : goal.invariant-loop-i
invariant-loop-i g l = g.S.Sink.took (part l.p l.self.nodes.now l.self.sorts.now l.self.marks.now l.i) l.initial.out l.out
