use Rattle.std.proofs.Common.{le-leb, eq-eqb, ne_eqb}
use Rattle.smtgrammar.specs.Next.{obliged}
use borrow.Author.Tests.{lt-leb}
use Rattle.smtreader.specs.Inside.{tables_of}
use Rattle.smtreader.proofs.Lines.{declared-ends}
use Rattle.smtreader.proofs.next.Reader.declared.Goals.{then-l-eq26, else-l-eq26, then-l-le3, else-l-le3}
use Rattle.smtreader.proofs.next.Reader.declared.Goals as goal

pub returns : goal.returns
unfolding obliged
returns c = declared-ends (tables_of c.args.self.now.columns) _ _ c.args.self.now.place c.args.self.now.line c.args.w _
    (elim c.if-l-eq26.branch [
      | then-l-eq26 w ↦ rw (w.self-is, eq-eqb _ _ w.if-l-eq26.true, w.format_of.ensures)
      | else-l-eq26 w ↦ rw (w.self-is, ne_eqb _ _ w.if-l-eq26.false)
    ])
    (elim c.if-l-le3.branch [
      | then-l-le3 w ↦ rw (w.b-is, le-leb _ _ w.if-l-le3.true)
      | else-l-le3 w ↦ rw (w.b-is, lt-leb _ _ w.if-l-le3.false)
    ])
    c.entered.ensures (c.declared_place-self.ensures (tables_of c.args.self.now.columns) c.args.w)
