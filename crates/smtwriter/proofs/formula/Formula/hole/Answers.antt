use Rattle.std.proofs.Common.{ne_eqb}
use Rattle.smttext.specs.Names.{rounding_text}
use Rattle.writing.specs.Bytes.{bytes}
use Rattle.smtwriter.proofs.Lines.{name-is}
use Rattle.writing.specs.Sink.{also}
use Rattle.smtwriter.proofs.formula.Formula.hole.Goals as goal
use Rattle.smtwriter.proofs.formula.Formula.hole.Goals.{then-r-eq0, else-r-eq0}

pub returns-in-Name : goal.returns-in-Name
returns-in-Name g c = rw c.in-Name.is (also g.met.S.Sink.laws (name-is _ _ _ _ c.field.ensures c.field-in-Name.ensures) c.name.ensures)

pub returns-after-r-eq0 : goal.returns-after-r-eq0
unfolding rounding_text bytes
returns-after-r-eq0 g c =
    elim c.if-r-eq0.branch [
      | then-r-eq0 w ↦ rw (c.in-Rounding.is, w.if-r-eq0.true) (rw w.all-is at c.all.ensures)
      | else-r-eq0 w ↦ rw (c.in-Rounding.is, ne_eqb _ _ w.if-r-eq0.false) (rw w.all-is at c.all.ensures)
    ]
