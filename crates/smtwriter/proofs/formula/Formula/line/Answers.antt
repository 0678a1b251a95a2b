use Rattle.smttext.specs.Text.{declaration, definition, assertion}
use Rattle.writing.specs.Bytes.{bytes}
use Rattle.smtwriter.proofs.Lines.{defines}
use Rattle.writing.specs.Sink.{also}
use Rattle.smtwriter.proofs.formula.Formula.line.Goals as goal

pub returns-in-Declarations : goal.returns-in-Declarations
unfolding declaration bytes
returns-in-Declarations g c = rw (c.in-Declarations.is, ← c.sort.ensures) c.fill.ensures

pub returns-in-Definitions : goal.returns-in-Definitions
unfolding definition bytes
returns-in-Definitions g c =
    let s = g.met.S.Sink.laws in
    rw (c.in-Definitions.is, ← c.sort-in-Definitions.ensures)
    (also s (defines _ _ _) (s.then c.fill-in-Definitions.ensures (s.then c.term.ensures c.all.ensures)))

pub returns-in-Assertions : goal.returns-in-Assertions
unfolding assertion bytes
returns-in-Assertions g c = rw (c.in-Assertions.is, ← c.field-a.ensures, ← c.sort-in-Assertions.ensures) c.fill-in-Assertions.ensures
