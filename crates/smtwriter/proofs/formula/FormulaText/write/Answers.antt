use Rattle.smtwriter.proofs.formula.FormulaText.write.Goals as goal

pub returns : goal.returns
returns g c =
    let s = g.met.S.Sink.laws in
    s.then c.part.ensures (s.then c.part-2.ensures c.part-3.ensures)
