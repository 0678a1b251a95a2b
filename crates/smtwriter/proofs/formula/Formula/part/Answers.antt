use Rattle.smttext.specs.Text.{part}
use Rattle.smtwriter.proofs.Lines.{not-marked, no-line, line-more}
use Rattle.smtwriter.proofs.formula.Formula.part.Goals as goal
use Rattle.smtwriter.proofs.formula.Formula.part.Goals.{then-mark-eq1+then-has_line, else-mark-eq1, else-mark-eq1-via-then-mark-eq1+else-has_line, else-mark-eq1-via-else-mark-eq1}

pub loop-i-init : goal.loop-i-init
unfolding part
loop-i-init g c = g.met.S.Sink.laws.nothing c.args.out.now

pub loop-i-preserved : goal.loop-i-preserved
loop-i-preserved g c =
    let laws = g.met.S.Sink.laws in
    let l = c.loop-i.invariant in
    elim c.if-mark-eq1.branch [
      | then-mark-eq1+then-has_line w ↦
          rw w.out-is (line-more laws _ _ _ _ _ l _ _ w.if-mark-eq1.true w.field.ensures w.has_line.ensures w.if-has_line.true w.line.ensures)
      | else-mark-eq1 w ↦
          rw w.out-is (elim w.else-mark-eq1.branch [
            | else-mark-eq1-via-then-mark-eq1+else-has_line v ↦ no-line laws _ _ _ _ _ l _ _ v.if-mark-eq1.true v.field.ensures v.has_line.ensures v.if-has_line.false
            | else-mark-eq1-via-else-mark-eq1 v ↦ not-marked laws _ _ _ _ _ l v.if-mark-eq1.false
          ])
    ]
