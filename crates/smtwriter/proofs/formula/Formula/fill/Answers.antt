use Rattle.std.proofs.Common.{sym, arith}
use Rattle.smtwriter.proofs.Lines.{itself, hole-filled, no_hole, at-end}
use Rattle.writing.specs.Sink.{also}
use Rattle.smtwriter.proofs.formula.Formula.fill.Goals as goal
use Rattle.smtwriter.proofs.formula.Formula.fill.Goals.{then-b-eq37+then-not-is_empty, else-b-eq37, else-b-eq37-via-then-b-eq37+else-not-is_empty, else-b-eq37-via-else-b-eq37}

pub loop-i-preserved : goal.loop-i-preserved
loop-i-preserved g c =
    let s = g.met.S.Sink.laws in
    let l = c.loop-i.invariant in
    elim c.if-b-eq37.branch [
      | then-b-eq37+then-not-is_empty w ↦
          rw (w.out-is, w.written-is, w.rest-is)
          (_, omega arith, s.then (s.then l.2 w.all.ensures) w.hole.ensures, hole-filled _ _ _ l.1 c.loop-i-test.true _ _ _ _ w.if-b-eq37.true (sym w.if-not-is_empty.ensures) l.3)
      | else-b-eq37 w ↦
          rw (w.out-is, w.written-is, w.rest-is) (
            l.0,
            omega arith,
            l.2,
            itself _ _ _ l.1 c.loop-i-test.true _ _ (elim w.else-b-eq37.branch [
              | else-b-eq37-via-then-b-eq37+else-not-is_empty v ↦ λ _. no_hole _ _ (sym v.if-not-is_empty.ensures)
              | else-b-eq37-via-else-b-eq37 v ↦ λ e. absurd (v.if-b-eq37.false e)
            ]) l.3,
          )
    ]

pub returns : goal.returns
returns g c =
    let s = g.met.S.Sink.laws in
    let l = c.loop-i.invariant in also s (at-end _ _ _ l.1 c.loop-i-test.false _ _ l.3) (s.then l.2 c.all-2.ensures)
