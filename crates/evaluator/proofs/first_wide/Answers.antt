use Rattle.std.proofs.Common.{◌≡◌, sym, ◌∙◌, arith, ◌-◌, get_or}
use Rattle.evaluator.proofs.Node.{sort-at}
use Rattle.evaluator.specs.Laws.{wide_step, wide-here}
use Rattle.evaluator.specs.Lists.{wide_from}
use Rattle.sorts.specs.Lists.{sorts, row_sort}
use Rattle.evaluator.proofs.first_wide.Goals as goal

pub loop-i-preserved : goal.loop-i-preserved
loop-i-preserved c =
    let a = c.args in
    let l = c.loop-i in
    let e : get_or a.t.now l.i 0 ≡ row_sort a.nodes.now l.i (sorts a.nodes.now l.i) =
    sort-at a.nodes.now a.t.now a.count l.i (omega arith) c.requires.0.table in
    l.invariant ∙ wide_step a.nodes.now a.given.now l.i a.count (omega arith) (rw (← e) (sym c.fits_at.ensures ∙ c.if-not-fits_at.false))

pub returns-then-not-fits_at : goal.returns-then-not-fits_at
returns-then-not-fits_at c =
    let a = c.args in
    let l = c.loop-i in
    let e : get_or a.t.now l.i 0 ≡ row_sort a.nodes.now l.i (sorts a.nodes.now l.i) =
    sort-at a.nodes.now a.t.now a.count l.i (omega arith) c.requires.0.table in
    sym (l.invariant ∙ wide-here a.nodes.now a.given.now l.i a.count (omega arith) (rw (← e) (sym c.fits_at.ensures ∙ c.if-not-fits_at.true)))

pub returns : goal.returns
unfolding wide_from
returns c =
    let a = c.args in
    let l = c.loop-i in
    let z : a.count - l.i ≡ 0 = omega arith in
    sym (rw z at l.invariant)
