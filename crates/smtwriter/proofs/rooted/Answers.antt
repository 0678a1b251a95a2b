use Rattle.std.proofs.Common.{◌+◌, arith, length-take}
use Rattle.smtwriter.proofs.Whole.{no-root, sorts-there, marks-there, written}
use Rattle.smtwriter.proofs.rooted.Goals as goal

pub returns-then-count-root : goal.returns-then-count-root
returns-then-count-root c = no-root _ _ _ c.requires.0 _ _ c.if-count-root.true

pub slice_bounds-formula-end : goal.slice_bounds-formula-end
slice_bounds-formula-end c = omega (arith, length-take (c.args.root + 1) c.args.sorts.now, sorts-there _ _ _ c.requires.0 _ c.if-count-root.false)

pub slice_bounds-formula-end-2 : goal.slice_bounds-formula-end-2
slice_bounds-formula-end-2 c = omega (arith, c.mark.auto.m, marks-there _ _ _ c.requires.0 _ c.if-count-root.false _ c.requires.1)

pub slice_bounds-formula-end-3 : goal.slice_bounds-formula-end-3
slice_bounds-formula-end-3 c = omega (arith, length-take (c.args.root + 1) c.mark.new.m, c.mark.auto.m, marks-there _ _ _ c.requires.0 _ c.if-count-root.false _ c.requires.1)

pub returns : goal.returns
returns c =
    let p = c.requires in
    let h = c.if-count-root.false in
    written _ _ _ p.0 _ h _ p.1 _ c.mark.ensures (omega (arith, c.mark.auto.m, marks-there _ _ _ p.0 _ h _ p.1)) c.ok_or.ensures.value c.fitted.ensures
