use Rattle.std.proofs.Common.{sym, ◌∙◌, leb-true}
use Rattle.lifter.proofs.Adds.{lowered-adds}
use Rattle.lifter.proofs.Fitting.{ample-fits}
use Rattle.lifter.specs.Lift.{lowered_of}
use Rattle.lifter.proofs.fit.Goals as goal

pub returns-then-ample-2 : goal.returns-then-ample-2
returns-then-ample-2 c =
    let a = c.args in
    let l = a.ctx.now in
    let b = lowered_of l.state a.classified a.detail a.site in
    let h = leb-true _ _ (sym c.ample.ensures ∙ c.if-ample.true) in
    let i = leb-true _ _ (sym c.ample-then-ample.ensures ∙ c.if-ample-2.true) in
    rw (ample-fits b l.state l.nodes.now l.statements.now (lowered-adds l.state a.classified a.detail a.site) h i) c.lower.ensures
