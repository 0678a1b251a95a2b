use Rattle.std.proofs.Common.{refl, ◌∙◌, ap}
use Rattle.details.specs.Why.{detail_number, detail_for}
use Rattle.export.proofs.Lifting.{gives, from-flat, short-state, short-flat}
use Rattle.export.proofs.Places.{insn-front, laid_again}
use Rattle.export.specs.Flat.{laid}
use Rattle.export.proofs.x87_lift.Goals as goal

pub returns-in_default : goal.returns-in_default
unfolding laid
returns-in_default c = short-flat _ _ _ _ _ c.if-out-lt1.false c.in_default.ensures.cases _ refl

pub returns-then-state-lt13 : goal.returns-then-state-lt13
unfolding laid
returns-then-state-lt13 c = short-state _ _ _ _ _ c.if-out-lt1.false c.in-Some.ensures.cases.enough c.if-state-lt13.true _ refl

pub returns : goal.returns
unfolding detail_for
returns c =
    let f = c.in-Some.ensures.cases in
    let g = gives _ _ _ _ _ _ _ c.classify-classified.ensures (c.number-detail.ensures ∙ ap detail_number c.detail.ensures) c.of-site.ensures c.lift_in-outcome.ensures c.number.ensures c.detail-2.ensures in
    from-flat _ _ _ _ _ c.if-out-lt1.false f.enough c.if-state-lt13.false _ _ _ _ _ _ _ (insn-front f c.read-insn.ensures) g (laid_again _ _ _)
