use Rattle.std.proofs.Common.{◌∙◌, ap}
use Rattle.details.specs.Why.{detail_number, detail_for}
use Rattle.lifter.proofs.Answers.{lifted}
use Rattle.lifter.proofs.lift.Goals as goal

pub returns : goal.returns
unfolding detail_for
returns c = lifted _ _ _ _ _ _ _ c.classify-classified.ensures (c.number-detail.ensures ∙ ap detail_number c.detail.ensures) c.of.ensures c.lift_classified.ensures
