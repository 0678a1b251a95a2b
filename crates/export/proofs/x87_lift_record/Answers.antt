use Rattle.export.proofs.Lifting.{few-state}
use Rattle.export.proofs.x87_lift_record.Goals as goal

pub returns-then-state-lt13 : goal.returns-then-state-lt13
returns-then-state-lt13 c = few-state _ _ _ _ _ _ c.if-out-lt3.false c.if-state-lt13.true _ c.lay.ensures
