use Rattle.std.proofs.Common.{refl}
use Rattle.lifter.specs.Lift.{lowered_of}
use Rattle.lists.proofs.Sequence.{still}
use Rattle.lifter.proofs.lower.Goals as goal

pub returns-in-Ok : goal.returns-in-Ok
unfolding lowered_of
returns-in-Ok c = rw (c.in-Ok-Some.is, rw c.in-Ok-Some.is at c.in-Ok-Some.field-0-is) (record { does = rw c.in-Ok.is at c.apply_x87.ensures; detail-is = refl })

pub returns-in-Err-StackOverflow : goal.returns-in-Err-StackOverflow
unfolding lowered_of
returns-in-Err-StackOverflow c = rw (c.in-Ok-Some.is, rw c.in-Ok-Some.is at c.in-Ok-Some.field-0-is) (record { does = rw c.in-Err-StackOverflow.is at c.apply_x87.ensures; detail-is = refl })

pub returns-in-Ok-None : goal.returns-in-Ok-None
unfolding lowered_of
returns-in-Ok-None c = rw (c.in-Ok-None.is, rw c.in-Ok-None.is at c.in-Ok-None.field-0-is) (record { does = c.decline_x87.ensures; detail-is = refl })

pub returns-in-Err-Text : goal.returns-in-Err-Text
unfolding lowered_of
returns-in-Err-Text c = rw (c.in-Err-Text.is, rw c.in-Err-Text.is at c.in-Err-Text.field-0-is) (record { does = still refl; detail-is = refl })

pub returns-in-Err-Operands : goal.returns-in-Err-Operands
unfolding lowered_of
returns-in-Err-Operands c = rw (c.in-Err-Operands.is, rw c.in-Err-Operands.is at c.in-Err-Operands.field-0-is) (record { does = still refl; detail-is = refl })
