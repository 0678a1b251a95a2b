use Rattle.details.specs.Why.{reason_for}
use Rattle.details.proofs.detail.Goals as goal

pub returns-in-Ok-None : goal.returns-in-Ok-None
unfolding reason_for
returns-in-Ok-None c =
    let e = rw c.in-Ok-None.is at c.in-Ok-None.field-0-is in
    simp (c.in-Ok-None.is, e) c.why.ensures

pub returns-in-Ok-Some : goal.returns-in-Ok-Some
unfolding reason_for
returns-in-Ok-Some c =
    let e = rw c.in-Ok-Some.is at c.in-Ok-Some.field-0-is in
    simp (c.in-Ok-Some.is, e)

pub returns-in-Err : goal.returns-in-Err
unfolding reason_for
returns-in-Err c = simp c.in-Err.is
