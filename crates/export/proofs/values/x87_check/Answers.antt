use Rattle.export.proofs.Calls.{tells, untold}
use Rattle.export.specs.Flat.{laid}
use Rattle.export.specs.Values.{ChecksNodes}
use Rattle.export.proofs.values.x87_check.Goals as goal

pub returns-then-out-ge1 : goal.returns-then-out-ge1
unfolding ChecksNodes laid
returns-then-out-ge1 c =
    let v = c.check-r.ensures in
    tells _ _ _ c.if-out-ge1.true (rw v at c.number_of.ensures) (rw (← v, ← c.place_of.ensures))

pub returns : goal.returns
unfolding ChecksNodes
returns c = untold _ _ _ c.if-out-ge1.false
