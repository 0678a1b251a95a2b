use Rattle.details.proofs.Operands.{two-why}
use Rattle.details.specs.Inside.{why_pair}
use Rattle.details.specs.Takes.{places, st0-alone}
use Rattle.details.proofs.pair.Goals as goal

pub returns-in-None : goal.returns-in-None
unfolding why_pair
returns-in-None c = simp c.in-None.is

pub returns-in-Some-Second : goal.returns-in-Some-Second
unfolding why_pair
returns-in-Some-Second c =
    let e = rw c.in-Some-Second.is at c.in-Some-Second.field-0-is in
    simp (c.in-Some-Second.is, e) c.place.ensures

pub returns-in-Some-TopAnd : goal.returns-in-Some-TopAnd
unfolding why_pair
returns-in-Some-TopAnd c =
    let e = rw c.in-Some-TopAnd.is at c.in-Some-TopAnd.field-0-is in
    rw (c.in-Some-TopAnd.is, e, two-why st0-alone places _ _, ← c.top.ensures, ← c.place-in-Some-TopAnd.ensures) c.or.ensures

pub returns-in-Some-Places : goal.returns-in-Some-Places
unfolding why_pair
returns-in-Some-Places c =
    let e = rw c.in-Some-Places.is at c.in-Some-Places.field-0-is in
    rw (c.in-Some-Places.is, e, two-why places places _ _, ← c.place-in-Some-Places.ensures, ← c.place-in-Some-Places-2.ensures) c.or-in-Some-Places.ensures
