use Rattle.details.specs.Inside.{why_only}
use Rattle.details.proofs.only.Goals as goal

pub returns-in-None : goal.returns-in-None
unfolding why_only
returns-in-None c = simp c.in-None.is

pub returns-in-Some-Place : goal.returns-in-Some-Place
unfolding why_only
returns-in-Some-Place c =
    let e = rw c.in-Some-Place.is at c.in-Some-Place.field-0-is in
    simp (c.in-Some-Place.is, e) c.place.ensures

pub returns-in-Some-PlaceOr : goal.returns-in-Some-PlaceOr
unfolding why_only
returns-in-Some-PlaceOr c =
    let e = rw c.in-Some-PlaceOr.is at c.in-Some-PlaceOr.field-0-is in
    simp (c.in-Some-PlaceOr.is, e) c.place_or.ensures

pub returns-in-Some-Memory : goal.returns-in-Some-Memory
unfolding why_only
returns-in-Some-Memory c =
    let e = rw c.in-Some-Memory.is at c.in-Some-Memory.field-0-is in
    simp (c.in-Some-Memory.is, e) c.memory.ensures

pub returns-in-Some-AxOr : goal.returns-in-Some-AxOr
unfolding why_only
returns-in-Some-AxOr c =
    let e = rw c.in-Some-AxOr.is at c.in-Some-AxOr.field-0-is in
    simp (c.in-Some-AxOr.is, e) c.ax_or.ensures
