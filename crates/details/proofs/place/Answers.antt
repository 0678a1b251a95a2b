use Rattle.details.proofs.Operands.{place-why}
use Rattle.details.proofs.place.Goals as goal

pub returns-in-Some : goal.returns-in-Some
returns-in-Some c = rw (place-why _, ← c.slot_index.ensures, c.in-Some.is)

pub returns-in-None : goal.returns-in-None
returns-in-None c = rw (place-why _, ← c.slot_index.ensures, c.in-None.is)
