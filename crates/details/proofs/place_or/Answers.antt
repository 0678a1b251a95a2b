use Rattle.std.proofs.Common.{eq-eqb, ne_eqb}
use Rattle.details.proofs.Operands.{place-or-why}
use Rattle.details.proofs.place_or.Goals as goal

pub returns-then-o-eq0 : goal.returns-then-o-eq0
returns-then-o-eq0 c = rw (place-or-why _ _, eq-eqb _ _ c.if-o-eq0.true) c.place.ensures

pub returns-else-o-eq0 : goal.returns-else-o-eq0
returns-else-o-eq0 c = rw (place-or-why _ _, ne_eqb _ _ c.if-o-eq0.false) c.memory.ensures
