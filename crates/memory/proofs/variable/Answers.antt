use Rattle.std.proofs.Common.{eq-eqb, ne_eqb}
use Rattle.memory.specs.Memory.{variable_of}
use Rattle.memory.proofs.variable.Goals as goal

pub returns-then-slot-eq0 : goal.returns-then-slot-eq0
unfolding variable_of
returns-then-slot-eq0 c = rw (eq-eqb _ _ c.if-slot-eq0.true) c.temporary.ensures

pub returns : goal.returns
unfolding variable_of
returns c = rw (ne_eqb _ _ c.if-slot-eq0.false) c.slot_var.ensures
