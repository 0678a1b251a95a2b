use Rattle.std.proofs.Common.{eq-eqb, ne_eqb}
use Rattle.forms.specs.Operands.{ranged_is}
use Rattle.forms.proofs.ranged.Goals as goal

pub returns-then-o-eq1 : goal.returns-then-o-eq1
unfolding ranged_is
returns-then-o-eq1 c = rw (eq-eqb _ _ c.if-o-eq1.true)

pub returns-else-o-eq1 : goal.returns-else-o-eq1
unfolding ranged_is
returns-else-o-eq1 c = rw (ne_eqb _ _ c.if-o-eq1.false)
