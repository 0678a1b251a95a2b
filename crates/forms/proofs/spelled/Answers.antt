use Rattle.std.proofs.Common.{eq-eqb, ne_eqb}
use Rattle.forms.specs.Operands.{spelled_is}
use Rattle.forms.proofs.spelled.Goals as goal

pub returns-then-o-ne0 : goal.returns-then-o-ne0
unfolding spelled_is
returns-then-o-ne0 c = rw (ne_eqb _ _ c.if-o-ne0.true)

pub returns-else-o-ne0 : goal.returns-else-o-ne0
unfolding spelled_is
returns-else-o-ne0 c = rw (eq-eqb _ _ c.if-o-ne0.false) c.is_valid.ensures
