use Rattle.std.proofs.Common.{◌∙◌, ap, eq-eqb, ne_eqb}
use Rattle.details.proofs.Operands.{ax-or-why}
use Rattle.forms.specs.Operands.{ax_of}
use Rattle.details.proofs.ax_or.Goals as goal

pub returns-then-o-ne0 : goal.returns-then-o-ne0
returns-then-o-ne0 c = rw (ax-or-why _ _, ne_eqb _ _ c.if-o-ne0.true) c.memory.ensures

pub returns-then-ax : goal.returns-then-ax
returns-then-ax c = rw (ax-or-why _ _, eq-eqb _ _ c.if-o-ne0.false, ← (c.ax.ensures ∙ ap ax_of c.as_bytes.ensures), c.if-ax.true)

pub returns : goal.returns
returns c = rw (ax-or-why _ _, eq-eqb _ _ c.if-o-ne0.false, ← (c.ax.ensures ∙ ap ax_of c.as_bytes.ensures), c.if-ax.false)
