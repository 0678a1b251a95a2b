use Rattle.std.proofs.Common.{◌∙◌, ap, eq-eqb, ne_eqb}
use Rattle.forms.specs.Operands.{slot_of}
use Rattle.texts.specs.Places.{place_of}
use Rattle.forms.proofs.families.slot_index.Goals as goal

pub returns-then-o-ne0 : goal.returns-then-o-ne0
unfolding slot_of
returns-then-o-ne0 c = rw (ne_eqb _ _ c.if-o-ne0.true)

pub returns : goal.returns
unfolding slot_of
returns c = rw (eq-eqb _ _ c.if-o-ne0.false) (c.slot_index.ensures ∙ ap place_of c.as_bytes.ensures)
