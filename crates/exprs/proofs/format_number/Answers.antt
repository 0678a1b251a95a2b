use Rattle.std.proofs.Common.{eq-eqb, ne_eqb}
use Rattle.exprs.specs.Formats.{format_of}
use Rattle.exprs.proofs.format_number.Goals as goal

pub returns-then-width-eq32 : goal.returns-then-width-eq32
unfolding format_of
returns-then-width-eq32 c = rw (eq-eqb _ _ c.if-width-eq32.true)

pub returns-then-width-eq64 : goal.returns-then-width-eq64
unfolding format_of
returns-then-width-eq64 c = rw (ne_eqb _ _ c.if-width-eq32.false, eq-eqb _ _ c.if-width-eq64.true)

pub returns-else-width-eq64 : goal.returns-else-width-eq64
unfolding format_of
returns-else-width-eq64 c = rw (ne_eqb _ _ c.if-width-eq32.false, ne_eqb _ _ c.if-width-eq64.false)
