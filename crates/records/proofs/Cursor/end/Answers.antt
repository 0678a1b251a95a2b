use Rattle.std.proofs.Common.{refl, eq-eqb, ne_eqb}
use Rattle.records.specs.Format.{end_at}
use Rattle.records.proofs.Cursor.end.Goals as goal

pub returns-then-self : goal.returns-then-self
unfolding end_at
returns-then-self c = record { comes = rw (eq-eqb _ _ c.if-self.true); input = refl }

pub returns-else-self : goal.returns-else-self
unfolding end_at
returns-else-self c = record { comes = rw (ne_eqb _ _ c.if-self.false); input = refl }
