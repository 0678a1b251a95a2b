use Rattle.std.proofs.Common.{eq-eqb, ne_eqb}
use Rattle.smtgrammar.specs.Next.{operand₁}
use Rattle.smtreader.proofs.next.Reader.operand_1.Goals as goal

pub returns-then-l-eq13 : goal.returns-then-l-eq13
unfolding operand₁
returns-then-l-eq13 c = rw (eq-eqb _ _ c.if-l-eq13.true)

pub returns-else-l-eq13 : goal.returns-else-l-eq13
unfolding operand₁
returns-else-l-eq13 c = rw (ne_eqb _ _ c.if-l-eq13.false) c.termed.ensures
