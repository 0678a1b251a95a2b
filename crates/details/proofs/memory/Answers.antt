use Rattle.std.proofs.Common.{eq-eqb, ne_eqb}
use Rattle.details.proofs.Operands.{memory-why}
use Rattle.details.proofs.memory.Goals as goal

pub returns-then-o-ne1 : goal.returns-then-o-ne1
returns-then-o-ne1 c = rw (memory-why _ _, ne_eqb _ _ c.if-o-ne1.true)

pub returns-then-o-ne1-2 : goal.returns-then-o-ne1-2
returns-then-o-ne1-2 c = rw (memory-why _ _, eq-eqb _ _ c.if-o-ne1.false, ne_eqb _ _ c.if-o-ne1-2.true)

pub returns-then-not-takes : goal.returns-then-not-takes
returns-then-not-takes c = rw (memory-why _ _, eq-eqb _ _ c.if-o-ne1.false, eq-eqb _ _ c.if-o-ne1-2.false, ← c.takes.ensures, c.if-not-takes.true)

pub returns : goal.returns
returns c = rw (memory-why _ _, eq-eqb _ _ c.if-o-ne1.false, eq-eqb _ _ c.if-o-ne1-2.false, ← c.takes.ensures, c.if-not-takes.false)
