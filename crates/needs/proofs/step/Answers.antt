use Rattle.std.proofs.Common.{eq-eqb, ne_eqb}
use Rattle.needs.specs.Needed.{spread}
use Rattle.needs.proofs.step.Goals as goal

pub returns-then-m-i-ne1 : goal.returns-then-m-i-ne1
unfolding spread
returns-then-m-i-ne1 c = simp (ne_eqb _ _ c.if-m-i-ne1.true)

pub returns : goal.returns
unfolding spread
returns c =
    rw (eq-eqb _ _ c.if-m-i-ne1.false, c.one-3.ensures, c.one-2.ensures, c.one.ensures, c.arity-n.ensures)
