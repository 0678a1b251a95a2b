use Rattle.std.proofs.Common.{sym, ◌∙◌, arith, eqb-true}
use Rattle.words.proofs.Orders.{eq-two}
use Rattle.evaluator.proofs.Compare.{same-law, other-law}
use Rattle.words.specs.Wide.{val}
use borrow.Author.Tests.{eqb-false}
use Rattle.evaluator.proofs.equal.Goals as goal

pub returns-then-eq : goal.returns-then-eq
returns-then-eq c =
    let a = c.args in
    rw c.is_nan.ensures (same-law a.f (val a.x) (val a.y) (eqb-true _ _ (sym (c.eq.ensures ∙ eq-two a.x.hi a.x.lo a.y.hi a.y.lo (omega arith) (omega arith)) ∙ c.if-eq.true)))

pub returns-else-eq : goal.returns-else-eq
returns-else-eq c =
    let a = c.args in
    rw (c.is_zero-else-eq.ensures, c.is_zero.ensures) (other-law a.f (val a.x) (val a.y) c.requires (eqb-false _ _ (sym (c.eq.ensures ∙ eq-two a.x.hi a.x.lo a.y.hi a.y.lo (omega arith) (omega arith)) ∙ c.if-eq.false)))
