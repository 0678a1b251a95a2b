use Rattle.std.proofs.Common.{inl, inr, ◌∙◌, arith, mod-eq_of_lt, ne_eqb}
use Rattle.words.proofs.Orders.{eq-two}
use Rattle.evaluator.proofs.Flags.{low-is, both, either, other}
use Rattle.evaluator.specs.Value.{computed}
use Rattle.words.specs.Wide.{val_of}
use Rattle.evaluator.proofs.compute.Goals as goal

pub returns-in-9 : goal.returns-in-9
unfolding computed
returns-in-9 c =
    let a = c.args in
    rw (c.in-9.is, c.flag.ensures, c.eq.ensures ∙ eq-two a.va.hi a.va.lo a.vb.hi a.vb.lo (omega arith) (omega arith))

pub returns-in-10 : goal.returns-in-10
unfolding computed
returns-in-10 c =
    let k = c.in-10.is in
    let f = c.requires.flags (inl k) in
    rw (k, val_of _ _ c.from.ensures) (both c.args.va.hi c.args.va.lo f.0 c.args.vb.hi c.args.vb.lo f.1)

pub returns-in-11 : goal.returns-in-11
unfolding computed
returns-in-11 c =
    let k = c.in-11.is in
    let f = c.requires.flags (inr k) in
    rw (k, val_of _ _ c.from-in-11.ensures) (either c.args.va.hi c.args.va.lo f.0 c.args.vb.hi c.args.vb.lo f.1)

pub returns-in-12 : goal.returns-in-12
unfolding computed
returns-in-12 c =
    let k = c.in-12.is in
    rw (k, val_of _ _ c.from-in-12.ensures) (other c.args.va.hi c.args.va.lo (c.requires.flag (inl k)))

pub returns-then-va-eq1 : goal.returns-then-va-eq1
unfolding computed
returns-then-va-eq1 c =
    let k = c.in-13.is in
    rw (k, ← low-is c.args.va.hi c.args.va.lo (c.requires.flag (inr k)), c.if-va-eq1.true)

pub returns-else-va-eq1 : goal.returns-else-va-eq1
unfolding computed
returns-else-va-eq1 c =
    let k = c.in-13.is in
    rw (k, ← low-is c.args.va.hi c.args.va.lo (c.requires.flag (inr k)), ne_eqb _ _ c.if-va-eq1.false)

pub returns-in-15 : goal.returns-in-15
unfolding computed
returns-in-15 c = rw c.in-15.is (val_of _ _ c.concat.ensures ∙ mod-eq_of_lt (c.requires.joined c.in-15.is))

pub returns-in_default : goal.returns-in_default
unfolding computed
returns-in_default c = val_of c.from-in_default.result 0 c.from-in_default.ensures ∙ (simp (ne_eqb _ _ c.in_default.in_default-own.rest.1, ne_eqb _ _ c.in_default.in_default-own.rest.0.1, ne_eqb _ _ c.in_default.in_default-own.rest.0.0.1, ne_eqb _ _ c.in_default.in_default-own.rest.0.0.0.1, ne_eqb _ _ c.in_default.in_default-own.rest.0.0.0.0.1, ne_eqb _ _ c.in_default.in_default-own.rest.0.0.0.0.0.1, ne_eqb _ _ c.in_default.in_default-own.rest.0.0.0.0.0.0.1, ne_eqb _ _ c.in_default.in_default-own.rest.0.0.0.0.0.0.0.1, ne_eqb _ _ c.in_default.in_default-own.rest.0.0.0.0.0.0.0.0.1, ne_eqb _ _ c.in_default.in_default-own.rest.0.0.0.0.0.0.0.0.0.1, ne_eqb _ _ c.in_default.in_default-own.rest.0.0.0.0.0.0.0.0.0.0.1, ne_eqb _ _ c.in_default.in_default-own.rest.0.0.0.0.0.0.0.0.0.0.0.1, ne_eqb _ _ c.in_default.in_default-own.rest.0.0.0.0.0.0.0.0.0.0.0.0.1, ne_eqb _ _ c.in_default.in_default-own.rest.0.0.0.0.0.0.0.0.0.0.0.0.0.1, ne_eqb _ _ c.in_default.in_default-own.rest.0.0.0.0.0.0.0.0.0.0.0.0.0.0.1))
