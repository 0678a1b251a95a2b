use Rattle.std.proofs.Common.{arith, ◌≡◌}
use Rattle.std.specs.Slice.Iter.{iter_rest}
use Rattle.forms.proofs.Lookup.{read-none, read-small, read-on, read-zero, read-all, key-long}
use Rattle.forms.proofs.names.key.Goals as goal

pub returns-then-s-gt8 : goal.returns-then-s-gt8
returns-then-s-gt8 c = key-long _ c.if-s-gt8.true

pub returns-then-b-eq0 : goal.returns-then-b-eq0
returns-then-b-eq0 c = read-zero _ _ c.loop-letter.invariant c.in-Some.ensures.steps _ c.lower-b.ensures c.if-b-eq0.true

pub overflow_mul-n : goal.overflow_mul-n
overflow_mul-n c = omega (arith, read-small _ _ c.loop-letter.invariant c.in-Some.ensures.steps)

pub overflow_add-n : goal.overflow_add-n
overflow_add-n c = omega (arith, read-small _ _ c.loop-letter.invariant c.in-Some.ensures.steps)

pub loop-letter-init : goal.loop-letter-init
loop-letter-init c =
    let whole : iter_rest c.into_iter-letter-iterator.result.iter ≡ c.args.s.now = cc in
    rw whole (read-none _ c.if-s-gt8.false)

pub loop-letter-preserved : goal.loop-letter-preserved
loop-letter-preserved c = rw c.from.ensures (read-on _ _ c.loop-letter.invariant c.in-Some.ensures.steps _ c.lower-b.ensures c.if-b-eq0.false c.lower-b.type_inv)

pub returns : goal.returns
returns c = read-all _ _ _ c.loop-letter.invariant c.in-None.ensures.steps.0
