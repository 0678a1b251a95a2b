use Rattle.std.proofs.Common.{arith, refl, le-leb, ◌+◌, ◌≤◌, ◌<◌, ap}
use Rattle.lists.proofs.Lower.{deeper, turn, none}
use Rattle.lists.proofs.Sequence.{then, still}
use Rattle.lists.specs.Stack.{ensure_of}
use Rattle.lists.specs.declared.State.{State}
use borrow.Author.Tests.{lt-leb}
use Rattle.lists.proofs.LiftCtx.ensure.Goals as goal

pub loop-self-init : goal.loop-self-init
loop-self-init c = (omega arith, λ l p. p)

pub loop-self-smaller : goal.loop-self-smaller
loop-self-smaller c =
    let s = c.loop-self.self.state in
    let h : s.depth ≤ c.args.index = omega arith in
    omega (arith, deeper s (omega arith), ap (λ (x : State). x.depth) c.bottom.ensures.state)

pub loop-self-preserved : goal.loop-self-preserved
loop-self-preserved c =
    let s = c.loop-self.self.state in
    let i = c.args.index in
    let low : i ≤ 7 = omega arith in
    let h : s.depth ≤ i = omega arith in
    (low, λ l p. c.loop-self.invariant.1 l (rw (turn i s low h) (then _ c.bottom.ensures p)))

pub returns-after-loop-self : goal.returns-after-loop-self
unfolding ensure_of
returns-after-loop-self c =
    let s = c.loop-self.self.state in
    let i = c.args.index in
    let low : i ≤ 7 = omega arith in
    let h : i + 1 ≤ s.depth = omega arith in
    rw (le-leb _ _ low) (c.loop-self.invariant.1 _ (rw (none i s h) (still refl)))

pub returns-else-index-lt8 : goal.returns-else-index-lt8
unfolding ensure_of
returns-else-index-lt8 c = let h : 7 < c.args.index = omega arith in rw (lt-leb _ _ h) (still refl)
