use Rattle.std.proofs.Common.{◌≡◌, ap, ◌∙◌, ◌+◌, ◌-◌, ◌*◌, add-one, arith, le-leb, lt-ltb, le-ltb, length}
use Rattle.needs.specs.Laws.{length-spread, turn, last}
use Rattle.needs.specs.Needed.{marked_from}
use borrow.Author.Tests.{lt-leb}
use Rattle.needs.proofs.mark.Goals as goal
use Rattle.needs.proofs.mark.Goals.{then-nodes-root-via-then-nodes-root, then-nodes-root-via-else-nodes-root+then-m-root}

pub returns-then-nodes-root : goal.returns-then-nodes-root
unfolding marked_from
returns-then-nodes-root c =
    let a = c.args in
    elim c.then-nodes-root.branch [
      | then-nodes-root-via-then-nodes-root w ↦ rw (lt-leb (4 * a.root + 4) (length a.nodes.now) (omega arith))
      | then-nodes-root-via-else-nodes-root+then-m-root w ↦ rw (le-leb (4 * a.root + 4) (length a.nodes.now) (omega arith), le-ltb a.root (length a.m.now) (omega arith))
    ]

pub loop-i-preserved : goal.loop-i-preserved
loop-i-preserved c =
    let l = c.loop-i in
    let w = c.args.nodes.now in
    let e = c.step.ensures in
    let i : l.i - 1 + 1 ≡ l.i = omega arith in
    (ap length e ∙ length-spread w l.i l.m ∙ l.invariant.0, rw i (turn w l.i l.m c.step.new.m e ∙ l.invariant.1))

pub returns-else-m-root-2 : goal.returns-else-m-root-2
unfolding marked_from
returns-else-m-root-2 c =
    let a = c.args in
    let l = c.loop-i in
    rw (le-leb (4 * a.root + 4) (length a.nodes.now) (omega arith), lt-ltb a.root (length a.m.now) (omega arith), ← add-one a.root)
    (last a.nodes.now l.i l.m c.step.new.m (omega arith) c.step.ensures ∙ l.invariant.1)
