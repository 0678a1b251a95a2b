use Rattle.std.proofs.Common.{refl, ap, ◌≤◌, arith, length}
use Rattle.lifter.proofs.Fitting.{no-nodes, no-statements, all-fits}
use Rattle.lifter.specs.Lift.{lowered_of}
use Rattle.lists.proofs.Sequence.{still}
use Rattle.lists.specs.Rows.{room_of}
use Rattle.lists.specs.declared.State.{State}
use Rattle.lifter.proofs.fit_tight.Goals as goal

pub returns-then-room-trial : goal.returns-then-room-trial
returns-then-room-trial c =
    let a = c.args in
    let l = a.ctx.now in
    let b = lowered_of l.state a.classified a.detail a.site in
    let n = ap (λ (x : State). x.nodes) c.lower.ensures.does.state in
    rw (no-nodes b l.state l.nodes.now l.statements.now (omega (arith, n, c.room.ensures, c.if-room-trial.true))) (record { does = still refl; detail-is = refl })

pub returns-then-room-trial-2 : goal.returns-then-room-trial-2
returns-then-room-trial-2 c =
    let a = c.args in
    let l = a.ctx.now in
    let b = lowered_of l.state a.classified a.detail a.site in
    let n = ap (λ (x : State). x.nodes) c.lower.ensures.does.state in
    let k = ap (λ (x : State). x.statements) c.lower.ensures.does.state in
    let h : b.st.nodes ≤ room_of (length l.nodes.now) = omega (arith, n, c.room.ensures, c.if-room-trial.false) in
    rw (no-statements b l.state l.nodes.now l.statements.now h (omega (arith, k, c.room-2.ensures, c.if-room-trial-2.true))) (record { does = still refl; detail-is = refl })

pub returns : goal.returns
returns c =
    let a = c.args in
    let l = a.ctx.now in
    let b = lowered_of l.state a.classified a.detail a.site in
    let n = ap (λ (x : State). x.nodes) c.lower.ensures.does.state in
    let k = ap (λ (x : State). x.statements) c.lower.ensures.does.state in
    let h : b.st.nodes ≤ room_of (length l.nodes.now) = omega (arith, n, c.room.ensures, c.if-room-trial.false) in
    let i : b.st.statements ≤ room_of (length l.statements.now) = omega (arith, k, c.room-2.ensures, c.if-room-trial-2.false) in
    rw (all-fits b l.state l.nodes.now l.statements.now h i) c.lower-2.ensures
