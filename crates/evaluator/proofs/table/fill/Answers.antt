use Rattle.std.proofs.Common.{refl, sym, ◌∙◌, arith}
use Rattle.evaluator.proofs.Filled.{front, long, stored, no_table, no_room, faulty, sorted}
use Rattle.lists.specs.Rows.{room_of}
use Rattle.sorts.specs.Check.{first_fault}
use Rattle.sorts.specs.Laws.{row_small, passed-suc}
use Rattle.sorts.specs.Lists.{sorts}
use Rattle.evaluator.proofs.table.fill.Goals as goal
use Rattle.evaluator.proofs.table.fill.Goals.{then-t-count-via-then-t-count, then-t-count-via-else-t-count+then-room-count}

pub returns-then-t-count : goal.returns-then-t-count
returns-then-t-count c =
    elim c.then-t-count.branch [
      | then-t-count-via-then-t-count w ↦ no_table _ _ _ w.if-t-count.true
      | then-t-count-via-else-t-count+then-room-count w ↦ no_room _ _ _ _ w.room.ensures w.if-t-count.false w.if-room-count.true
    ]

pub loop-i-init : goal.loop-i-init
unfolding sorts first_fault
loop-i-init c = (refl, refl)

pub node_sort-s-requires : goal.node_sort-s-requires
unfolding room_of
node_sort-s-requires c =
    let a = c.args in
    let l = c.loop-i in (
      omega (arith, c.room.ensures),
      omega (arith, long a.nodes.now a.t.now l.t l.i l.invariant.0 (omega arith)),
      front a.nodes.now a.t.now l.t l.i l.invariant.0,
    )

pub returns-then-s-eq0 : goal.returns-then-s-eq0
returns-then-s-eq0 c =
    let l = c.loop-i in
    faulty _ _ _ _ c.room.ensures c.if-t-count.false l.t l.i
    c.if-room-count.false (omega arith) l.invariant.1 (sym c.node_sort-s.ensures ∙ c.if-s-eq0.true) l.invariant.0

pub overflow_cast-t : goal.overflow_cast-t
overflow_cast-t c =
    let w = c.args.nodes.now in
    let i = c.loop-i.i in
    omega (arith, c.node_sort-s.ensures, row_small w (sorts w i) i)

pub loop-i-preserved : goal.loop-i-preserved
loop-i-preserved c =
    let a = c.args in
    let l = c.loop-i in
    let s = c.node_sort-s in (
      stored a.nodes.now a.t.now l.t l.i l.invariant.0 s.result (omega arith) s.ensures,
      passed-suc a.nodes.now l.i l.invariant.1 (λ z. c.if-s-eq0.false (s.ensures ∙ z)),
    )

pub returns : goal.returns
returns c =
    let l = c.loop-i in
    sorted _ _ _ _ c.room.ensures c.if-t-count.false l.t l.i c.if-room-count.false (omega arith) l.invariant.1 l.invariant.0
