use Rattle.std.proofs.Common.{refl, arith, length-set}
use Rattle.evaluator.proofs.Column.{stored, beyond}
use Rattle.evaluator.proofs.Node.{node_of}
use Rattle.evaluator.specs.Laws.{vals-suc}
use Rattle.evaluator.specs.Lists.{flat, vals, row_value}
use Rattle.sorts.specs.Lists.{sorts}
use Rattle.evaluator.proofs.run.Goals as goal

pub loop-i-init : goal.loop-i-init
unfolding flat vals
loop-i-init c = (refl, refl, refl)

pub node_value-v-requires : goal.node_value-v-requires
node_value-v-requires c =
    let a = c.args in
    let l = c.loop-i in
    node_of a.nodes.now a.given.now a.t.now a.column.now l.column a.count l.i c.requires (omega arith) l.invariant.0 l.invariant.1

pub loop-i-preserved : goal.loop-i-preserved
loop-i-preserved c =
    let a = c.args in
    let l = c.loop-i in
    let v = c.node_value-v in
    let w = a.nodes.now in
    let g = a.given.now in
    let r = c.requires.room in (
      simp length-set l.invariant.0,
      rw vals-suc (stored l.column (vals w g l.i) l.i v.result.lo v.result.hi (row_value w g l.i (sorts w l.i) (vals w g l.i))
          (omega arith) l.invariant.1 (omega arith) v.ensures),
      beyond l.column a.column.now l.i v.result.lo v.result.hi l.invariant.2,
    )
