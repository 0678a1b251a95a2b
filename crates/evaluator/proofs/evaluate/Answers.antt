use Rattle.std.proofs.Common.{refl, sym, length}
use Rattle.evaluator.proofs.Ends.{no-given, no-column}
use Rattle.evaluator.proofs.evaluate.Goals as goal
use Rattle.evaluator.proofs.evaluate.Goals.{then-given-count-via-then-given-count, then-given-count-via-else-given-count+then-column-count}

pub returns-then-given-count : goal.returns-then-given-count
returns-then-given-count c =
    let a = c.args in
    elim c.then-given-count.branch [
      | then-given-count-via-then-given-count w ↦ (sym (no-given a.nodes.now a.given.now a.count (length a.column.now) w.if-given-count.true), refl)
      | then-given-count-via-else-given-count+then-column-count w ↦ (sym (no-column a.nodes.now a.given.now a.count (length a.column.now) w.if-column-count.true), refl)
    ]
