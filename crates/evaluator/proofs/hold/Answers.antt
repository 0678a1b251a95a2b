use Rattle.std.proofs.Common.{sym, ◌∙◌}
use Rattle.evaluator.proofs.Node.{not_float}
use Rattle.evaluator.specs.Value.{held}
use Rattle.evaluator.proofs.hold.Goals as goal
use Rattle.evaluator.proofs.hold.Goals.{else-s-gt80-via-then-s-gt80+else-is_float, else-s-gt80-via-else-s-gt80}

pub returns-else-s-gt80 : goal.returns-else-s-gt80
unfolding held
returns-else-s-gt80 c =
    elim c.else-s-gt80.branch [
      | else-s-gt80-via-then-s-gt80+else-is_float w ↦ rw (sym w.is_float.ensures ∙ w.if-is_float.false)
      | else-s-gt80-via-else-s-gt80 w ↦ rw (not_float c.args.s w.if-s-gt80.false)
    ]
