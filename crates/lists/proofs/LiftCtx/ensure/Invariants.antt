use Rattle.std.proofs.Common.{◌+◌, ◌-◌, ◌≤◌}
use Rattle.lists.proofs.Lower.{down_to}
use Rattle.lists.specs.Steps.{Does}
use Rattle.lists.specs.declared.LiftCtx.{LiftCtx}
use Rattle.lists.proofs.LiftCtx.ensure.Given as goal

-- What is left to do, done, is the whole
abbrev pub invariant-loop-self : goal.invariant-loop-self
invariant-loop-self vars =
    (vars.index ≤ 7) × ((l : LiftCtx) → Does (down_to vars.index vars.self.state) vars.self l 0 → Does (down_to vars.index vars.initial.self.state) vars.initial.self l 0)

abbrev pub decreases-loop-self : goal.decreases-loop-self
decreases-loop-self l = l.index + 1 - l.self.state.depth
