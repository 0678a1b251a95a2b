use Rattle.std.proofs.Common.{sym, ◌∙◌}
use Rattle.texts.proofs.Laws.{digits-big}
use Rattle.texts.proofs.digits_of.Goals as goal

pub returns-then-v-gt7 : goal.returns-then-v-gt7
returns-then-v-gt7 c = sym (digits-big c.loop-left.left.now _ c.if-v-gt7.true) ∙ c.loop-left.invariant.1
