use Rattle.std.proofs.Common.{refl}
use Rattle.records.specs.Format.{present_at}
use Rattle.records.proofs.Cursor.present.Goals as goal

pub returns-then-there : goal.returns-then-there
unfolding present_at
returns-then-there c = rw c.if-there.true (record { comes = c.operand.ensures.comes; input = c.operand.ensures.input })

pub returns-else-there : goal.returns-else-there
unfolding present_at
returns-else-there c = rw c.if-there.false (record { comes = refl; input = refl })
