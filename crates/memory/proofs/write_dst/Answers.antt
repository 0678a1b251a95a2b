use Rattle.memory.specs.Memory.{write_dst_of}
use Rattle.memory.proofs.write_dst.Goals as goal

pub returns-then-site : goal.returns-then-site
unfolding write_dst_of
returns-then-site c = rw c.if-site.true c.statement.ensures

pub returns-else-site : goal.returns-else-site
unfolding write_dst_of
returns-else-site c = rw c.if-site.false c.statement-else-site.ensures
