use Rattle.std.proofs.Common.{arith}
use Rattle.writing.proofs.Parts.{one-digit, more-digits}
use Rattle.writing.proofs.Sink.+decimal.Goals as goal

pub returns-then-v-lt10 : goal.returns-then-v-lt10
returns-then-v-lt10 g t c = rw (← one-digit _ c.if-v-lt10.true) c.put.ensures

pub returns-else-v-lt10 : goal.returns-else-v-lt10
returns-else-v-lt10 g t c = rw (← more-digits c.args.v c.if-v-lt10.false (omega arith)) (g.met.Self.Sink.laws.then c.decimal.ensures c.put-else-v-lt10.ensures)
