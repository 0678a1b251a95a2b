use Rattle.std.proofs.Common.{le-leb}
use Rattle.smtgrammar.specs.Next.{operand₀}
use borrow.Author.Tests.{lt-leb}
use Rattle.smtreader.proofs.next.Reader.operand_0.Goals as goal

pub returns-then-arity-ge2 : goal.returns-then-arity-ge2
unfolding operand₀
returns-then-arity-ge2 c = rw (← c.arity.ensures, le-leb _ _ c.if-arity-ge2.true)

pub returns-else-arity-ge2 : goal.returns-else-arity-ge2
unfolding operand₀
returns-else-arity-ge2 c = rw (← c.arity.ensures, lt-leb _ _ c.if-arity-ge2.false) c.termed.ensures
