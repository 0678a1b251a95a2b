use Rattle.std.proofs.Common.{le-leb}
use Rattle.std.proofs.lemmas.Bool.{lt-leb}
use Rattle.export.specs.Steps.{told_of}
use Rattle.export.proofs.tell.Goals as goal

pub returns-then-answer-le2 : goal.returns-then-answer-le2
unfolding told_of
returns-then-answer-le2 c = rw (le-leb _ _ c.if-answer-le2.true) c.lay.ensures

pub returns-else-answer-le2 : goal.returns-else-answer-le2
unfolding told_of
returns-else-answer-le2 c = rw (lt-leb _ _ c.if-answer-le2.false) c.lay-else-answer-le2.ensures
