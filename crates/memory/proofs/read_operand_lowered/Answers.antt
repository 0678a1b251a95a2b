use Rattle.std.proofs.Common.{refl}
use Rattle.lists.proofs.Sequence.{then, still}
use Rattle.memory.specs.Memory.{read_operand_lowered_of}
use Rattle.memory.proofs.read_operand_lowered.Goals as goal

pub returns : goal.returns
unfolding read_operand_lowered_of
returns c =
    then _ c.variable-v.ensures
    (then _ c.statement.ensures
    (still refl))
