use Rattle.exprs.specs.Operations.{unordered_of}
use Rattle.lists.proofs.Sequence.{then}
use Rattle.exprs.proofs.unordered.Goals as goal

pub returns : goal.returns
unfolding unordered_of
returns c =
    then _ c.fisnan-x.ensures
    (then _ c.fisnan-y.ensures
    c.bool_or.ensures)
