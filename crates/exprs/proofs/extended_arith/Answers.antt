use Rattle.exprs.specs.Operations.{extended_arith_of}
use Rattle.lists.proofs.Sequence.{then}
use Rattle.exprs.proofs.extended_arith.Goals as goal

pub returns : goal.returns
unfolding extended_arith_of
returns c =
    then _ c.as_extended-a.ensures
    (then _ c.as_extended-b.ensures
    (then _ (rw c.arith_kind.ensures at c.node-x.ensures)
    c.from_extended.ensures))
