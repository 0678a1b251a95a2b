use Rattle.exprs.specs.Operations.{flag_is_of}
use Rattle.lists.proofs.Sequence.{then}
use Rattle.exprs.proofs.flag_is.Goals as goal

pub returns : goal.returns
unfolding flag_is_of
returns c =
    then _ c.flag-f.ensures
    (then _ c.konst-k.ensures
    c.eq.ensures)
