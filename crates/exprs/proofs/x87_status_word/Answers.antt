use Rattle.exprs.specs.Status.{x87_status_word_of}
use Rattle.lists.proofs.Sequence.{then}
use Rattle.exprs.proofs.x87_status_word.Goals as goal

pub returns : goal.returns
unfolding x87_status_word_of
returns c =
    then _ c.fresh-free.ensures
    (then _ c.extract-busy.ensures
    (then _ c.extract-top.ensures
    (then _ c.konst-c1.ensures
    (then _ c.extract-exceptions.ensures
    (then _ c.concat-from_c0.ensures
    (then _ c.concat-from_c1.ensures
    (then _ c.concat-from_c2.ensures
    (then _ c.concat-from_top.ensures
    (then _ c.concat-from_c3.ensures
    c.concat.ensures)))))))))
