use Rattle.std.proofs.Common.{refl}
use Rattle.lists.proofs.Sequence.{then, last}
use Rattle.moves.specs.Moves.{x87_compare_status_of}
use Rattle.moves.proofs.x87_compare_status.Goals as goal

pub returns : goal.returns
unfolding x87_compare_status_of
returns c =
    then _ c.read-top.ensures
    (then _ c.as_extended-a.ensures
    (then _ c.source-other.ensures
    (then _ c.as_extended-b.ensures
    (then _ c.unordered-unordered.ensures
    (then _ c.feq-equal.ensures
    (then _ c.flt-less.ensures
    (then _ c.bool_or-c0.ensures
    (then _ c.bool_or-c3.ensures
    (then _ c.x87_status_word-status.ensures
    (then _ c.statement.ensures
    (last c.drop_times.ensures refl)))))))))))
