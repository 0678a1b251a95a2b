use Rattle.std.proofs.Common.{refl}
use Rattle.lists.proofs.Sequence.{then, last}
use Rattle.moves.specs.Moves.{x87_compare_flags_of}
use Rattle.moves.proofs.x87_compare_flags.Goals as goal

pub returns : goal.returns
unfolding x87_compare_flags_of
returns c =
    then _ c.read-top.ensures
    (then _ c.as_extended-a.ensures
    (then _ c.read-other.ensures
    (then _ c.as_extended-b.ensures
    (then _ c.unordered-unordered.ensures
    (then _ c.set_flag.ensures
    (then _ c.feq-equal.ensures
    (then _ c.bool_or-zf.ensures
    (then _ c.set_flag-2.ensures
    (then _ c.flt-less.ensures
    (then _ c.bool_or-cf.ensures
    (then _ c.set_flag-3.ensures
    (then _ c.konst-of.ensures
    (then _ c.set_flag-4.ensures
    (then _ c.konst-sf.ensures
    (then _ c.set_flag-5.ensures
    (last c.drop_if.ensures refl))))))))))))))))
