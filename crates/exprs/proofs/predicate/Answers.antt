use Rattle.exprs.specs.Operations.{predicate_of}
use Rattle.lists.proofs.Sequence.{then}
use Rattle.exprs.proofs.predicate.Goals as goal

pub returns-in-Below : goal.returns-in-Below
unfolding predicate_of
returns-in-Below c = rw c.in-Below.is c.flag_is.ensures

pub returns-in-Equal : goal.returns-in-Equal
unfolding predicate_of
returns-in-Equal c = rw c.in-Equal.is c.flag_is-in-Equal.ensures

pub returns-in-BelowOrEqual : goal.returns-in-BelowOrEqual
unfolding predicate_of
returns-in-BelowOrEqual c =
    rw c.in-BelowOrEqual.is
    (then _ c.flag_is-below.ensures
    (then _ c.flag_is-equal.ensures
    c.bool_or.ensures))

pub returns-in-Unordered : goal.returns-in-Unordered
unfolding predicate_of
returns-in-Unordered c = rw c.in-Unordered.is c.flag_is-in-Unordered.ensures

pub returns-in-NotBelow : goal.returns-in-NotBelow
unfolding predicate_of
returns-in-NotBelow c = rw c.in-NotBelow.is c.flag_is-in-NotBelow.ensures

pub returns-in-NotEqual : goal.returns-in-NotEqual
unfolding predicate_of
returns-in-NotEqual c = rw c.in-NotEqual.is c.flag_is-in-NotEqual.ensures

pub returns-in-NotBelowOrEqual : goal.returns-in-NotBelowOrEqual
unfolding predicate_of
returns-in-NotBelowOrEqual c =
    rw c.in-NotBelowOrEqual.is
    (then _ c.flag_is-not_below.ensures
    (then _ c.flag_is-not_equal.ensures
    c.bool_and.ensures))

pub returns-in-NotUnordered : goal.returns-in-NotUnordered
unfolding predicate_of
returns-in-NotUnordered c = rw c.in-NotUnordered.is c.flag_is-in-NotUnordered.ensures
