use Rattle.std.specs.Slice.Iter.{iter_rest}
use Rattle.forms.proofs.Lookup.{Read}
use Rattle.forms.proofs.names.key.Given as goal

abbrev pub invariant-loop-letter : goal.invariant-loop-letter
invariant-loop-letter l = Read l.fn.s (iter_rest l.letter-iterator.iter) l.n
