use Rattle.std.proofs.Common.{arith}
use Rattle.smtgrammar.specs.Grammar.{size_at}
use Rattle.smtreader.proofs.Bounds.{terms-of, digits_of}
use Rattle.smtreader.proofs.next.Reader.defining.Goals as goal

pub overflow_add-v : goal.overflow_add-v
unfolding size_at
overflow_add-v c = let h = rw c.in-6.is at c.requires.1.below in omega arith

pub operand_1-requires : goal.operand_1-requires
unfolding size_at
operand_1-requires c = let f = c.requires.1 in terms-of _ _ _ _ f _ 0 (rw c.in-11.is at f.below) (omega arith)

pub termed-requires : goal.termed-requires
unfolding size_at
termed-requires c = let f = c.requires.1 in terms-of _ _ _ _ f _ _ f.high (rw c.in-12.is at f.below)

pub digit-requires : goal.digit-requires
unfolding size_at
digit-requires c = let f = c.requires.1 in let e = c.in-14.is in digits_of _ _ _ _ f e (rw e at f.below)
