use Rattle.std.proofs.Common.{sym, arith}
use Rattle.words.specs.Wide.{words_of}
use lib.Bits.{and_block, and_lt}
use Rattle.words.proofs.WideBitAnd.bitand.Goals as goal

pub returns : goal.returns
returns c = let a = c.args in words_of _ _ (and_lt 64 a.self.lo a.rhs.lo (omega arith) (omega arith)) (sym (and_block 64 a.self.hi a.rhs.hi a.self.lo a.rhs.lo (omega arith) (omega arith)))
