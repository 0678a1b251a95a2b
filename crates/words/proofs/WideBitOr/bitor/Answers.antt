use Rattle.std.proofs.Common.{arith, sym}
use Rattle.words.specs.Wide.{words_of}
use lib.Bits.{or_block, or_lt}
use Rattle.words.proofs.WideBitOr.bitor.Goals as goal

pub returns : goal.returns
returns c = let a = c.args in words_of _ _ (or_lt 64 a.self.lo a.rhs.lo (omega arith) (omega arith)) (sym (or_block 64 a.self.hi a.rhs.hi a.self.lo a.rhs.lo (omega arith) (omega arith)))
