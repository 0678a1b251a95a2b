use Rattle.std.proofs.Common.{◌∙◌, ap, add-zero, arith, rules}
use Rattle.words.proofs.Shifts.{shl-64, shl-high, shl-out}
use Rattle.words.specs.Wide.{val, wide_of, words_of}
use Rattle.words.proofs.WideShlU64.shl.Goals as goal

pub returns-then-k-lt64 : goal.returns-then-k-lt64
returns-then-k-lt64 c = let a = c.args in words_of _ _ (search rules) (shl-64 a.k a.self.hi a.self.lo (omega arith) (omega arith))

pub returns-then-k-lt128 : goal.returns-then-k-lt128
returns-then-k-lt128 c = let a = c.args in words_of _ _ (search rules) (add-zero _ ∙ shl-high a.k a.self.hi a.self.lo (omega arith))

pub returns : goal.returns
returns c = let a = c.args in c.from.ensures ∙ ap wide_of (shl-out a.k (val a.self) (omega arith))
