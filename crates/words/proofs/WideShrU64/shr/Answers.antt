use Rattle.std.proofs.Common.{ap, arith, div-le_self, mod-lt, lt_of_lt_of_le, lt_of_le_of_lt, pow_mono, pow_pos, sym, ◌∙◌}
use Rattle.words.proofs.Shifts.{shr-64, shr_high, two-lt}
use Rattle.words.specs.Wide.{wide_of, words_of}
use lib.Bits.{or_lt}
use native.Mathlib.Nat.{div-eq_of_lt}
use Rattle.words.proofs.WideShrU64.shr.Goals as goal

pub returns-then-k-lt64 : goal.returns-then-k-lt64
returns-then-k-lt64 c = let a = c.args in words_of _ _ (or_lt 64 _ _ (lt_of_le_of_lt {m = a.self.lo} (div-le_self _ _) (omega arith)) (mod-lt _ (pow_pos 64))) (shr-64 a.k a.self.hi a.self.lo (omega arith) (omega arith))

pub returns-then-k-lt128 : goal.returns-then-k-lt128
returns-then-k-lt128 c = let a = c.args in c.from.ensures ∙ ap wide_of (shr_high a.k a.self.hi a.self.lo (omega arith) (omega arith))

pub returns : goal.returns
returns c = let a = c.args in c.from-2.ensures ∙ ap wide_of (sym (div-eq_of_lt (lt_of_lt_of_le (two-lt (omega arith) (omega arith)) (pow_mono {i = 128} {j = a.k} (omega arith)))))
