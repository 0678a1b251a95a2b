use Rattle.std.proofs.Common.{sym, ap, ◌∙◌, mod-eq_of_lt, arith, ◌-◌, rules}
use Rattle.words.proofs.Masks.{one_shl, whole, low-64, low-high}
use Rattle.words.proofs.Shifts.{two-lt}
use Rattle.words.specs.Wide.{wide_of, words_of}
use lib.Bits.{and_mask}
use Rattle.words.proofs.Wide.low.Goals as goal

pub returns-then-k-lt64 : goal.returns-then-k-lt64
returns-then-k-lt64 c =
    let a = c.args in
    c.from.ensures
    ∙ ap wide_of (rw (one_shl a.k (omega arith), and_mask a.self.lo a.k) (low-64 a.k a.self.hi a.self.lo (omega arith)))

pub returns-then-k-lt128 : goal.returns-then-k-lt128
returns-then-k-lt128 c =
    let a = c.args in
    words_of _ _ (search rules)
    (rw (one_shl (a.k - 64) (omega arith), and_mask a.self.hi (a.k - 64)) (low-high a.k a.self.hi a.self.lo (omega arith) (omega arith)))

pub returns : goal.returns
returns c =
    let a = c.args in
    words_of _ _ (search rules) (sym (mod-eq_of_lt (whole a.k (two-lt (omega arith) (omega arith)) (omega arith))))
