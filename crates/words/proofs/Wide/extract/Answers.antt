use Rattle.std.proofs.Common.{sym, ap, ◌∙◌, mod-eq_of_lt, arith, ℕ, ◌/◌, ◌^◌, ◌+◌}
use Rattle.words.proofs.Masks.{whole}
use Rattle.words.proofs.Shifts.{two-lt}
use Rattle.words.specs.Wide.{wide_of}
use Rattle.words.proofs.Wide.extract.Goals as goal

pub returns-else-hi-lt127 : goal.returns-else-hi-lt127
returns-else-hi-lt127 c =
    let a = c.args in
    c.shr-else-hi-lt127.ensures
    ∙ ap (λ (n : ℕ). wide_of (n / 2 ^ a.lo)) (sym (mod-eq_of_lt (whole (a.hi + 1) (two-lt (omega arith) (omega arith)) (omega arith))))
