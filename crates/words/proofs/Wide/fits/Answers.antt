use Rattle.std.proofs.Common.{sym, ◌^◌, arith, lt-ltb}
use Rattle.words.proofs.Masks.{whole}
use Rattle.words.proofs.Orders.{fits-64, fits-high}
use Rattle.words.proofs.Shifts.{two-lt}
use Rattle.words.specs.Wide.{val}
use Rattle.words.proofs.Wide.fits.Goals as goal

pub returns-then-k-lt64 : goal.returns-then-k-lt64
returns-then-k-lt64 c = let a = c.args in fits-64 a.k a.self.hi a.self.lo (omega arith)

pub returns-then-k-lt128 : goal.returns-then-k-lt128
returns-then-k-lt128 c =
    let a = c.args in
    fits-high a.k a.self.hi a.self.lo (omega arith) (omega arith)

pub returns : goal.returns
returns c =
    let a = c.args in
    sym (lt-ltb (val a.self) (2 ^ a.k) (whole a.k (two-lt (omega arith) (omega arith)) (omega arith)))
