use Rattle.std.proofs.Common.{◌∙◌, ap, arith}
use Rattle.words.proofs.Masks.{joined}
use Rattle.words.proofs.Shifts.{two-lt}
use Rattle.words.specs.Wide.{val, wide_of, val_of}
use Rattle.words.proofs.Wide.concat.Goals as goal

pub returns : goal.returns
returns c =
    let a = c.args in
    c.bitor.ensures
    ∙ ap wide_of (rw (val_of _ _ c.shl.ensures, val_of _ _ c.low.ensures)
    (joined a.k (val a.self) (val a.y) (two-lt (omega arith) (omega arith))))
