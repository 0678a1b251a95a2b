use Rattle.std.proofs.Common.{arith, sym, refl, ◌∙◌}
use Rattle.smtreader.proofs.Filled.{fits_in, filled}
use Rattle.smtreader.proofs.next.Reader.read.Goals as goal

pub returns-in_err-q : goal.returns-in_err-q
returns-in_err-q c = rw c.from_residual.ensures (let e = c.in_err-q.ensures.ends in let w = c.in_err-q.ensures.wide.kinds in omega arith, refl)

pub rows-requires : goal.rows-requires
rows-requires c =
    let h = rw c.in-Ok.is at c.in_ok-q.ensures.ends in
    let w = c.in_ok-q.ensures.wide in
    (let m = c.requires.most in let s = w.sorts in omega arith, fits_in _ h _ _ c.room.ensures c.if-room-n.false _ (w.kinds ∙ sym w.sorts))

pub returns-else-room-n : goal.returns-else-room-n
returns-else-room-n c =
    let h = rw c.in-Ok.is at c.in_ok-q.ensures.ends in
    filled _ h _ _ c.room.ensures c.if-room-n.false c.rows.ensures
