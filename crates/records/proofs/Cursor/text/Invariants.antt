use Rattle.records.proofs.Letters.{Kept}
use Rattle.records.proofs.Cursor.text.Given as goal

abbrev pub invariant-loop-i : goal.invariant-loop-i
invariant-loop-i l = Kept l.fn.self l.len l.i l.bytes l.self
