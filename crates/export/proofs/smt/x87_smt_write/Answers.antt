use Rattle.std.proofs.Common.{le-leb}
use Rattle.export.proofs.Calls.{tells}
use Rattle.export.specs.Flat.{laid}
use Rattle.export.proofs.smt.x87_smt_write.Goals as goal

pub returns-then-out-ge1 : goal.returns-then-out-ge1
unfolding laid
returns-then-out-ge1 c =
    let e = c.write-w.ensures in
    let h = c.if-out-ge1.true in
    record {
      told = tells _ _ _ h (rw e.answer at c.number_of.ensures) (rw (← e.answer, ← c.count_or_place.ensures));
      bytes = rw (le-leb _ _ h, ← e.answer) e.bytes;
    }
