use Rattle.std.proofs.Common.{le-leb}
use Rattle.export.proofs.Calls.{tells}
use Rattle.export.specs.Flat.{laid}
use Rattle.export.proofs.values.x87_evaluate.Goals as goal

pub returns-then-out-ge1 : goal.returns-then-out-ge1
unfolding laid
returns-then-out-ge1 c =
    let e = c.evaluate-r.ensures in
    let h = c.if-out-ge1.true in
    record {
      told = tells _ _ _ h (rw e.0 at c.number_of.ensures) (rw (← e.0, ← c.place_of.ensures));
      column = rw (le-leb _ _ h, ← e.0) e.1;
    }
