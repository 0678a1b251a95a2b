use Rattle.std.proofs.Common.{refl, arith, rules}
use Rattle.records.proofs.Leaves.{tested-on, tested-off, tested-end}
use Rattle.records.proofs.Cursor.byte.Goals as goal

pub returns : goal.returns
returns g c test says =
    record {
      comes = tested-on test _ _ _ _ refl (omega arith) (says _ _ (search rules) c.if-not-passes.ensures);
      input = refl;
    }

pub returns-then-not-passes : goal.returns-then-not-passes
returns-then-not-passes g c test says =
    record {
      comes = tested-off test _ _ _ _ refl (omega arith) (says _ _ (search rules) c.if-not-passes.ensures);
      input = refl;
    }

pub returns-then-self : goal.returns-then-self
returns-then-self g c test says =
    rw (c.short.ensures.0) (record { comes = rw c.short.ensures.1 (tested-end test _ _ _ (omega arith)); input = c.short.ensures.2 })
