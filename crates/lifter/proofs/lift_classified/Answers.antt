use Rattle.std.proofs.Common.{refl, sym, ◌∙◌}
use Rattle.lists.proofs.Sequence.{still}
use Rattle.lifter.proofs.lift_classified.Goals as goal

pub returns : goal.returns
returns c =
    let v = sym (rw (c.room-nodes.ensures, c.room-statements.ensures) at c.valid.ensures) ∙ c.if-valid.false in
    rw v (record { does = still refl; detail-is = refl })
