use Rattle.std.proofs.Common.{rules, arith, ◌≡◌, length}
use Rattle.export.proofs.Places.{laid_over}
use Rattle.export.proofs.flat.put.Goals as goal

pub returns : goal.returns
returns g c =
    let e : length c.args.bytes ≡ g.row.N = search rules in
    (rw c.copy_from_slice.ensures.after (laid_over _ _ _ _ (omega arith) (omega arith)), e)
