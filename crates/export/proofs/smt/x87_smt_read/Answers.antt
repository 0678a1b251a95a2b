use Rattle.std.proofs.Common.{refl}
use Rattle.export.proofs.Texts.{answered}
use Rattle.export.specs.Flat.{laid}
use Rattle.export.proofs.smt.x87_smt_read.Goals as goal

pub returns-then-out-ge1 : goal.returns-then-out-ge1
unfolding laid
returns-then-out-ge1 c =
    let k = c.read-t in
    answered c.if-out-ge1.true k.result k.ensures c.number_of.ensures c.count_or_place.ensures refl
