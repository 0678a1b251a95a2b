use Rattle.export.proofs.Calls.{tells, untold}
use Rattle.export.specs.Values.{ReadsImage}
use Rattle.export.proofs.values.x87_image_read.Goals as goal

pub returns-then-out-ge2 : goal.returns-then-out-ge2
unfolding ReadsImage
returns-then-out-ge2 c =
    let f = c.read-r.ensures in
    tells _ _ _ c.if-out-ge2.true (rw f at c.number_of.ensures) (rw (← f, ← c.pattern_words.ensures) c.lay.ensures)

pub returns : goal.returns
unfolding ReadsImage
returns c = untold _ _ _ c.if-out-ge2.false
