use Rattle.listing.proofs.Running.{ran, too_long}
use Rattle.listing.proofs.run.Goals as goal

pub returns-then-input-gt16384 : goal.returns-then-input-gt16384
returns-then-input-gt16384 c = rw (c.refused.ensures, c.new-start.ensures) (too_long _ _ _ c.if-input-gt16384.true)

pub returns : goal.returns
returns c = ran _ _ _ _ _ _ _ c.new-start.ensures c.if-input-gt16384.false c.turns.ensures
