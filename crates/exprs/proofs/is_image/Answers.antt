use Rattle.exprs.specs.Formats.{is_image}
use Rattle.exprs.proofs.is_image.Goals as goal

pub returns-in-Float : goal.returns-in-Float
unfolding is_image
returns-in-Float c = rw c.in-Float.is

pub returns-in-Integer : goal.returns-in-Integer
unfolding is_image
returns-in-Integer c = rw c.in-Integer.is
