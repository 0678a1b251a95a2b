use Rattle.std.proofs.Common.{◌∙◌, ap}
use Rattle.texts.specs.Letters.{cut, trim_of}
use Rattle.texts.proofs.trim.Goals as goal

pub returns : goal.returns
unfolding trim_of
returns c = c.trim_end.ensures ∙ ap cut c.trim_start.ensures
