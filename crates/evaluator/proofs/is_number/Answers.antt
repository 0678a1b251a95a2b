use Rattle.std.proofs.Common.{◌∙◌, rules}
use Rattle.evaluator.proofs.Compare.{byte-flag, number-words}
use Rattle.evaluator.proofs.is_number.Goals as goal

pub returns : goal.returns
returns c = rw (c.from.ensures ∙ byte-flag _) (number-words c.args.v.hi c.args.v.lo (search rules))
