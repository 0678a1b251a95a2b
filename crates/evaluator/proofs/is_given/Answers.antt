use Rattle.evaluator.proofs.Flags.{given-bit}
use Rattle.evaluator.proofs.is_given.Goals as goal

pub returns : goal.returns
returns c = given-bit c.args.k c.requires
