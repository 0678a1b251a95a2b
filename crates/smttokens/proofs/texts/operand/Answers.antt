use Rattle.smttokens.specs.Matches.{ended}
use Rattle.smttokens.proofs.texts.operand.Goals as goal

pub returns-in_err-p : goal.returns-in_err-p
returns-in_err-p c =
    ended _ _ c.from_residual.ensures.1 c.in_err-p.ensures
