use Rattle.smttokens.specs.Matches.{then, ended, also}
use Rattle.smttokens.proofs.Front.{front}
use Rattle.smttokens.proofs.matching.all.Goals as goal

pub returns-in_err-end : goal.returns-in_err-end
returns-in_err-end c =
    let l = c.loop-b in
    also (front c.args.text.now l.b-index c.loop-b-test.true) (ended _ _ c.from_residual.ensures.1 (then l.invariant c.in_err-end.ensures))
