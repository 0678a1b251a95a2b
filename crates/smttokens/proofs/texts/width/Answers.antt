use Rattle.smttokens.specs.Matches.{then, ended}
use Rattle.writing.specs.Bytes.{bytes}
use Rattle.smttokens.proofs.texts.width.Goals as goal

pub returns-in_err-p : goal.returns-in_err-p
unfolding bytes
returns-in_err-p c =
    ended _ _ c.from_residual.ensures.1 c.in_err-p.ensures

pub returns-in_err-q : goal.returns-in_err-q
unfolding bytes
returns-in_err-q c =
    then c.in_ok-p.ensures (ended _ _ c.from_residual-in_err-q.ensures.1 c.in_err-q.ensures)

pub returns : goal.returns
unfolding bytes
returns c = (then c.in_ok-p.ensures (then c.in_ok-q.ensures c.all-2.ensures))
