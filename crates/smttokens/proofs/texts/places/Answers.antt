use Rattle.smttokens.specs.Matches.{then, ended}
use Rattle.writing.specs.Bytes.{bytes}
use Rattle.smttokens.proofs.texts.places.Goals as goal

pub returns-in_err-p : goal.returns-in_err-p
unfolding bytes
returns-in_err-p c =
    ended _ _ c.from_residual.ensures.1 c.in_err-p.ensures

pub returns-in_err-q : goal.returns-in_err-q
unfolding bytes
returns-in_err-q c =
    then c.in_ok-p.ensures (ended _ _ c.from_residual-in_err-q.ensures.1 c.in_err-q.ensures)

pub returns-in_err-r : goal.returns-in_err-r
unfolding bytes
returns-in_err-r c =
    rw (← c.saturating_sub.ensures) (then c.in_ok-p.ensures (then c.in_ok-q.ensures (ended _ _ c.from_residual-in_err-r.ensures.1 c.in_err-r.ensures)))

pub returns : goal.returns
unfolding bytes
returns c = rw (← c.saturating_sub.ensures) (then c.in_ok-p.ensures (then c.in_ok-q.ensures (then c.in_ok-r.ensures c.all.ensures)))
