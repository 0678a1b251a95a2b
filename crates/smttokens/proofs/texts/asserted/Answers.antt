use Rattle.smttokens.specs.Matches.{then, ended, also}
use Rattle.smtgrammar.specs.Tokens.{asserted_text}
use Rattle.smttext.specs.Names.{format_text}
use Rattle.smttokens.proofs.Front.{joined}
use Rattle.writing.specs.Bytes.{bytes}
use Rattle.smttokens.proofs.texts.asserted.Goals as goal

pub returns-in_err-p : goal.returns-in_err-p
unfolding asserted_text bytes
returns-in_err-p c =
    rw (← c.first_at-a.ensures, ← c.sort_at-f.ensures) (also (joined (bytes "((_ to_fp ") (format_text _) (bytes ") ") _) (ended _ _ c.from_residual.ensures.1 c.in_err-p.ensures))

pub returns-in_err-q : goal.returns-in_err-q
unfolding asserted_text bytes
returns-in_err-q c =
    rw (← c.first_at-a.ensures, ← c.sort_at-f.ensures) (also (joined (bytes "((_ to_fp ") (format_text _) (bytes ") ") _) (then c.in_ok-p.ensures (ended _ _ c.from_residual-in_err-q.ensures.1 c.in_err-q.ensures)))

pub returns-in_err-r : goal.returns-in_err-r
unfolding asserted_text bytes
returns-in_err-r c =
    rw (← c.first_at-a.ensures, ← c.sort_at-f.ensures) (also (joined (bytes "((_ to_fp ") (format_text _) (bytes ") ") _) (then c.in_ok-p.ensures (then c.in_ok-q.ensures (ended _ _ c.from_residual-in_err-r.ensures.1 c.in_err-r.ensures))))

pub returns-in_err-t : goal.returns-in_err-t
unfolding asserted_text bytes
returns-in_err-t c =
    rw (← c.first_at-a.ensures, ← c.sort_at-f.ensures) (also (joined (bytes "((_ to_fp ") (format_text _) (bytes ") ") _) (then c.in_ok-p.ensures (then c.in_ok-q.ensures (then c.in_ok-r.ensures (ended _ _ c.from_residual-in_err-t.ensures.1 c.in_err-t.ensures)))))

pub returns : goal.returns
unfolding asserted_text bytes
returns c = rw (← c.first_at-a.ensures, ← c.sort_at-f.ensures) (also (joined (bytes "((_ to_fp ") (format_text _) (bytes ") ") _) (then c.in_ok-p.ensures (then c.in_ok-q.ensures (then c.in_ok-r.ensures (then c.in_ok-t.ensures c.all-2.ensures)))))
