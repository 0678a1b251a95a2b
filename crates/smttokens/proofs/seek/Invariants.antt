use Rattle.smtgrammar.specs.Allowed.{ok_at}
use Rattle.smtgrammar.specs.Tokens.{text_at}
use Rattle.smtchoices.specs.Seen.{seen}
use Rattle.smttokens.specs.Taken.{Sought}
use Rattle.smttokens.proofs.seek.Given as goal

abbrev pub invariant-loop-choice : goal.invariant-loop-choice
invariant-loop-choice l = Sought (ok_at (seen l.s.tables) l.s.place l.s.line) (text_at (seen l.s.tables) l.s.place l.s.line) l.x l.choice l.far
