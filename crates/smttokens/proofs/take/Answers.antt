use Rattle.std.proofs.Common.{arith}
use Rattle.smtgrammar.specs.Allowed.{ok_at}
use Rattle.smtgrammar.specs.Grammar.{size_at}
use Rattle.smtgrammar.specs.Tokens.{text_at}
use Rattle.smtchoices.specs.Seen.{seen}
use Rattle.smttokens.specs.Taken.{takes, sought-hit}
use Rattle.smttokens.proofs.take.Goals as goal

pub returns : goal.returns
returns c =
    let s = c.args.s.now in
    let k = c.size_at-n.ensures in
    let h = c.if-choice-n.true in
    takes (sought-hit (ok_at (seen s.tables) s.place s.line) (text_at (seen s.tables) s.place s.line) c.args.x.now c.guess-choice.result 0 (size_at s.line.stage) _ (omega arith) c.in-Ok.ensures)

pub returns-2 : goal.returns-2
returns-2 c = takes c.seek.ensures
