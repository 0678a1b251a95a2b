use Rattle.std.proofs.Common.{arith}
use Rattle.smtgrammar.specs.Allowed.{ok_at}
use Rattle.smtgrammar.specs.Grammar.{size_at}
use Rattle.smtgrammar.specs.Tokens.{text_at}
use Rattle.smtchoices.specs.Seen.{seen}
use Rattle.smttokens.specs.Taken.{sought-start, sought-on, sought-hit, sought-end}
use Rattle.smttokens.proofs.seek.Goals as goal

pub loop-choice-init : goal.loop-choice-init
loop-choice-init c = let s = c.args.s.now in sought-start (ok_at (seen s.tables) s.place s.line) (text_at (seen s.tables) s.place s.line) c.args.x.now

pub returns-in-Ok : goal.returns-in-Ok
returns-in-Ok c = let s = c.args.s.now in let l = c.loop-choice in sought-hit (ok_at (seen s.tables) s.place s.line) (text_at (seen s.tables) s.place s.line) c.args.x.now l.choice l.far (size_at s.line.stage) _ (omega arith) c.in-Ok.ensures

pub loop-choice-preserved : goal.loop-choice-preserved
loop-choice-preserved c = let s = c.args.s.now in let l = c.loop-choice in sought-on (ok_at (seen s.tables) s.place s.line) (text_at (seen s.tables) s.place s.line) c.args.x.now l.choice l.far _ c.in-Err.ensures l.invariant

pub returns : goal.returns
returns c = let s = c.args.s.now in let l = c.loop-choice in sought-end (ok_at (seen s.tables) s.place s.line) (text_at (seen s.tables) s.place s.line) c.args.x.now (size_at s.line.stage) l.choice l.far l.invariant (omega arith)
