use Rattle.std.proofs.Common.{take, Ok}
use Rattle.smttokens.specs.Matches.{Extends}
use Rattle.smttokens.proofs.matching.all.Given as goal

abbrev pub invariant-loop-b : goal.invariant-loop-b
invariant-loop-b l = Extends (take l.b-index l.text) l.x l.initial.end (Ok l.end)
