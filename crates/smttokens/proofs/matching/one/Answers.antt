use Rattle.std.proofs.Common.{refl, arith}
use Rattle.smttokens.specs.Matches.{hit, miss}
use Rattle.smttokens.proofs.matching.one.Goals.{else-at-x-via-then-at-x+else-x-at, else-at-x-via-else-at-x}
use Rattle.smttokens.proofs.matching.one.Goals as goal

pub returns-then-x-at : goal.returns-then-x-at
returns-then-x-at c = hit c.if-at-x.true c.if-x-at.true refl

pub returns-else-at-x : goal.returns-else-at-x
returns-else-at-x c = elim c.else-at-x.branch [
  | else-at-x-via-then-at-x+else-x-at w ↦ miss (λ _. w.if-x-at.false)
  | else-at-x-via-else-at-x w ↦ let k = w.if-at-x.false in miss (λ h _. absurd (omega arith))
]
