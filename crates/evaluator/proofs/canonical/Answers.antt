use Rattle.std.proofs.Common.{◌≡◌, ◌∙◌, cond, ltb, rules}
use Rattle.evaluator.proofs.Compare.{canon-at}
use Rattle.std.specs.Int.Bits.{bit_and}
use Rattle.words.specs.Wide.{val}
use Rattle.evaluator.proofs.canonical.Goals as goal

pub returns : goal.returns
returns c =
    let v = val c.args.v in
    let e = c.at_format.ensures in
    let p : val c.at_format.result ≡ cond (ltb (val e.0.inf) (bit_and v (val e.0.below))) (val e.0.nan) v = search rules in
    p ∙ canon-at c.args.f (val e.0.inf) (val e.0.below) (val e.0.nan) v e.1.infinity e.1.bits e.1.quiet
