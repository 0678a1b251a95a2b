use Rattle.std.proofs.Common.{◌≡◌, ◌∙◌, ltb, rules}
use Rattle.evaluator.proofs.Compare.{nan_at}
use Rattle.std.specs.Int.Bits.{bit_and}
use Rattle.words.specs.Wide.{val}
use Rattle.evaluator.proofs.is_nan.Goals as goal

pub returns : goal.returns
returns c =
    let v = val c.args.v in
    let e = c.at_format.ensures in
    let p : c.at_format.result ≡ ltb (val e.0.inf) (bit_and v (val e.0.below)) = search rules in
    p ∙ nan_at c.args.f (val e.0.inf) (val e.0.below) v e.1.infinity e.1.bits
