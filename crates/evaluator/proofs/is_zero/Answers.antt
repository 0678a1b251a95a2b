use Rattle.std.proofs.Common.{◌≡◌, ◌∙◌, eqb, rules}
use Rattle.evaluator.proofs.Compare.{zero-at}
use Rattle.std.specs.Int.Bits.{bit_and}
use Rattle.words.specs.Wide.{val}
use Rattle.evaluator.proofs.is_zero.Goals as goal

pub returns : goal.returns
returns c =
    let v = val c.args.v in
    let e = c.at_format.ensures in
    let p : c.at_format.result ≡ eqb (bit_and v (val e.0.below)) 0 = search rules in
    p ∙ zero-at c.args.f (val e.0.below) v e.1.bits
