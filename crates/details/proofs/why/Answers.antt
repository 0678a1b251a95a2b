use Rattle.std.proofs.Common.{◌≡◌, ◌≤◌, ◌<◌, ◌∙◌, arith, length}
use Rattle.details.proofs.Shapes.{by_shape, by-below, by-over}
use Rattle.forms.proofs.Found.{range}
use Rattle.details.specs.Inside.{why_by}
use Rattle.details.proofs.why.Goals as goal

pub returns-in_default : goal.returns-in_default
unfolding why_by
returns-in_default c = rw (by_shape _, ← c.as_bytes.ensures, ← c.shape.ensures, c.in_default.is)

pub returns-in_default-get : goal.returns-in_default-get
returns-in_default-get c =
    let many : 3 < c.args.insn.now.count = omega (arith, c.in_default-get.ensures.lookup) in
    rw (by_shape _, ← c.as_bytes.ensures, ← c.shape.ensures, c.in-Some.is, by-over c.in-Some.shape _ _ many)

pub returns : goal.returns
returns c =
    let few : c.args.insn.now.count ≤ 3 = omega (arith, c.in-Some-get.ensures.lookup) in
    let wide : length c.args.insn.now.operands ≡ 3 = omega arith in
    let below = c.in-Some-get.ensures.lookup.0.2 ∙ range _ _ in
    rw (by_shape _, ← c.as_bytes.ensures, ← c.shape.ensures, c.in-Some.is, ← by-below c.in-Some.shape _ _ few wide, ← below) c.among.ensures
