use Rattle.std.proofs.Common.{◌≡◌, ◌∙◌, sym, arith, length}
use Rattle.details.proofs.Shapes.{by-none, by-one, by-two, by-more}
use Rattle.details.proofs.among.Goals as goal

pub returns-in-empty : goal.returns-in-empty
returns-in-empty c =
    let n : length c.args.operands.now ≡ 0 = omega arith in
    rw (by-none c.args.shape c.args.operands.now n, c.if-shape.true)

pub returns-in-len1 : goal.returns-in-len1
returns-in-len1 c =
    let n : length c.args.operands.now ≡ 1 = omega arith in
    c.only.ensures ∙ sym (by-one c.args.shape c.args.operands.now _ n)

pub returns-in-len2 : goal.returns-in-len2
returns-in-len2 c =
    let n : length c.args.operands.now ≡ 2 = omega arith in
    c.pair.ensures ∙ sym (by-two c.args.shape c.args.operands.now _ _ n)

pub returns-in_default : goal.returns-in_default
returns-in_default c =
    let n : length c.args.operands.now ≡ 0 = omega arith in
    rw (by-none c.args.shape c.args.operands.now n, c.if-shape.false)

pub returns-in_default-2 : goal.returns-in_default-2
returns-in_default-2 c = rw (by-more c.args.shape c.args.operands.now c.in_default.len_at_least)
