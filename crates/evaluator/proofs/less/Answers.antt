use Rattle.std.proofs.Common.{◌&&◌, refl, ◌∙◌, arith, ne_eqb}
use Rattle.evaluator.proofs.Compare.{extended, numbers-at, less-at, narrow}
use Rattle.words.specs.Wide.{val}
use Rattle.evaluator.proofs.less.Goals as goal

pub returns-in-2072 : goal.returns-in-2072
returns-in-2072 c =
    let a = c.args in
    let e = c.in-2072.is in
    less-at a.f c.numbers.result c.order_word.result 2147483648 a.x.lo a.y.lo (val a.x) (val a.y)
    (c.numbers.ensures ∙ numbers-at a.f 2139095040 2147483647 (val a.x) (val a.y) (rw e) (rw e))
    c.order_word.ensures (rw e) (narrow a.x.hi a.x.lo 4294967296 (omega arith) (rw e at c.requires.left)) (narrow a.y.hi a.y.lo 4294967296 (omega arith) (rw e at c.requires.right)) c.requires

pub returns-in-2869 : goal.returns-in-2869
returns-in-2869 c =
    let a = c.args in
    let e = c.in-2869.is in
    less-at a.f c.numbers-in-2869.result c.order_word-in-2869.result 9223372036854775808 a.x.lo a.y.lo (val a.x) (val a.y)
    (c.numbers-in-2869.ensures ∙ numbers-at a.f 9218868437227405312 9223372036854775807 (val a.x) (val a.y) (rw e) (rw e))
    c.order_word-in-2869.ensures (rw e) (narrow a.x.hi a.x.lo 18446744073709551616 (omega arith) (rw e at c.requires.left)) (narrow a.y.hi a.y.lo 18446744073709551616 (omega arith) (rw e at c.requires.right)) c.requires

pub returns-in_default : goal.returns-in_default
returns-in_default c =
    let a = c.args in
    let n = ne_eqb _ _ c.in_default.in_default-own.rest.0.1 in
    let m = ne_eqb _ _ c.in_default.in_default-own.rest.1 in
    less-at a.f (c.is_number.result && c.is_number-in_default.result) c.order_pair.result 302231454903657293676544 (val a.x) (val a.y) (val a.x) (val a.y)
    (rw (c.is_number.ensures, c.is_number-in_default.ensures, extended a.f (val a.x) n m, extended a.f (val a.y) n m))
    c.order_pair.ensures (rw (n, m)) refl refl c.requires
