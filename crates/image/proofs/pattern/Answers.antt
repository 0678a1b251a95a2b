use Rattle.std.proofs.Common.{◌<◌, ◌^◌, ◌≡◌, ap, ◌∙◌, sym, arith}
use Rattle.image.proofs.Words.{pattern-words, test}
use Rattle.image.specs.Layout.{integer_bit, has_number, pattern_in}
use Rattle.words.specs.Wide.{val, val_of, wide_of, wide-val}
use Rattle.words.proofs.Orders.{eq-two}
use lib.Arith.{digits_lt}
use Rattle.image.proofs.pattern.Goals as goal

pub returns-then-eq : goal.returns-then-eq
unfolding pattern_in
returns-then-eq c =
    let v = val c.args.v in
    let in_two : v < 2 ^ 128 = digits_lt {m = 2 ^ 64} {c = 2 ^ 64} (omega arith) (omega arith) in
    let same = eq-two c.extract-2.result.hi c.extract-2.result.lo c.integer_bit-bit.result.hi c.integer_bit-bit.result.lo (omega arith) (omega arith) in
    let t : c.eq.result ≡ has_number v =
    test v _ _ c.eq.result (val_of _ _ c.extract-2.ensures) (c.integer_bit-bit.ensures ∙ ap integer_bit (val_of _ _ c.extract.ensures)) (c.eq.ensures ∙ same) in
    c.concat.ensures ∙ ap wide_of (rw (val_of _ _ c.shr.ensures, sym t ∙ c.if-eq.true) (pattern-words v in_two))

pub returns-else-eq : goal.returns-else-eq
unfolding pattern_in
returns-else-eq c =
    let v = val c.args.v in
    let same = eq-two c.extract-2.result.hi c.extract-2.result.lo c.integer_bit-bit.result.hi c.integer_bit-bit.result.lo (omega arith) (omega arith) in
    let t : c.eq.result ≡ has_number v =
    test v _ _ c.eq.result (val_of _ _ c.extract-2.ensures) (c.integer_bit-bit.ensures ∙ ap integer_bit (val_of _ _ c.extract.ensures)) (c.eq.ensures ∙ same) in
    rw (sym t ∙ c.if-eq.false) (wide-val c.args.free (omega arith))
