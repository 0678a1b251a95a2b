use Rattle.std.proofs.Common.{◌≡◌, ap, ◌∙◌, sym}
use Rattle.image.proofs.Words.{image-words}
use Rattle.image.specs.Laws.{image-top, bit-small}
use Rattle.image.specs.Layout.{exponent_of, integer_bit}
use Rattle.words.specs.Wide.{val, val_of}
use lib.Pow.{field}
use Rattle.image.proofs.image_of.Goals as goal

pub returns : goal.returns
returns c =
    let p = val c.args.p in
    let b : val c.integer_bit-bit.result ≡ integer_bit (exponent_of p) =
    c.integer_bit-bit.ensures ∙ ap integer_bit (val_of _ _ c.extract.ensures ∙ field p 15 63) in
    rw (val_of _ _ c.concat.ensures, val_of _ _ c.concat-top.ensures, val_of _ _ c.shr.ensures, b)
    (image-words p (integer_bit (exponent_of p)) c.requires (bit-small (exponent_of p)) ∙ sym (image-top p))
