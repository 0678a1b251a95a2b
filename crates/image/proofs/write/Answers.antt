use Rattle.std.proofs.Common.{◌∙◌, sym, ap, ◌++◌, ℕ, drop, lt-ltb, le-ltb}
use Rattle.image.specs.Answers.{write_of, image_after}
use Rattle.words.specs.Bytes.{bytes_of}
use Rattle.image.proofs.write.Goals as goal

pub returns-then-image-lt10 : goal.returns-then-image-lt10
unfolding write_of image_after
returns-then-image-lt10 c = (rw (lt-ltb _ _ c.if-image-lt10.true), rw (lt-ltb _ _ c.if-image-lt10.true))

pub returns-then-not-fits : goal.returns-then-not-fits
unfolding write_of image_after
returns-then-not-fits c =
    let long = le-ltb _ _ c.if-image-lt10.false in
    let wide = sym c.fits.ensures ∙ c.if-not-fits.true in
    (rw (long, wide), rw (long, wide))

pub returns : goal.returns
unfolding write_of image_after
returns c =
    let long = le-ltb _ _ c.if-image-lt10.false in
    let small = sym c.fits.ensures ∙ c.if-not-fits.false in
    (rw (long, small), rw (long, small) (c.put.ensures ∙ ap (λ (v : ℕ). bytes_of 10 v ++ drop 10 c.args.image.now) c.image_of.ensures))
