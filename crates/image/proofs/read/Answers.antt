use Rattle.std.proofs.Common.{◌∙◌, sym, ap, ℕ, lt-ltb, le-ltb}
use Rattle.std.specs.Prelude.{Ok}
use Rattle.image.specs.Answers.{read_of}
use Rattle.image.specs.Layout.{pattern_in}
use Rattle.words.specs.Wide.{val, wide_of}
use Rattle.image.proofs.read.Goals as goal

pub returns-then-image-lt10 : goal.returns-then-image-lt10
unfolding read_of
returns-then-image-lt10 c = rw (lt-ltb _ _ c.if-image-lt10.true)

pub returns-then-not-fits : goal.returns-then-not-fits
unfolding read_of
returns-then-not-fits c = rw (le-ltb _ _ c.if-image-lt10.false, sym c.fits.ensures ∙ c.if-not-fits.true)

pub returns : goal.returns
unfolding read_of
returns c =
    rw (le-ltb _ _ c.if-image-lt10.false, sym c.fits.ensures ∙ c.if-not-fits.false)
    (ap Ok (c.pattern.ensures ∙ ap (λ (v : ℕ). wide_of (pattern_in v (val c.args.free))) c.number.ensures))
