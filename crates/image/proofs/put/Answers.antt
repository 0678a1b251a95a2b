use Rattle.std.proofs.Common.{◌++◌, ◌∙◌, ap, drop, arith, length-set}
use Rattle.image.proofs.Loops.{low-byte, put-more, put-ends}
use Rattle.words.specs.Wide.{val, val_of}
use Rattle.image.proofs.put.Goals as goal

pub loop-byte-preserved : goal.loop-byte-preserved
loop-byte-preserved c =
    let l = c.loop-byte in (
      simp length-set l.invariant.0,
      rw (low-byte l.rest.hi l.rest.lo, val_of _ _ c.shr-rest.ensures) (put-more l.byte-items l.byte-index (val l.rest) (omega arith) (omega arith) ∙ l.invariant.1),
    )

pub returns : goal.returns
returns c = let l = c.loop-byte in ap (λ s. s ++ drop 10 c.args.image.now) (put-ends l.byte-items (val c.args.v) (val l.rest) l.byte-index (omega arith) (omega arith) l.invariant.1)
