use Rattle.std.proofs.Common.{refl, arith}
use Rattle.export.proofs.Places.{run, laid_one, le_2_of, le_4_of}
use Rattle.export.specs.Flat.{memory_flat}
use Rattle.words.specs.Bytes.{bytes_of}
use Rattle.export.proofs.flat.put_memory.Goals as goal

pub returns : goal.returns
unfolding memory_flat bytes_of
returns c =
    let o = c.args.o in
    let w = rw (c.to_le_bytes.ensures, le_2_of o.width) at c.put.ensures.0 in
    let a = rw (c.to_le_bytes-2.ensures, le_4_of o.address) at c.put-2.ensures.0 in
    let s = rw (c.to_le_bytes-3.ensures, le_4_of o.slot) at c.put-3.ensures.0 in
    run _ _ _ _ _ _ _ 2 refl refl w (run _ _ _ _ _ _ _ 1 refl (omega arith) (laid_one _ _ _ _ (omega arith)) (run _ _ _ _ _ _ _ 4 refl (omega arith) a s))
