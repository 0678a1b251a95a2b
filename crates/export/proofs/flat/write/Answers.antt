use Rattle.std.proofs.Common.{refl}
use Rattle.export.proofs.Places.{run, run_length, laid_one, le_8_of}
use Rattle.export.specs.Flat.{flat_of}
use Rattle.words.specs.Bytes.{bytes_of}
use Rattle.export.proofs.flat.write.Goals as goal

pub returns : goal.returns
unfolding flat_of bytes_of
returns c =
    let a = rw (c.to_le_bytes.ensures, le_8_of c.args.i.address) at c.put.ensures.0 in
    let z = c.put_operand-3.ensures.1 in
    let two = run_length _ _ 45 45 90 c.put_operand-2.ensures.1 z refl in
    let three = run_length _ _ 45 90 135 c.put_operand.ensures.1 two refl in (
      run _ _ _ _ _ _ _ 8 refl refl a
          (run _ _ _ _ _ _ _ 33 c.put_text.ensures.1 refl c.put_text.ensures.0
          (run _ _ _ _ _ _ _ 1 refl refl (laid_one _ _ _ _ refl)
          (run _ _ _ _ _ _ _ 45 c.put_operand.ensures.1 refl c.put_operand.ensures.0
          (run _ _ _ _ _ _ _ 45 c.put_operand-2.ensures.1 refl c.put_operand-2.ensures.0 c.put_operand-3.ensures.0)))),
      run_length (bytes_of 8 c.args.i.address) _ 8 169 177 refl (run_length _ _ 33 136 169 c.put_text.ensures.1 (run_length (bytes_of 1 c.args.i.count) _ 1 135 136 refl three refl) refl) refl,
    )
