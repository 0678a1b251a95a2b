use Rattle.std.proofs.Common.{◌++◌, refl, arith}
use Rattle.export.proofs.Places.{run, run_length, laid_one}
use Rattle.export.specs.Flat.{text_flat, memory_flat, operand_flat}
use Rattle.words.specs.Bytes.{bytes_of}
use Rattle.export.proofs.flat.put_operand.Goals as goal

pub returns : goal.returns
unfolding memory_flat operand_flat bytes_of
returns c =
    let o = c.args.o in (
      run _ _ _ _ _ _ _ 1 refl refl (laid_one _ _ _ _ (omega arith)) (run _ _ _ _ _ _ _ 33 c.put_text.ensures.1 (omega arith) c.put_text.ensures.0 c.put_memory.ensures),
      run_length (bytes_of 1 o.kind) (text_flat o.text ++ memory_flat o) 1 44 45 refl (run_length (text_flat o.text) (memory_flat o) 33 11 44 c.put_text.ensures.1 refl refl) refl,
    )
