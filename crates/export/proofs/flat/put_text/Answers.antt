use Rattle.std.proofs.Common.{refl}
use Rattle.export.proofs.Places.{run, run_length, laid_one}
use Rattle.export.specs.Flat.{text_flat}
use Rattle.words.specs.Bytes.{bytes_of}
use Rattle.export.proofs.flat.put_text.Goals as goal

pub returns : goal.returns
unfolding text_flat bytes_of
returns c =
    (run _ _ _ _ _ _ _ 1 refl refl (laid_one _ _ _ _ refl) c.put.ensures.0, run_length (bytes_of 1 c.args.t.len) c.args.t.bytes 1 32 33 refl c.put.ensures.1 refl)
