use Rattle.std.proofs.Common.{◌++◌, ◌≡◌, ◌-◌, take, length}
use Rattle.words.specs.Bytes.{bytes_of}
use Rattle.words.specs.Wide.{val}
use Rattle.image.proofs.put.Given as goal

abbrev pub invariant-loop-byte : goal.invariant-loop-byte
invariant-loop-byte l = (length l.byte-items ≡ 10) × (take l.byte-index l.byte-items ++ bytes_of (10 - l.byte-index) (val l.rest) ≡ bytes_of 10 (val l.fn.v))
