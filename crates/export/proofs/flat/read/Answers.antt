use Rattle.std.proofs.Common.{arith}
use Rattle.export.proofs.Places.{le_8}
use Rattle.export.specs.Flat.{insn_of}
use Rattle.export.proofs.flat.read.Goals as goal

pub returns : goal.returns
unfolding insn_of
returns c =
    rw (c.from_le_bytes.ensures, c.bytes.ensures, le_8 c.args.s.now 0 (omega arith), c.text.ensures, c.operand.ensures, c.operand-2.ensures, c.operand-3.ensures)
