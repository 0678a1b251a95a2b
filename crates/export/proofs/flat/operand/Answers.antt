use Rattle.std.proofs.Common.{arith, ◌+◌}
use Rattle.export.proofs.Places.{le_2, le_4}
use Rattle.export.specs.Flat.{operand_in}
use Rattle.export.proofs.flat.operand.Goals as goal

pub returns : goal.returns
unfolding operand_in
returns c =
    let s = c.args.s.now in
    let p = c.args.at in
    rw (
      c.text.ensures,
      c.from_le_bytes.ensures,
      c.bytes.ensures,
      le_2 s (p + 34) (omega (arith, c.requires)),
      c.from_le_bytes-2.ensures,
      c.bytes-2.ensures,
      le_4 s (p + 37) (omega (arith, c.requires)),
      c.from_le_bytes-3.ensures,
      c.bytes-3.ensures,
      le_4 s (p + 41) (omega (arith, c.requires)),
    )
