use Rattle.std.proofs.Common.{rules}
use Rattle.exprs.specs.Formats.{arith_kind_of}
use Rattle.exprs.proofs.arith_kind.Goals as goal

pub returns : goal.returns
unfolding arith_kind_of
returns c = search rules
