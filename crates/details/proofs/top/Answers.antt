use Rattle.std.proofs.Common.{arith}
use Rattle.std.proofs.lemmas.Bool.Decides.{nat_tests}
use Rattle.std.proofs.lemmas.Grind.{common_steps}
use Rattle.details.proofs.Operands.{st0-why}
use Rattle.details.proofs.top.Goals as goal

pub returns-in-Some : goal.returns-in-Some
returns-in-Some c = rw (st0-why _, ← c.slot_index.ensures, c.in-Some.is) (grind (arith, common_steps, nat_tests))

pub returns-in-None : goal.returns-in-None
returns-in-None c = rw (st0-why _, ← c.slot_index.ensures, c.in-None.is)
