use Rattle.std.proofs.Common.{arith}
use Rattle.std.proofs.lemmas.Grind.{common_steps}
use Rattle.std.proofs.lemmas.Bool.Decides.{nat_tests}
use Rattle.forms.specs.Operands.{width_of}
use Rattle.forms.proofs.families.modellable_memory_width.Goals as goal

pub returns : goal.returns
unfolding width_of
returns c = grind (arith, common_steps, nat_tests)
