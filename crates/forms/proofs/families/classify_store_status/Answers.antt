use Rattle.std.proofs.Common.{arith}
use Rattle.std.proofs.lemmas.Grind.{common_steps}
use Rattle.std.proofs.lemmas.Bool.Decides.{nat_tests}
use Rattle.forms.specs.Families.{store_status_at}
use Rattle.forms.proofs.families.classify_store_status.Goals as goal

pub returns-then-o-eq0 : goal.returns-then-o-eq0
unfolding store_status_at
returns-then-o-eq0 c = grind (arith, common_steps, nat_tests)

pub returns-in_err-modellable_memory_width : goal.returns-in_err-modellable_memory_width
unfolding store_status_at
returns-in_err-modellable_memory_width c = grind (arith, common_steps, nat_tests)

pub returns : goal.returns
unfolding store_status_at
returns c = grind (arith, common_steps, nat_tests)
