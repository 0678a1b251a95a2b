use Rattle.std.proofs.Common.{rules, tests, ◌∙◌}
use Rattle.std.proofs.lemmas.Iterator.{YieldsList-from_slice}
use Rattle.std.proofs.lemmas.Iterator.Search.{all_from_yields_List}
use Rattle.forms.specs.Operands.{spelled_is}
use Rattle.forms.proofs.Found.{all-is}
use Rattle.forms.proofs.all_spelled.Goals as goal

pub returns : goal.returns
returns c =
    all_from_yields_List spelled_is _ _ c.all.result c.all.ensures.ran (YieldsList-from_slice c.args.operands.now cc) (λ x b q k. search (rules, tests))
    ∙ all-is spelled_is _
