use Rattle.std.proofs.Common.{rules, tests, eqb, ap, ◌∙◌}
use Rattle.std.specs.Prelude.{option_map}
use Rattle.std.proofs.lemmas.Iterator.{YieldsList-from_slice}
use Rattle.std.proofs.lemmas.Iterator.Search.{find_from_yields_List}
use Rattle.forms.specs.Inside.Keys.{family_by}
use Rattle.forms.specs.declared.names.Name.{Name}
use Rattle.forms.proofs.names.family_in.Goals as goal

pub returns-in_err-name : goal.returns-in_err-name
unfolding family_by
returns-in_err-name c =
    let found =
    find_from_yields_List (λ (r : Name). eqb r.key c.args.key) _ _ c.find.result c.find.ensures.ran
    (YieldsList-from_slice c.args.names.now cc) (λ x b q k. search (rules, tests)) in
    c.from_residual.ensures ∙ ap (option_map (λ (r : Name). r.family)) (rw c.in_err-name.was at found)

pub returns : goal.returns
unfolding family_by
returns c =
    let found =
    find_from_yields_List (λ (r : Name). eqb r.key c.args.key) _ _ c.find.result c.find.ensures.ran
    (YieldsList-from_slice c.args.names.now cc) (λ x b q k. search (rules, tests)) in
    ap (option_map (λ (r : Name). r.family)) (rw c.in_ok-name.was at found)
