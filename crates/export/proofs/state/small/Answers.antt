use Rattle.std.proofs.Common.{◌≡◌, refl, ◌∙◌, ap, rules, tests, Bool, ◌&&◌, List, [], ◌∷◌, take}
use Rattle.std.proofs.lemmas.Iterator.{YieldsList-from_slice}
use Rattle.std.proofs.lemmas.Iterator.Search.{all_from_yields_List}
use Rattle.std.specs.List.{list_all}
use Rattle.texts.specs.Bytes.{all}
use Rattle.export.specs.Lifts.{small_is}
use Rattle.export.proofs.state.small.Goals as goal

same : {A : Type 0} (f : A → Bool) (l : List A) → list_all f l ≡ all f l
same f [] = refl
same f (x ∷ l) = ap (λ (t : Bool). f x && t) (same f l)

pub returns : goal.returns
returns c = all_from_yields_List small_is _ _ c.all.result c.all.ensures.ran (YieldsList-from_slice (take 13 c.args.w.now) cc) (λ x b q k. search (rules, tests)) ∙ same small_is (take 13 c.args.w.now)
