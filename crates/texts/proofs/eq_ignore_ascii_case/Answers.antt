use Rattle.std.proofs.Common.{rules, tests, ◌∙◌, ℕ, ne_eqb, eqb}
use Rattle.std.proofs.lemmas.Iterator.{YieldsList-from_slice, YieldsList-from_zip}
use Rattle.std.proofs.lemmas.Iterator.Search.{all_from_yields_List}
use Rattle.texts.proofs.Laws.{same-pairs, same-none}
use Rattle.texts.specs.Letters.{lower_of}
use Rattle.texts.proofs.eq_ignore_ascii_case.Goals as goal

pub returns-then-s-t : goal.returns-then-s-t
returns-then-s-t c =
    all_from_yields_List (λ (p : ℕ × ℕ). eqb (lower_of p.0) (lower_of p.1)) c.all.new.self _ c.all.result c.all.ensures.ran
    (YieldsList-from_zip {s = c.zip.result} (YieldsList-from_slice c.args.s.now cc) (YieldsList-from_slice c.args.t.now cc))
    (λ x b q k. search (rules, tests))
    ∙ same-pairs _ _ c.if-s-t.true

pub returns-else-s-t : goal.returns-else-s-t
returns-else-s-t c = ne_eqb _ _ c.if-s-t.false ∙ same-none _ _ c.if-s-t.false
