use Rattle.std.proofs.Common.{◌∙◌, ap, map, ℕ}
use Rattle.forms.proofs.Lookup.{found, row_of}
use Rattle.forms.specs.Inside.Keys.{key_of, family_by}
use Rattle.forms.specs.Names.{names}
use Rattle.forms.proofs.names.family.Goals as goal

pub returns : goal.returns
unfolding names
returns c =
    let k = c.key.ensures ∙ ap key_of c.trim.ensures in
    c.family_in.ensures ∙ ap (λ (x : ℕ). family_by x (map row_of names)) k ∙ found _
