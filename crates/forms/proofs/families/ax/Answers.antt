use Rattle.std.proofs.Common.{◌∙◌, ap, List, ℕ}
use Rattle.texts.specs.Bytes.{bytes}
use Rattle.texts.specs.Letters.{same_letters}
use Rattle.forms.specs.Operands.{ax_of}
use Rattle.forms.proofs.families.ax.Goals as goal

pub returns : goal.returns
unfolding ax_of
returns c = c.eq_ignore_ascii_case.ensures ∙ ap (λ (t : List ℕ). same_letters t (bytes "ax")) c.trim.ensures
