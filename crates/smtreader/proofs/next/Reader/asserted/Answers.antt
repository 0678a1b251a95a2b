use Rattle.std.proofs.Common.{◌∙◌}
use Rattle.smtreader.proofs.Lines.{due-is, ended}
use Rattle.smtreader.proofs.next.Reader.asserted.Goals.{then-p, else-p}
use Rattle.smtreader.proofs.next.Reader.asserted.Goals as goal

pub returns : goal.returns
returns c = ended _ _ _ (elim c.if-p.branch [
  | then-p w ↦ w.due-is ∙ w.due_from-due.ensures
  | else-p w ↦ w.due-is ∙ due-is _ _ _ w.if-p.false
])
