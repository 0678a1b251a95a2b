use Rattle.std.proofs.Common.{◌∙◌}
use Rattle.smtreader.specs.Ranks.{row_of}
use Rattle.smtreader.proofs.columns.Columns.row.Goals as goal

pub returns : goal.returns
unfolding row_of
returns c = c.put.ensures ∙ rw (c.ranked-c.ensures, c.sort_at-2.ensures, c.ranked-b.ensures, c.sort_at.ensures, c.ranked-a.ensures, c.first_at.ensures, c.arity-n.ensures, c.kind_at-k.ensures)
