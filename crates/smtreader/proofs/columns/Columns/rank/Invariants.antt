use Rattle.std.proofs.Common.{◌≡◌, ℕ, ◌<◌, length, get_or}
use Rattle.smtgrammar.specs.Rows.{rank_at}
use Rattle.smtreader.specs.Inside.{tables_of}
use Rattle.smtreader.specs.Ranks.{bare}
use Rattle.smtreader.proofs.columns.Columns.rank.Given as goal

abbrev pub invariant-loop-i : goal.invariant-loop-i
invariant-loop-i l = record {
  count : l.n ≡ rank_at (bare (tables_of l.initial.self)) l.i;
  same : bare (tables_of l.self) ≡ bare (tables_of l.initial.self);
  long : length l.self.sorts.now ≡ length l.initial.self.sorts.now;
  ranks : (j : ℕ) → j < l.i → get_or l.self.sorts.now j 0 ≡ rank_at (bare (tables_of l.initial.self)) j;
}
