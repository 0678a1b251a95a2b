use Rattle.std.proofs.Common.{◌*◌, ◌≡◌}
use Rattle.smtgrammar.specs.Rows.{rank_at, rows_below}
use Rattle.smtreader.specs.Inside.{tables_of}
use Rattle.smtreader.specs.Ranks.{bare}
use lib.Seq.{sets}
use Rattle.smtreader.proofs.columns.Columns.write.Given as goal

abbrev pub invariant-loop-i : goal.invariant-loop-i
invariant-loop-i l = record {
  words : l.nodes ≡ sets l.initial.nodes 0 (rows_below (bare (tables_of l.self)) l.i);
  place : l.at ≡ 4 * rank_at (bare (tables_of l.self)) l.i;
}
