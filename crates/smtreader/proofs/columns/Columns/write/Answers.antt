use Rattle.std.proofs.Common.{arith, refl, sym, ◌∙◌}
use Rattle.smtgrammar.specs.Rows.{rank_at, rows_below}
use Rattle.smtreader.proofs.Ranks.{write-on, write-past, room-on, written}
use Rattle.smtreader.specs.Inside.{tables_of}
use Rattle.smtreader.specs.Ranks.{bare}
use Rattle.smtreader.proofs.columns.Columns.write.Goals.{then-is_there, else-is_there}
use Rattle.smtreader.proofs.columns.Columns.write.Goals as goal

pub loop-i-init : goal.loop-i-init
unfolding rows_below rank_at
loop-i-init c = record { words = refl; place = refl }

pub row-requires : goal.row-requires
row-requires c = let l = c.loop-i in let e = c.min-i-end.ensures in let h = c.loop-i-test.true in room-on (bare (tables_of c.args.self.now)) c.args.nodes.now l.nodes l.i l.at _ c.requires.1 (omega arith) l.invariant.words l.invariant.place (sym c.is_there.ensures ∙ c.if-is_there.true)

pub overflow_add-at : goal.overflow_add-at
overflow_add-at c = let l = c.loop-i in let g = c.well_formed in let e = c.min-i-end.ensures in let h = c.loop-i-test.true in let r = room-on (bare (tables_of c.args.self.now)) c.args.nodes.now l.nodes l.i l.at _ c.requires.1 (omega arith) l.invariant.words l.invariant.place (sym c.is_there.ensures ∙ c.if-is_there.true) in omega arith

pub loop-i-preserved : goal.loop-i-preserved
loop-i-preserved c =
    let l = c.loop-i in
    let v = l.invariant in
    let t = bare (tables_of c.args.self.now) in
    let r = c.args.self.now.sorts.now in
    record {
      words = elim c.if-is_there.branch [
        | then-is_there w ↦ w.nodes-is ∙ (write-on t r _ c.requires.0 c.requires.1 c.args.nodes.now l.nodes l.i l.at v.words v.place (sym c.is_there.ensures ∙ w.if-is_there.true) w.row.ensures).0
        | else-is_there w ↦ w.nodes-is ∙ (write-past t r _ c.requires.0 c.requires.1 c.args.nodes.now l.nodes l.i l.at v.words v.place (sym c.is_there.ensures ∙ w.if-is_there.false)).0
      ];
      place = elim c.if-is_there.branch [
        | then-is_there w ↦ w.at-is ∙ (write-on t r _ c.requires.0 c.requires.1 c.args.nodes.now l.nodes l.i l.at v.words v.place (sym c.is_there.ensures ∙ w.if-is_there.true) w.row.ensures).1
        | else-is_there w ↦ w.at-is ∙ (write-past t r _ c.requires.0 c.requires.1 c.args.nodes.now l.nodes l.i l.at v.words v.place (sym c.is_there.ensures ∙ w.if-is_there.false)).1
      ];
    }

pub returns : goal.returns
returns c = let l = c.loop-i in written (bare (tables_of c.args.self.now)) c.args.nodes.now l.nodes l.i (let e = c.min-i-end.ensures in let h = c.loop-i-test.false in let k = l.auto.i-end in omega arith) l.invariant.words
