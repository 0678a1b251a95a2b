use Rattle.std.proofs.Common.{length-set, length, arith, refl, ap, ◌∙◌, ◌<◌, sym}
use Rattle.smtgrammar.specs.Rows.{there, rank_at}
use Rattle.smtgrammar.specs.State.{Tables}
use Rattle.smtreader.specs.Inside.{tables_of}
use Rattle.smtreader.specs.Ranks.{bare}
use Rattle.smtreader.proofs.Ranks.{rank_most, rank-on, rank-there, rank-past-one}
use Rattle.smtreader.proofs.columns.Columns.rank.Goals.{then-is_there, else-is_there}
use Rattle.smtreader.proofs.columns.Columns.rank.Goals as goal

pub loop-i-init : goal.loop-i-init
unfolding rank_at
loop-i-init c = record { count = refl; same = refl; long = refl; ranks = λ j h. absurd (omega arith) }

pub overflow_cast-self : goal.overflow_cast-self
overflow_cast-self c = let v = c.loop-i.invariant in let h = rank_most (bare (tables_of c.args.self.now)) c.loop-i.i in let r = c.requires in omega (arith, v.count)

pub overflow_add-n : goal.overflow_add-n
overflow_add-n c = let v = c.loop-i.invariant in let h = rank_most (bare (tables_of c.args.self.now)) c.loop-i.i in let r = c.requires in omega (arith, v.count)

pub loop-i-preserved : goal.loop-i-preserved
loop-i-preserved c =
    let l = c.loop-i in
    let v = l.invariant in
    let t = bare (tables_of c.args.self.now) in
    let e = c.is_there.ensures ∙ ap (λ (u : Tables). there u l.i) v.same in
    let b : l.i < length l.self.sorts.now = let h = c.loop-i-test.true in let k = v.long in omega arith in
    record {
      count = elim c.if-is_there.branch [
        | then-is_there w ↦ w.n-is ∙ rank-there t l.i l.n v.count (sym e ∙ w.if-is_there.true)
        | else-is_there w ↦ w.n-is ∙ rank-past-one t l.i l.n v.count (sym e ∙ w.if-is_there.false)
      ];
      same = v.same;
      long = length-set l.self.sorts.now l.i l.n ∙ v.long;
      ranks = rank-on t l.self.sorts.now l.i l.n b v.count v.ranks;
    }
