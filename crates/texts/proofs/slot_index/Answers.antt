use Rattle.std.proofs.Common.{eq-eqb, ne_eqb}
use Rattle.texts.proofs.Laws.{named-short, named-long, cond_same}
use Rattle.texts.specs.Places.{place_of}
use Rattle.texts.proofs.slot_index.Goals as goal
use Rattle.texts.proofs.slot_index.Goals.{else-lower-eq115-via-then-lower-eq115+then-lower-eq116+else-open-eq40, else-lower-eq115-via-then-lower-eq115+else-lower-eq116, else-lower-eq115-via-else-lower-eq115}

pub returns-in_default : goal.returns-in_default
unfolding place_of
returns-in_default c = rw (← c.trim.ensures, named-short c.trim.result.now c.in_default.len_below)

pub returns-then-open-eq40 : goal.returns-then-open-eq40
unfolding place_of
returns-then-open-eq40 c =
    rw (← c.trim.ensures, named-long c.trim.result.now c.in-len3-up.len_at_least, ← c.lower.ensures, ← c.lower-then-lower-eq115.ensures, eq-eqb _ _ c.if-lower-eq115.true, eq-eqb _ _ c.if-lower-eq116.true, eq-eqb _ _ c.if-open-eq40.true)
    c.signed_of.ensures

pub returns : goal.returns
unfolding place_of
returns c =
    rw (← c.trim.ensures, named-long c.trim.result.now c.in-len3-up.len_at_least, ← c.lower.ensures)
    (elim c.else-lower-eq115.branch [
      | else-lower-eq115-via-then-lower-eq115+then-lower-eq116+else-open-eq40 w ↦ rw (ne_eqb _ _ w.if-open-eq40.false) (simp cond_same)
      | else-lower-eq115-via-then-lower-eq115+else-lower-eq116 w ↦ rw (← w.lower-then-lower-eq115.ensures, ne_eqb _ _ w.if-lower-eq116.false) (simp cond_same)
      | else-lower-eq115-via-else-lower-eq115 w ↦ rw (ne_eqb _ _ w.if-lower-eq115.false)
    ])
