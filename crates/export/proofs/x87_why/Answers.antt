use Rattle.std.proofs.Common.{refl, sym, ◌∙◌, ne_eqb, le-leb}
use Rattle.std.proofs.lemmas.Bool.{lt-leb}
use Rattle.details.specs.Why.{detail_of, why_of}
use Rattle.export.proofs.Calls.{tells}
use Rattle.export.proofs.Places.{insn-front, laid_again}
use Rattle.export.specs.Answers.{reasoned}
use Rattle.export.specs.Flat.{laid}
use Rattle.export.proofs.x87_why.Goals as goal

pub returns-in_default : goal.returns-in_default
unfolding reasoned laid
returns-in_default c = rw (lt-leb _ _ c.in_default.ensures.cases) (tells _ _ _ c.if-out-lt1.false refl refl)

pub returns-then-answer-eq1 : goal.returns-then-answer-eq1
unfolding reasoned detail_of why_of
returns-then-answer-eq1 c =
    let f = c.in-Some.ensures.cases in
    let i = insn-front f c.read-insn.ensures in
    let n = rw (rw i at c.classify.ensures) at c.number-answer.ensures in
    let one = sym c.if-answer-eq1.true ∙ n in
    rw (le-leb _ _ f.enough) (tells _ _ _ c.if-out-lt1.false n (rw (← one, ← i, ← c.why.ensures, ← c.number.ensures) (laid_again _ _ _)))

pub returns-else-answer-eq1 : goal.returns-else-answer-eq1
unfolding reasoned detail_of laid
returns-else-answer-eq1 c =
    let f = c.in-Some.ensures.cases in
    let n = rw (rw (insn-front f c.read-insn.ensures) at c.classify.ensures) at c.number-answer.ensures in
    rw (le-leb _ _ f.enough) (tells _ _ _ c.if-out-lt1.false n (rw (← n, ne_eqb _ _ c.if-answer-eq1.false)))
