use Rattle.std.proofs.Common.{refl, le-leb}
use Rattle.std.proofs.lemmas.Bool.{lt-leb}
use Rattle.export.proofs.Calls.{tells}
use Rattle.export.proofs.Places.{insn-front}
use Rattle.export.specs.Answers.{affected}
use Rattle.export.proofs.x87_effect.Goals as goal

pub returns-in_default : goal.returns-in_default
unfolding affected
returns-in_default c = rw (lt-leb _ _ c.in_default.ensures.cases) (tells _ _ _ c.if-out-lt7.false refl c.lay.ensures)

pub returns : goal.returns
unfolding affected
returns c =
    let f = c.in-Some.ensures.cases in
    let q = rw (insn-front f c.read.ensures) at c.x87_effect-answer.ensures in
    rw (le-leb _ _ f.enough) (tells _ _ _ c.if-out-lt7.false (rw q at c.number.ensures) (rw (← q, ← c.effect_fields.ensures) c.lay-2.ensures))
