use Rattle.std.proofs.Common.{ap, ◌∙◌, arith, eqb, Some, Ok}
use Rattle.std.proofs.lemmas.Result.{err_from_is_err_and}
use Rattle.forms.proofs.Found.{first-of}
use Rattle.forms.specs.Effects.{touched_of, effect_of}
use Rattle.forms.specs.Operands.{no_operand}
use Rattle.forms.specs.declared.Effect.{Effect}
use Rattle.forms.specs.declared.Operand.{Operand}
use Rattle.forms.proofs.x87_effect.Goals as goal

pub returns-in_err-form : goal.returns-in_err-form
unfolding effect_of
returns-in_err-form c = let p = err_from_is_err_and c.from_residual.result c.from_residual.ensures.1 in rw (p.1, p.2, ← c.classify.ensures, c.in_err-form.was)

pub returns-in_default : goal.returns-in_default
unfolding effect_of
returns-in_default c = rw (← c.classify.ensures, c.in_ok-form.was, c.in_default.is)

pub returns : goal.returns
unfolding effect_of
returns c =
    rw (← c.classify.ensures, c.in_ok-form.was, c.in-Some.is)
    (ap (λ (e : Effect). Ok (Some e)) (c.touched.ensures ∙ ap (λ (o : Operand). touched_of c.in-Some.form (eqb o.kind 0)) (first-of c.args.insn.now.operands _ no_operand (omega arith))))
