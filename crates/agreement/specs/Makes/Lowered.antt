-- What every instruction makes: beside the effect that `x87_effect` gives of it, and of its first operand
use Rattle.std.specs.Prelude.{◌≡◌, refl, false, eqb}
use Rattle.lists.specs.declared.State.{State}
use Rattle.forms.specs.declared.Instruction.{Instruction}
use Rattle.forms.specs.declared.Effect.{Effect}
use Rattle.forms.specs.Effects.{Affected}
use Rattle.std.specs.Prelude.{Some, None, Ok, Err}
use Rattle.forms.specs.declared.BadInstruction.TheVariants as bad
use Rattle.forms.specs.Classify.{Classified}
use Rattle.forms.specs.Classify.{classify_of}
use Rattle.details.specs.Why.{why_of}
use Rattle.forms.specs.Effects.{affected_of, effect_of}
use Rattle.memory.specs.Site.{site_of}
use Rattle.lifter.specs.Lift.{lowered_of}
use Rattle.agreement.specs.Fits.{first_of}
use Rattle.agreement.specs.Fits.Classified.{classify-fits}
use Rattle.agreement.specs.Makes.{Makes, self, nothing}
use Rattle.agreement.specs.Makes.Forms.{apply-makes, decline}

-- Nothing is touched
abbrev pub untouched : Effect
untouched =
    record { defines_stack = false; defines_status = false; uses_stack = false; uses_status = false; defines_flags = false; reads_flags = false; writes_ax = false }

-- What an answer says of the effect; beside a decline and a refusal, nothing
abbrev pub effect_said : Affected → Effect
effect_said (Ok (Some e)) = e
effect_said (Ok None) = untouched
effect_said (Err bad.Text) = untouched
effect_said (Err bad.Operands) = untouched

pub lowered-makes : (i : Instruction) (s : State) → Makes (effect_said (effect_of i)) (first_of i) s (lowered_of s (classify_of i) (why_of i) (site_of i))
unfolding lowered_of effect_of
lowered-makes i s = way (classify_of i) refl
  where
    way : (c : Classified) → classify_of i ≡ c → Makes (effect_said (affected_of c (eqb (first_of i).kind 0))) (first_of i) s (lowered_of s c (why_of i) (site_of i))
    way (Ok (Some form)) e = apply-makes (first_of i) (site_of i) refl refl s form (classify-fits i form e)
    way (Ok None) e = decline s 1 i.address (why_of i)
    way (Err bad.Text) e = nothing 3 self
    way (Err bad.Operands) e = nothing 4 self
