-- THEOREM 12: A REFUSAL CHANGES NOTHING.
-- A call of lift that answers more than 2 leaves the state and both lists as they were, from any state over any two lists.
use Rattle.std.specs.Prelude.{◌≡◌, refl, Bool, true, false, ℕ, leb}
use Rattle.std.proofs.lemmas.Bool.{false≢true}
use Rattle.lists.specs.Rows.{wrote}
use Rattle.lists.specs.Steps.{Built, ◌▸◌, gives}
use Rattle.forms.specs.declared.Instruction.{Instruction}
use Rattle.forms.specs.Classify.{Classified}
use Rattle.std.specs.Prelude.{Some, None, Ok, Err}
use Rattle.forms.specs.declared.BadInstruction.TheVariants as bad
use Rattle.forms.specs.Classify.{classify_of}
use Rattle.details.specs.Why.{why_of}
use Rattle.memory.specs.declared.Site.{Site}
use Rattle.memory.specs.Site.{site_of}
use Rattle.moves.specs.Pushes.{decline_x87_of}
use Rattle.lifter.specs.Lift.{lowered_of}
use Rattle.lifter.proofs.Answers.{apply-answers}
use Rattle.agreement.specs.Runs.{Held, answered, stepped, called}
use Rattle.agreement.proofs.Added.{by-lift}

-- What answers more leaves all as it was
abbrev Leaves : Held → Built → Type 0
Leaves h b = leb b.val 2 ≡ false → stepped h b ≡ h

gives-leaves : (h : Held) (r : ℕ) → Leaves h (gives h.st r)
unfolding stepped gives wrote
gives-leaves h r e = refl

never : {P : Type 0} {t : Bool} → t ≡ true → t ≡ false → P
never e h = let z : ◌≡◌ {A = Bool} false true = cc in absurd (false≢true z)

lowered-leaves : (h : Held) (c : Classified) (detail : ℕ) (site : Site) → Leaves h (lowered_of h.st c detail site)
unfolding lowered_of decline_x87_of gives ◌▸◌
lowered-leaves h (Ok (Some form)) detail site = never (apply-answers (λ (n : ℕ). leb n 2) refl refl h.st form site)
lowered-leaves h (Ok None) detail site = never refl
lowered-leaves h (Err bad.Text) detail site = gives-leaves h 3
lowered-leaves h (Err bad.Operands) detail site = gives-leaves h 4

pub refused : (h : Held) (i : Instruction) → leb (answered h i) 2 ≡ false → called h i ≡ h
unfolding called
refused h i = by-lift (Leaves h) h i (gives-leaves h 5) (gives-leaves h 6) (gives-leaves h 7) (λ _ _. lowered-leaves h (classify_of i) (why_of i) (site_of i))
