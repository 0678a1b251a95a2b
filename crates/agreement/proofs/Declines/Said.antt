-- What the statement of a decline says is what the call gives beside its answer
use Rattle.std.proofs.Math.Path.{◌≡◌, refl}
use Rattle.std.proofs.Common.{arith}
use Rattle.std.specs.Prelude.{Bool, cond, [], ◌∷◌, ℕ, ◌≤◌, eqb}
use Rattle.std.proofs.Math.Bool.{true, false}
use Rattle.std.proofs.lemmas.Bool.{false≢true}
use Rattle.lists.specs.Rows.{row}
use Rattle.lists.specs.Steps.{Built, ◌▸◌, gives}
use Rattle.lists.specs.Nodes.{statement_of}
use Rattle.lists.specs.Stack.{havoc_of}
use Rattle.forms.specs.Classify.{classify_of}
use Rattle.forms.specs.declared.Instruction.{Instruction}
use Rattle.forms.specs.Classify.{Classified}
use Rattle.std.specs.Prelude.{Some, None, Ok, Err}
use Rattle.forms.specs.declared.BadInstruction.TheVariants as bad
use Rattle.details.specs.Why.{why_of, detail_of}
use Rattle.memory.specs.Site.{site_of}
use Rattle.moves.specs.Pushes.{decline_x87_of}
use Rattle.lifter.specs.Lift.{lowered_of, lift_of}
use Rattle.lifter.proofs.Answers.{apply-answers}
use Rattle.agreement.specs.Runs.{Held, answered}
use Rattle.agreement.proofs.Added.{by-lift}

module _ (h : Held) (i : Instruction) where
  -- A step that answers 1 adds the one statement of a decline, with the detail
  abbrev Says : Built → Type 0
  Says b = b.val ≡ 1 → b.ss ≡ row h.st.statements 6 1 i.address (why_of i) ∷ []

  refused : (r : ℕ) → 3 ≤ r → Says (gives h.st r)
  unfolding gives
  refused r k e = absurd (omega arith)

  other : ℕ → Bool
  other n = cond (eqb n 1) false true

  not-other : (n : ℕ) → n ≡ 1 → other n ≡ false
  unfolding other
  not-other n e = rw e

  lowered : (c : Classified) → Says (lowered_of h.st c (why_of i) (site_of i))
  unfolding lowered_of decline_x87_of statement_of havoc_of gives other ◌▸◌
  lowered (Ok (Some form)) e = let z : ◌≡◌ {A = Bool} false true = rw (not-other _ e) at (apply-answers other refl refl h.st form (site_of i)) in absurd (false≢true z)
  lowered (Ok None) e = refl
  lowered (Err bad.Text) e = refused 3 (omega arith) e
  lowered (Err bad.Operands) e = refused 4 (omega arith) e

  -- THE STATEMENT
  pub says : answered h i ≡ 1 → (lift_of h.st i h.nodes h.statements).ss ≡ row h.st.statements 6 1 i.address (detail_of (answered h i) i) ∷ []
  unfolding detail_of
  says e = rw e (by-lift Says h i (refused 5 (omega arith)) (refused 6 (omega arith)) (refused 7 (omega arith)) (λ _ _. lowered (classify_of i)) e)
