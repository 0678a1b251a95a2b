-- THEOREM 10: A LOAD IS OF THE OPERAND, AND SO IS A STORE.
-- Each statement of kind 1 or 2 that a call adds has the address number and the width of the instruction's operand, which is memory,
-- whatever was lifted before, from any state over any two lists, and whatever is lifted after it.
use Rattle.std.specs.Prelude.{◌≡◌, true, ◌&&◌, List, ℕ, ◌+◌, ◌*◌, ◌≤◌, ◌<◌, eqb}
use Rattle.std.proofs.Common.{sym, arith, eqb-true}
use Rattle.words.specs.Tests.{and_l, and_r}
use Rattle.lists.specs.Steps.{gives}
use Rattle.forms.specs.declared.Instruction.{Instruction}
use Rattle.forms.specs.declared.Operand.{Operand}
use Rattle.sorts.specs.Lists.{field}
use Rattle.agreement.specs.Runs.{Held, stepped, called, ran}
use Rattle.agreement.specs.Demands.{kind_at}
use Rattle.agreement.specs.Fits.{first_of, is_memory}
use Rattle.agreement.specs.Laid.{each_row}
use Rattle.agreement.specs.Makes.{of_operand}
use Rattle.agreement.specs.Makes.Lowered.{lowered-makes}
use Rattle.agreement.proofs.Added.{by_call}
use Rattle.agreement.proofs.Counted.{since}
use Rattle.agreement.specs.Widths.{OfOperand}

-- The test says so
tested : (o : Operand) (a c : ℕ) → (is_memory o c && eqb a o.address) ≡ true → (o.kind ≡ 1) × (a ≡ o.address) × (c ≡ o.width)
unfolding is_memory
tested o a c e =
    let m = and_l (is_memory o c) (eqb a o.address) e in (
      eqb-true _ _ (and_l (eqb o.kind 1) (eqb o.width c) m),
      eqb-true _ _ (and_r (is_memory o c) (eqb a o.address) e),
      sym (eqb-true _ _ (and_r (eqb o.kind 1) (eqb o.width c) m)),
    )

of-operand : (o : Operand) (w : List ℕ) (j : ℕ) → of_operand o (kind_at w j) (field w j 1) (field w j 2) (field w j 3) ≡ true → OfOperand o w j
unfolding of_operand
of-operand o w j e =
    record {
      load = λ k. tested o (field w j 2) (field w j 3) (rw k at e);
      store = λ k. tested o (field w j 1) (field w j 3) (rw k at e);
    }

-- The statements that a call adds
abbrev AddsOf : Operand → Held → Held → Type 0
AddsOf o h d = (j : ℕ) → h.st.statements ≤ j → j < d.st.statements → OfOperand o d.statements j

call-widths : (h : Held) (i : Instruction) → AddsOf (first_of i) h (called h i)
unfolding stepped gives
call-widths h i =
    by_call (AddsOf (first_of i) h) h i (λ r j x y. absurd (none j x y)) (λ w j x y.
    of-operand (first_of i) _ j (each_row (of_operand (first_of i)) _ _ h.st.statements w.rows' (lowered-makes i h.st).operand j x (omega (arith, w.counts'))))
  where
    none : (j : ℕ) → h.st.statements ≤ j → j < h.st.statements → ⊥
    none j x y = omega arith

-- THE THEOREM: statement j, which the call on i adds, in what any later calls leave
pub widths : (h : Held) (i : Instruction) (later : List Instruction) (j : ℕ) → h.st.statements ≤ j → j < (called h i).st.statements
    → OfOperand (first_of i) (ran (called h i) later).statements j
widths h i later j x y =
    let d = called h i in
    let k = (since d later).kept' in
    let o = call-widths h i j x y in
    record {
      load = λ e. rw (k (4 * j + 2) (omega arith), k (4 * j + 3) (omega arith)) (o.load (rw (k (4 * j) (omega arith)) at e));
      store = λ e. rw (k (4 * j + 1) (omega arith), k (4 * j + 3) (omega arith)) (o.store (rw (k (4 * j) (omega arith)) at e));
    }
