-- What an instruction answers: a form 0 or 2, and 1 is a decline's alone
use mathlib.Core.Path.{◌≡◌, refl, ap, ◌∙◌}
use mathlib.Core.Bool.{Bool, true, false, cond, false≢true}
use mathlib.Core.List.{List}
use Prim.Native.Nat.{ℕ}
use lib.Dec.{eqb, leb}
use Rattle.std.specs.Prelude.{Result}
use lib.ListN.{length}
use Rattle.lists.specs.Rows.{room_of}
use Rattle.lists.specs.Steps.{Built, ◌▸◌, gives}
use Rattle.lists.specs.Valid.{valid_of}
use Rattle.lists.specs.Nodes.{statement_of}
use Rattle.lists.specs.Stack.{write_of, overflows, push_of, exchange_of}
use Rattle.lists.specs.declared.State.{State}
use Rattle.lists.specs.declared.LiftCtx.{LiftCtx}
use Rattle.forms.specs.declared.Form.{Form}
use Rattle.forms.specs.declared.Form.TheVariants.{PushConst, PushMemory, PushSlot, StoreMemory, StoreSlot, Arith, CompareStatus, CompareFlags, ConditionalMove, StoreStatus, Exchange, Unary}
use Rattle.forms.specs.Classify.{Classified}
use Rattle.std.specs.Prelude.{Some, None, Ok, Err}
use Rattle.forms.specs.declared.BadInstruction.TheVariants as bad
use Rattle.forms.specs.declared.Instruction.{Instruction}
use Rattle.forms.specs.Classify.{classify_of}
use Rattle.details.specs.Why.{why_of, detail_for, beside_of, detail_of, reason_for}
use Rattle.memory.specs.declared.Site.{Site}
use Rattle.memory.specs.Site.{site_of}
use Rattle.memory.specs.Memory.{write_dst_of, x87_store_memory_of, x87_store_status_of}
use Rattle.moves.specs.Moves.{x87_arith_of, x87_compare_status_of, x87_compare_flags_of, x87_conditional_move_of, x87_unary_of, store_slot_of}
use Rattle.moves.specs.Pushes.{decline_x87_of, land_of, push_const_of, push_slot_of, push_memory_of}
use Rattle.lifter.specs.Apply.{apply_x87_of}
use Rattle.lifter.specs.Lift.{lowered_of, fitting_of, placed_of, lift_of, Lowers, Lifts}
use Rattle.lifter.specs.declared.Lifted.{Lifted}
use Rattle.lifter.specs.declared.Refusal.{Refusal}

-- The answer passes a test that 0 and 2 pass
module _ (test : ℕ → Bool) (zero-so : test 0 ≡ true) (two-so : test 2 ≡ true) where
  abbrev Answers : Built → Type 0
  Answers b = test b.val ≡ true

  either : (t : Bool) (a b : Built) → Answers a → Answers b → Answers (cond t a b)
  either true a b p q = p
  either false a b p q = q

  land-answers : (s : State) (value address : ℕ) → Answers (land_of s value address)
  unfolding land_of decline_x87_of gives ◌▸◌
  land-answers s value address = either (overflows s) (decline_x87_of (push_of s value) 2 address 0) (gives (push_of s value) 0) two-so zero-so

  write-answers : (s : State) (site : Site) (value bits : ℕ) → Answers (write_dst_of s site value bits)
  unfolding write_dst_of statement_of
  write-answers s site value bits = either site.register (statement_of s 5 value 0 0) (statement_of s 2 site.memory value bits) zero-so zero-so

  pub apply-answers : (s : State) (form : Form) (site : Site) → test (apply_x87_of s form site).val ≡ true
  unfolding apply_x87_of push_const_of push_memory_of push_slot_of x87_store_memory_of store_slot_of x87_arith_of x87_compare_status_of x87_compare_flags_of x87_conditional_move_of x87_store_status_of exchange_of x87_unary_of write_of gives ◌▸◌
  apply-answers s (PushConst low high) site = land-answers _ _ _
  apply-answers s (PushMemory width format) site = land-answers _ _ _
  apply-answers s (PushSlot index) site = land-answers _ _ _
  apply-answers s (StoreMemory width format pop rounding) site = write-answers _ site _ _
  apply-answers s (StoreSlot index pop) site = zero-so
  apply-answers s (Arith op dst src reversed pop) site = zero-so
  apply-answers s (CompareStatus src pops) site = zero-so
  apply-answers s (CompareFlags src pop) site = zero-so
  apply-answers s (ConditionalMove src condition) site = zero-so
  apply-answers s StoreStatus site = write-answers _ site _ _
  apply-answers s (Exchange index) site = zero-so
  apply-answers s (Unary op) site = zero-so

-- The detail beside an answer of `classify` is all that is looked at
pub detailed : (s : State) (c : Classified) (insn : Instruction) (site : Site) → lowered_of s c (detail_for c insn) site ≡ lowered_of s c (why_of insn) site
unfolding lowered_of detail_for reason_for why_of
detailed s (Ok (Some form)) insn site = refl
detailed s (Ok None) insn site = refl
detailed s (Err bad.Text) insn site = refl
detailed s (Err bad.Operands) insn site = refl

-- An answer that is not 1 has no detail beside it, whatever is offered
not-one : ℕ → Bool
not-one n = cond (eqb n 1) false true

silent : (answer v w : ℕ) → not-one answer ≡ true → beside_of answer v ≡ beside_of answer w
unfolding not-one
silent answer v w = way (eqb answer 1)
  where
    way : (t : Bool) → cond t false true ≡ true → cond t v 0 ≡ cond t w 0
    way true h = absurd (false≢true h)
    way false h = refl

module _ (s : State) (n m : List ℕ) where
  -- so it is of what does not answer 1, also where it does not fit
  placed-other : (c : Classified) (d : ℕ) (site : Site) → not-one (lowered_of s c d site).val ≡ true → not-one (placed_of s c d site n m).val ≡ true
  unfolding fitting_of gives not-one
  placed-other c d site h = way (valid_of s (room_of (length n)) (room_of (length m))) (leb b.st.nodes (room_of (length n))) (leb b.st.statements (room_of (length m)))
    where
      b : Built
      b = lowered_of s c d site

      way : (v t u : Bool) → not-one (cond v (cond t (cond u b (gives s 7)) (gives s 6)) (gives s 5)).val ≡ true
      way true true true = h
      way true true false = refl
      way true false u = refl
      way false t u = refl

  placed-silent : (c : Classified) (d : ℕ) (site : Site) (v : ℕ) → not-one (lowered_of s c d site).val ≡ true → beside_of (placed_of s c d site n m).val v ≡ beside_of (placed_of s c d site n m).val d
  placed-silent c d site v h = silent (placed_of s c d site n m).val v d (placed-other c d site h)

  -- THE DETAIL BESIDE A LIFT: what `classify` has beside its answer is told where the lift answers 1
  told : (c : Classified) (insn : Instruction) (site : Site)
      → beside_of (placed_of s c (why_of insn) site n m).val (detail_for c insn) ≡ beside_of (placed_of s c (why_of insn) site n m).val (why_of insn)
  unfolding lowered_of gives detail_for reason_for why_of not-one
  told (Ok (Some form)) insn site = placed-silent (Ok (Some form)) (why_of insn) site 0 (apply-answers not-one refl refl s form site)
  told (Ok None) insn site = refl
  told (Err bad.Text) insn site = placed-silent (Err bad.Text) (why_of insn) site 0 refl
  told (Err bad.Operands) insn site = placed-silent (Err bad.Operands) (why_of insn) site 0 refl

  pub lift-told : (insn : Instruction) → beside_of (lift_of s insn n m).val (detail_for (classify_of insn) insn) ≡ detail_of (lift_of s insn n m).val insn
  unfolding lift_of detail_of
  lift-told insn = told (classify_of insn) insn (site_of insn)

  -- WHAT IS CLASSIFIED FIRST is lifted as the instruction
  pub placed-lift : (insn : Instruction) → placed_of s (classify_of insn) (detail_for (classify_of insn) insn) (site_of insn) n m ≡ lift_of s insn n m
  unfolding lift_of
  placed-lift insn = rw (detailed s (classify_of insn) insn (site_of insn))

  pub lifted : (insn : Instruction) (c : Classified) (d : ℕ) (site : Site) → c ≡ classify_of insn → d ≡ detail_for c insn → site ≡ site_of insn → {l l' : LiftCtx} {r : Result Lifted Refusal}
      → Lowers (placed_of s c d site n m) d l l' r → Lifts (lift_of s insn n m) insn l l' r
  lifted insn c d site p q e x =
      let f = q ∙ ap (λ (c : Classified). detail_for c insn) p in
      let y = rw (f, p, e, placed-lift insn) at x.does in
      record { does = y; detail-is = rw f at x.detail-is ∙ rw y.number (lift-told insn) }
