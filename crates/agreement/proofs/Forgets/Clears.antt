-- A call that answers 1 or 2 leaves no place of the stack used
use Rattle.std.specs.Prelude.{◌≡◌, Bool, false, cond, ℕ, length}
use Rattle.std.proofs.Math.Path.{refl}
use Rattle.std.proofs.Math.Bool.{true}
use Rattle.std.proofs.Common.{arith}
use Rattle.lists.specs.Rows.{room_of}
use Rattle.lists.specs.Steps.{Built, ◌▸◌, gives}
use Rattle.lists.specs.Nodes.{statement_of}
use Rattle.lists.specs.Stack.{havoc_of, overflows, push_of, write_of, exchange_of}
use Rattle.lists.specs.Valid.{valid_of}
use Rattle.lists.specs.declared.State.{State}
use Rattle.forms.specs.declared.Form.{Form}
use Rattle.forms.specs.declared.Form.TheVariants.{PushConst, PushMemory, PushSlot, StoreMemory, StoreSlot, Arith, CompareStatus, CompareFlags, ConditionalMove, StoreStatus, Exchange, Unary}
use Rattle.forms.specs.declared.Instruction.{Instruction}
use Rattle.forms.specs.Classify.{Classified}
use Rattle.std.specs.Prelude.{Some, None, Ok, Err}
use Rattle.forms.specs.declared.BadInstruction.TheVariants as bad
use Rattle.forms.specs.Classify.{classify_of}
use Rattle.details.specs.Why.{why_of}
use Rattle.memory.specs.Memory.{write_dst_of, x87_store_memory_of, x87_store_status_of}
use Rattle.moves.specs.Moves.{x87_arith_of, x87_compare_status_of, x87_compare_flags_of, x87_conditional_move_of, x87_unary_of, store_slot_of}
use Rattle.moves.specs.Pushes.{decline_x87_of, land_of, push_const_of, push_slot_of, push_memory_of}
use Rattle.lifter.specs.Apply.{apply_x87_of}
use Rattle.lifter.specs.Lift.{lowered_of}
use Rattle.memory.specs.Site.{site_of}
use Rattle.agreement.specs.Runs.{Held, declines, answered, stepped, called}
use Rattle.agreement.proofs.Added.{by-lift}

-- Where a step's answer is a decline, no place is used
abbrev Clears : Built → Type 0
Clears b = declines b.val ≡ true → b.st.depth ≡ 0

never : {P : Type 0} → ◌≡◌ {A = Bool} false true → P
never e = let z : ◌≡◌ {A = ℕ} 0 1 = cc in absurd (none z)
  where
    none : ◌≡◌ {A = ℕ} 0 1 → ⊥
    none z = omega arith

land-clears : (s : State) (value address : ℕ) → Clears (land_of s value address)
unfolding land_of decline_x87_of statement_of havoc_of gives ◌▸◌
land-clears s value address = way (overflows s)
  where
    way : (t : Bool) → Clears (cond t (decline_x87_of (push_of s value) 2 address 0) (gives (push_of s value) 0))
    way true e = refl
    way false e = never e

write-clears : (i : Instruction) (s : State) (value bits : ℕ) → Clears (write_dst_of s (site_of i) value bits)
unfolding write_dst_of statement_of
write-clears i s value bits = way (site_of i).register
  where
    way : (t : Bool) → Clears (cond t (statement_of s 5 value 0 0) (statement_of s 2 (site_of i).memory value bits))
    way true e = never e
    way false e = never e

module _ (i : Instruction) (s : State) where
  -- Only a push answers other than 0
  apply-clears : (form : Form) → Clears (apply_x87_of s form (site_of i))
  unfolding apply_x87_of push_const_of push_memory_of push_slot_of x87_store_memory_of store_slot_of x87_arith_of x87_compare_status_of x87_compare_flags_of x87_conditional_move_of x87_store_status_of exchange_of x87_unary_of write_of gives ◌▸◌
  apply-clears (PushConst low high) = land-clears _ _ _
  apply-clears (PushMemory width format) = land-clears _ _ _
  apply-clears (PushSlot index) = land-clears _ _ _
  apply-clears (StoreMemory width format pop rounding) = write-clears i _ _ _
  apply-clears (StoreSlot index pop) = never
  apply-clears (Arith op dst src reversed pop) = never
  apply-clears (CompareStatus src pops) = never
  apply-clears (CompareFlags src pop) = never
  apply-clears (ConditionalMove src condition) = never
  apply-clears StoreStatus = write-clears i _ _ _
  apply-clears (Exchange index) = never
  apply-clears (Unary op) = never

  lowered-clears : (c : Classified) → Clears (lowered_of s c (why_of i) (site_of i))
  unfolding lowered_of decline_x87_of statement_of havoc_of gives ◌▸◌
  lowered-clears (Ok (Some form)) = apply-clears form
  lowered-clears (Ok None) = λ e. refl
  lowered-clears (Err bad.Text) = never
  lowered-clears (Err bad.Operands) = never

module _ (i : Instruction) (h : Held) where
  pub decline-clears : declines (answered h i) ≡ true → (called h i).st.depth ≡ 0
  unfolding called stepped gives
  decline-clears = by-lift Clears h i never never never (λ _ _. lowered-clears i h.st (classify_of i))

  -- Nor is a state declined that is not valid
  pub decline-valid : declines (answered h i) ≡ true → valid_of h.st (room_of (length h.nodes)) (room_of (length h.statements)) ≡ true
  unfolding gives
  decline-valid =
      by-lift (λ (b : Built). declines b.val ≡ true → valid_of h.st (room_of (length h.nodes)) (room_of (length h.statements)) ≡ true) h i never never never (λ v _ _. v)
