-- The sorts of what is lifted, form by form
use Rattle.std.specs.Prelude.{◌≡◌, Bool, true, false, cond, ◌&&◌, ℕ, zero, suc, ◌+◌, ◌*◌, ◌^◌, ◌≤◌, leb, ltb, eqb, get_or}
use Rattle.std.proofs.Math.Path.{refl}
use mathlib.Core.List.{List, [], ◌∷◌}
use Rattle.std.proofs.Common.{arith, leb-true, eq-eqb}
use Rattle.words.specs.Tests.{and_l, and_r}
use Rattle.sorts.specs.Sorts.{is_bits, is_stored}
use Rattle.lists.specs.Stack.{overflows, push_of}
use Rattle.lists.specs.declared.State.{State}
use Rattle.forms.specs.declared.MemFormat.{MemFormat}
use Rattle.forms.specs.declared.MemFormat.TheVariants.{Float, Integer}
use Rattle.forms.specs.declared.RoundingMode.{RoundingMode}
use Rattle.forms.specs.declared.ArithSrc.{ArithSrc}
use Rattle.forms.specs.declared.ArithSrc.TheVariants.{Slot, Memory}
use Rattle.forms.specs.declared.X87Arith.{X87Arith}
use Rattle.forms.specs.declared.X87Condition.{X87Condition}
use Rattle.forms.specs.declared.UnaryOp.{UnaryOp}
use Rattle.forms.specs.declared.Form.{Form}
use Rattle.forms.specs.declared.Form.TheVariants.{PushConst, PushMemory, PushSlot, StoreMemory, StoreSlot, Arith, CompareStatus, CompareFlags, ConditionalMove, StoreStatus, Exchange, Unary}
use Rattle.forms.specs.declared.Instruction.{Instruction}
use Rattle.forms.specs.Classify.{Classified}
use Rattle.std.specs.Prelude.{Some, None, Ok, Err}
use Rattle.forms.specs.declared.BadInstruction.TheVariants as bad
use Rattle.forms.specs.Classify.{classify_of}
use Rattle.details.specs.Why.{why_of}
use Rattle.exprs.specs.Formats.{format_of, is_image}
use Rattle.exprs.specs.Slots.{to_slot_of, from_slot_of}
use Rattle.memory.specs.Memory.{variable_of, read_operand_lowered_of, image_read_of, converted_of, x87_memory_read_of, source_of, write_dst_of, top_of, x87_store_memory_of, x87_store_status_of}
use Rattle.moves.specs.Moves.{dropped_times, dropped_if, ordered_of, x87_arith_of, x87_compare_status_of, x87_compare_flags_of, x87_conditional_move_of, x87_unary_of, store_slot_of}
use Rattle.moves.specs.Pushes.{decline_x87_of, land_of, push_const_of, push_slot_of, push_memory_of}
use Rattle.lifter.specs.Apply.{apply_x87_of}
use Rattle.lifter.specs.Lift.{lowered_of}
use Rattle.memory.specs.Site.{site_of}
use Rattle.agreement.specs.Demands.{is_wide, demanded}
use Rattle.agreement.specs.Fits.{memory_fits, is_memory, source_fits, form_fits, first_of, no_register}
use Rattle.agreement.specs.Fits.Classified.{classify-fits}
use Rattle.agreement.specs.Declines.{detail-listed}
use Rattle.agreement.proofs.Fine.{Placed, ◌has◌, Known, Knows, Fine, next, moved, either, by}
use Rattle.agreement.proofs.Fine.Nodes.{node, fresh-node, temporary-node, Says, statement, quiet, still}
use Rattle.agreement.proofs.Fine.Kinds.{bits-some, of_three, input, temporary, slot-var, fsw, konst, bool-or, ite, f-equal, f-less, bv-to-fp}
use Rattle.agreement.proofs.Fine.Stack.{havoc-placed, push-placed, drop-placed, read, write, pop, exchange}
use Rattle.agreement.proofs.Fine.Exprs.{extended-from-memory, extended-to-memory, float-to-slot, integer-to-slot, narrowed_float, narrowed-integer, extended-arith, unary, unordered, predicate, status-word}

-- The statements: each names a node as wide as its place
wide : (Γ : List ℕ) (v bits : ℕ) → is_bits bits ≡ true → get_or Γ v 0 ≡ bits → is_wide Γ v bits ≡ true
unfolding is_wide
wide Γ v bits b e = rw (b, e) (eq-eqb bits bits refl)

module _ {v bits : ℕ} (e : is_bits bits ≡ true) where
  load : {address : ℕ} → Says (v has bits ∷ []) 1 v address bits
  unfolding demanded Knows Known
  load = record { met = λ Γ h. wide Γ v bits e (h.0 (bits-some bits e)) }

  store : {address : ℕ} → Says (v has bits ∷ []) 2 address v bits
  unfolding demanded Knows Known
  store = record { met = λ Γ h. wide Γ v bits e (h.0 (bits-some bits e)) }

module _ {v : ℕ} where
  to-fsw : Says (v has 16 ∷ []) 3 v 0 0
  unfolding demanded Knows Known
  to-fsw = record { met = λ Γ h. rw (wide Γ v 16 refl (h.0 (λ z. omega arith))) }

  to-flag : {flag : ℕ} → leb flag 4 ≡ true → Says (v has 1 ∷ []) 4 flag v 0
  unfolding demanded Knows Known
  to-flag k = record { met = λ Γ h. rw (wide Γ v 1 refl (h.0 (λ z. omega arith)), k) }

  to-ax : Says (v has 16 ∷ []) 5 v 0 0
  unfolding demanded Knows Known
  to-ax = record { met = λ Γ h. rw (wide Γ v 16 refl (h.0 (λ z. omega arith))) }

-- Answer 1 with a detail, or answer 2 without
abbrev detailed : ℕ → ℕ → Bool
detailed why detail = cond (eqb why 1) (leb 21 detail && leb detail 25) (eqb why 2 && eqb detail 0)

declined : {why address detail : ℕ} → detailed why detail ≡ true → Says [] 6 why address detail
unfolding demanded
declined e = record { met = λ Γ h. rw e }

-- The widths that memory has
memory-width : (P : ℕ → Type 0) (width : ℕ) (format : MemFormat) → memory_fits width format ≡ true → P 16 → P 32 → P 64 → P 80 → P width
unfolding memory_fits
memory-width P width Float e p q r t = of_three P width 32 64 80 e q r t
memory-width P width Integer e p q r t = of_three P width 16 32 64 e p q r

stored : (width : ℕ) (format : MemFormat) → memory_fits width format ≡ true → is_stored width ≡ true
stored width format e = memory-width (λ (w : ℕ). is_stored w ≡ true) width format e refl refl refl refl

bits : (width : ℕ) (format : MemFormat) → memory_fits width format ≡ true → is_bits width ≡ true
bits width format e = memory-width (λ (w : ℕ). is_bits w ≡ true) width format e refl refl refl refl

-- What is read from memory
variable : (s : State) (slot width : ℕ) → is_stored width ≡ true → Fine s [] width (variable_of s slot width)
unfolding variable_of
variable s slot width e = either (eqb slot 0) (temporary-node (temporary e)) (node [] (slot-var e))

image-read : (s : State) (raw : ℕ) → Fine s (raw has 80 ∷ []) 79 (image_read_of s raw)
unfolding image_read_of
image-read s raw = next _ (by [] (fresh-node (input refl))) (λ s free. extended-from-memory s raw free)

converted : (s : State) (raw width : ℕ) (format : MemFormat) → memory_fits width format ≡ true → Fine s (raw has width ∷ []) 79 (converted_of s raw width format)
unfolding converted_of is_image to_slot_of memory_fits format_of
converted s raw width Float e =
    of_three (λ (w : ℕ). Fine s (raw has w ∷ []) 79 (converted_of s raw w Float)) width 32 64 80 e
    (float-to-slot s raw 32) (float-to-slot s raw 64) (image-read s raw)
converted s raw width Integer e = integer-to-slot s raw width e

-- A slot's pattern to memory
from-slot : (s : State) (value width : ℕ) (format : MemFormat) (r : RoundingMode) → memory_fits width format ≡ true
    → Fine s (value has 79 ∷ []) width (from_slot_of s value width format r)
unfolding from_slot_of is_image memory_fits format_of
from-slot s value width Float r e =
    of_three (λ (w : ℕ). Fine s (value has 79 ∷ []) w (from_slot_of s value w Float r)) width 32 64 80 e
    (narrowed_float s value 32 r) (narrowed_float s value 64 r) (extended-to-memory s value)
from-slot s value width Integer r e = narrowed-integer s value width r e

-- Drops at the end of a form
dropped-times : (k : ℕ) (Γ : List ℕ) (s : State) → Placed Γ s → Placed Γ (dropped_times k s)
unfolding dropped_times
dropped-times zero Γ s p = p
dropped-times (suc k) Γ s p = drop-placed Γ (dropped_times k s) (dropped-times k Γ s p)

dropped-if : (pop : Bool) (Γ : List ℕ) (s : State) → Placed Γ s → Placed Γ (dropped_if pop s)
unfolding dropped_if
dropped-if true Γ s p = drop-placed Γ s p
dropped-if false Γ s p = p

-- A decline
decline : (s : State) (why address detail : ℕ) → detailed why detail ≡ true → Fine s [] 0 (decline_x87_of s why address detail)
unfolding decline_x87_of
decline s why address detail e =
    moved (λ Γ p h. havoc-placed Γ s p) (next _ (statement [] (declined e)) (λ s _. still why [] (λ Γ p h. p)))

-- A push, which may overflow
land : (s : State) (value address : ℕ) → Fine s (value has 79 ∷ []) 0 (land_of s value address)
unfolding land_of Known Knows
land s value address =
    either (overflows s) (moved pushed (by [] (decline (push_of s value) 2 address 0 refl)))
    (still 0 (0 ∷ []) pushed)
  where
    pushed : (Γ : List ℕ) → Placed Γ s → Knows Γ (value has 79 ∷ []) → Placed Γ (push_of s value)
    pushed Γ p h = push-placed Γ s value (h.0 (λ z. omega arith)) p

module _ (i : Instruction) where
  -- A load, and what it gives as a slot's pattern
  load_read : (s : State) (width : ℕ) (format : MemFormat) → memory_fits width format ≡ true → Fine s [] width (read_operand_lowered_of s (site_of i) width)
  unfolding read_operand_lowered_of Knows
  load_read s width format e =
      next _ (variable s _ width (stored width format e)) (λ s v.
      next _ (statement (0 ∷ []) (load (bits width format e))) (λ s _.
      quiet (0 ∷ []) (record { placed = λ Γ p h. p; node = λ Γ p h. h.0 })))

  memory-read : (s : State) (width : ℕ) (format : MemFormat) → memory_fits width format ≡ true → Fine s [] 79 (x87_memory_read_of s (site_of i) width format)
  unfolding x87_memory_read_of
  memory-read s width format e = next _ (load_read s width format e) (λ s raw. converted s raw width format e)

  source : (s : State) (src : ArithSrc) → source_fits (first_of i) src ≡ true → Fine s [] 79 (source_of s (site_of i) src)
  unfolding source_of source_fits
  source s (Slot index) e = read s index (leb-true index 7 e)
  source s (Memory width format) e = memory-read s width format (and_l (memory_fits width format) _ e)

top : (s : State) (pop? : Bool) → Fine s [] 79 (top_of s pop?)
unfolding top_of
top s pop? = either pop? (pop s) (read s 0 (omega arith))

ordered : (s : State) (op : X87Arith) (a b : ℕ) (reversed : Bool) → Fine s (a has 79 ∷ b has 79 ∷ []) 79 (ordered_of s op a b reversed)
unfolding ordered_of
ordered s op a b reversed = either reversed (by (1 ∷ 0 ∷ []) (extended-arith s op b a)) (extended-arith s op a b)

module _ (i : Instruction) (s : State) where
  arith-fine : (op : X87Arith) (dst : ℕ) (src : ArithSrc) (reversed pop : Bool) → dst ≤ 7 → source_fits (first_of i) src ≡ true
      → Fine s [] 0 (x87_arith_of s (site_of i) op dst src reversed pop)
  unfolding x87_arith_of
  arith-fine op dst src reversed pop h e =
      next _ (read s dst h) (λ s a.
      next _ (by [] (source i s src e)) (λ s b.
      next _ (ordered s op a b reversed) (λ s v.
      next _ (by (2 ∷ []) (write s dst v)) (λ s _.
      still 0 [] (λ Γ p h. dropped-if pop Γ s p)))))

  compare-status : (src : ArithSrc) (pops : ℕ) → source_fits (first_of i) src ≡ true → Fine s [] 0 (x87_compare_status_of s (site_of i) src pops)
  unfolding x87_compare_status_of
  compare-status src pops e =
      next _ (read s 0 (omega arith)) (λ s top.
      next _ (node (0 ∷ []) (bv-to-fp refl)) (λ s a.
      next _ (by [] (source i s src e)) (λ s other.
      next _ (node (2 ∷ []) (bv-to-fp refl)) (λ s b.
      next _ (by (1 ∷ 3 ∷ []) (unordered s a b)) (λ s unordered.
      next _ (node (1 ∷ 3 ∷ []) f-equal) (λ s equal.
      next _ (node (1 ∷ 3 ∷ []) f-less) (λ s less.
      next _ (node (4 ∷ 6 ∷ []) bool-or) (λ s c0.
      next _ (node (4 ∷ 5 ∷ []) bool-or) (λ s c3.
      next _ (by (7 ∷ 4 ∷ 8 ∷ []) (status-word s c0 unordered c3)) (λ s status.
      next _ (statement (9 ∷ []) to-fsw) (λ s _.
      still 0 [] (λ Γ p h. dropped-times pops Γ s p))))))))))))

  store-memory : (width : ℕ) (format : MemFormat) (pop : Bool) (r : RoundingMode) → memory_fits width format ≡ true → is_memory (first_of i) width ≡ true
      → Fine s [] 0 (x87_store_memory_of s (site_of i) width format pop r)
  unfolding x87_store_memory_of write_dst_of
  store-memory width format pop r e f =
      next _ (top s pop) (λ s value.
      next _ (from-slot s value width format r e) (λ s stored.
      rw (no_register (first_of i) width f) (statement (1 ∷ []) (store (bits width format e)))))

  store-status : Fine s [] 0 (x87_store_status_of s (site_of i))
  unfolding x87_store_status_of write_dst_of
  store-status = next _ (node [] fsw) (λ s status. either (site_of i).register (statement (0 ∷ []) to-ax) (statement (0 ∷ []) (store refl)))

  push-const : (low high : ℕ) → ltb (high * 2 ^ 64 + low) (2 ^ 79) ≡ true → Fine s [] 0 (push_const_of s (site_of i) low high)
  unfolding push_const_of
  push-const low high e = next _ (node [] (konst e)) (λ s value. land s value i.address)

  push-slot : (index : ℕ) → index ≤ 7 → Fine s [] 0 (push_slot_of s (site_of i) index)
  unfolding push_slot_of
  push-slot index h = next _ (read s index h) (λ s value. land s value i.address)

  push-memory : (width : ℕ) (format : MemFormat) → memory_fits width format ≡ true → Fine s [] 0 (push_memory_of s (site_of i) width format)
  unfolding push_memory_of
  push-memory width format e = next _ (memory-read i s width format e) (λ s value. land s value i.address)

module _ (s : State) where
  compare-flags : (src : ℕ) (pop : Bool) → src ≤ 7 → Fine s [] 0 (x87_compare_flags_of s src pop)
  unfolding x87_compare_flags_of
  compare-flags src pop h =
      next _ (read s 0 (omega arith)) (λ s top.
      next _ (node (0 ∷ []) (bv-to-fp refl)) (λ s a.
      next _ (by [] (read s src h)) (λ s other.
      next _ (node (2 ∷ []) (bv-to-fp refl)) (λ s b.
      next _ (by (1 ∷ 3 ∷ []) (unordered s a b)) (λ s unordered.
      next _ (statement (4 ∷ []) (to-flag refl)) (λ s _.
      next _ (node (1 ∷ 3 ∷ []) f-equal) (λ s equal.
      next _ (node (4 ∷ 6 ∷ []) bool-or) (λ s zf.
      next _ (statement (7 ∷ []) (to-flag refl)) (λ s _.
      next _ (node (1 ∷ 3 ∷ []) f-less) (λ s less.
      next _ (node (4 ∷ 9 ∷ []) bool-or) (λ s cf.
      next _ (statement (10 ∷ []) (to-flag refl)) (λ s _.
      next _ (node [] (konst refl)) (λ s of.
      next _ (statement (12 ∷ []) (to-flag refl)) (λ s _.
      next _ (node [] (konst refl)) (λ s sf.
      next _ (statement (14 ∷ []) (to-flag refl)) (λ s _.
      still 0 [] (λ Γ p h. dropped-if pop Γ s p)))))))))))))))))

  conditional-move : (src : ℕ) (condition : X87Condition) → src ≤ 7 → Fine s [] 0 (x87_conditional_move_of s src condition)
  unfolding x87_conditional_move_of
  conditional-move src condition h =
      next _ (read s src h) (λ s taken.
      next _ (by [] (read s 0 (omega arith))) (λ s kept.
      next _ (by [] (predicate s condition)) (λ s holds.
      next _ (node (2 ∷ 0 ∷ 1 ∷ []) (ite refl)) (λ s v.
      by (3 ∷ []) (write s 0 v)))))

  unary-fine : (op : UnaryOp) → Fine s [] 0 (x87_unary_of s op)
  unfolding x87_unary_of
  unary-fine op = next _ (read s 0 (omega arith)) (λ s top. next _ (unary s op top) (λ s v. by (1 ∷ []) (write s 0 v)))

  store-slot : (index : ℕ) (pop : Bool) → Fine s [] 0 (store_slot_of s index pop)
  unfolding store_slot_of
  store-slot index pop =
      next _ (read s 0 (omega arith)) (λ s value. next _ (write s index value) (λ s _. still 0 [] (λ Γ p h. dropped-if pop Γ s p)))

-- EVERY FORM THAT FITS
pub apply-fine : (i : Instruction) (s : State) (form : Form) → form_fits (first_of i) form ≡ true → Fine s [] 0 (apply_x87_of s form (site_of i))
unfolding apply_x87_of form_fits
apply-fine i s (PushConst low high) e = push-const i s low high e
apply-fine i s (PushMemory width format) e = push-memory i s width format (and_l (memory_fits width format) _ e)
apply-fine i s (PushSlot index) e = push-slot i s index (leb-true index 7 e)
apply-fine i s (StoreMemory width format pop r) e =
    store-memory i s width format pop r (and_l (memory_fits width format) _ e) (and_r (memory_fits width format) _ e)
apply-fine i s (StoreSlot index pop) e = store-slot s index pop
apply-fine i s (Arith op dst src reversed pop) e =
    arith-fine i s op dst src reversed pop (leb-true dst 7 (and_l (leb dst 7) (source_fits (first_of i) src) e)) (and_r (leb dst 7) (source_fits (first_of i) src) e)
apply-fine i s (CompareStatus src pops) e = compare-status i s src pops e
apply-fine i s (CompareFlags src pop) e = compare-flags s src pop (leb-true src 7 e)
apply-fine i s (ConditionalMove src condition) e = conditional-move s src condition (leb-true src 7 e)
apply-fine i s StoreStatus e = store-status i s
apply-fine i s (Exchange index) e = exchange s index (leb-true index 7 e)
apply-fine i s (Unary op) e = unary-fine s op

-- EVERY INSTRUCTION, over lists of any length
pub lowered-fine : (i : Instruction) (s : State) → Fine s [] 0 (lowered_of s (classify_of i) (why_of i) (site_of i))
unfolding lowered_of
lowered-fine i s = way (classify_of i) refl
  where
    way : (c : Classified) → classify_of i ≡ c → Fine s [] 0 (lowered_of s c (why_of i) (site_of i))
    way (Ok (Some form)) e = apply-fine i s form (classify-fits i form e)
    way (Ok None) e = decline s 1 i.address (why_of i) (detail-listed i e)
    way (Err bad.Text) e = still 3 [] (λ Γ p h. p)
    way (Err bad.Operands) e = still 4 [] (λ Γ p h. p)
