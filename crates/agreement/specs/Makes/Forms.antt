-- What each form makes: beside the effect that is said of it, and of the operand that it fits
use Rattle.std.specs.Prelude.{◌≡◌, Bool, ◌||◌, leb, ltb, eqb}
use Rattle.std.proofs.Math.Path.{refl}
use Rattle.std.proofs.Math.Bool.{true, false}
use Rattle.std.proofs.lemmas.Bool.{false≢true}
use Prim.Native.Nat.{ℕ, zero, suc, ◌+◌, ◌-◌}
use Rattle.std.proofs.Common.{eq-eqb}
use Rattle.words.specs.Tests.{and_r}
use Rattle.lists.specs.Steps.{◌▸◌, gives}
use Rattle.lists.specs.Nodes.{node_of, fresh_of, input_counted}
use Rattle.lists.specs.Stack.{havoc_of, grown, bottom_of, lowered, ensure_of, kept, read_of, write_of, overflows, push_of, drop_top_of, pop_of, exchange_of}
use Rattle.lists.specs.declared.State.{State}
use Rattle.forms.specs.declared.MemFormat.{MemFormat}
use Rattle.forms.specs.declared.MemFormat.TheVariants.{Float, Integer}
use Rattle.forms.specs.declared.RoundingMode.{RoundingMode}
use Rattle.forms.specs.declared.ArithSrc.{ArithSrc}
use Rattle.forms.specs.declared.ArithSrc.TheVariants.{Slot, Memory}
use Rattle.forms.specs.declared.X87Arith.{X87Arith}
use Rattle.forms.specs.declared.X87Arith.TheVariants.{Add, Sub, Mul, Div}
use Rattle.forms.specs.declared.UnaryOp.{UnaryOp}
use Rattle.forms.specs.declared.UnaryOp.TheVariants.{Abs, Chs, Sqrt, RoundToIntegral}
use Rattle.forms.specs.declared.X87Condition.{X87Condition}
use Rattle.forms.specs.declared.X87Condition.TheVariants.{Below, Equal, BelowOrEqual, Unordered, NotBelow, NotEqual, NotBelowOrEqual, NotUnordered}
use Rattle.forms.specs.declared.Form.{Form}
use Rattle.forms.specs.declared.Form.TheVariants.{PushConst, PushMemory, PushSlot, StoreMemory, StoreSlot, Arith, CompareStatus, CompareFlags, ConditionalMove, StoreStatus, Exchange, Unary}
use Rattle.forms.specs.declared.Operand.{Operand}
use Rattle.forms.specs.declared.Effect.{Effect}
use Rattle.forms.specs.Effects.{touched_of}
use Rattle.exprs.specs.Formats.{arith_kind_of, is_image}
use Rattle.exprs.specs.Slots.{float_to_slot_of, integer_to_slot_of, to_slot_of, narrowed_of, from_slot_of}
use Rattle.exprs.specs.Image.{extended_from_memory_of, extended_to_memory_of}
use Rattle.exprs.specs.Operations.{extended_arith_of, unary_of, unordered_of, flag_is_of, predicate_of}
use Rattle.exprs.specs.Status.{x87_status_word_of}
use Rattle.memory.specs.declared.Site.{Site}
use Rattle.memory.specs.Memory.{variable_of, read_operand_lowered_of, image_read_of, converted_of, x87_memory_read_of, source_of, write_dst_of, top_of, x87_store_memory_of, x87_store_status_of}
use Rattle.moves.specs.Moves.{dropped_times, dropped_if, ordered_of, x87_arith_of, x87_compare_status_of, x87_compare_flags_of, x87_conditional_move_of, x87_unary_of, store_slot_of}
use Rattle.moves.specs.Pushes.{decline_x87_of, land_of, push_const_of, push_slot_of, push_memory_of}
use Rattle.lifter.specs.Apply.{apply_x87_of}
use Rattle.agreement.specs.Fits.{is_memory, memory_fits, source_fits, form_fits, no_register}
use Rattle.agreement.specs.Laid.{over}
use Rattle.agreement.specs.Makes.{Once, covered_node, covered_statement, of_operand, Makes, Same, self, same-either, next, either, from-same, expression, nothing, fresh-makes, temporary-makes, node, statement}

-- The stack's moves keep the counts
grown-same : (s : State) (v : ℕ) → Same s (grown s v)
unfolding grown
grown-same s v = same-either (ltb s.depth 8) (record { inputs = refl; temporaries = refl }) self

kept_same : (s : State) (i v : ℕ) → Same s (kept s i v)
unfolding kept
kept_same s i v = same-either (leb i 7) (record { inputs = refl; temporaries = refl }) self

havoc-same : (s : State) → Same s (havoc_of s)
unfolding havoc_of
havoc-same s = record { inputs = refl; temporaries = refl }

push-same : (s : State) (v : ℕ) → Same s (push_of s v)
unfolding push_of
push-same s v = same-either (overflows s) (havoc-same s) (record { inputs = refl; temporaries = refl })

drop-same : (s : State) → Same s (drop_top_of s)
unfolding drop_top_of
drop-same s = record { inputs = refl; temporaries = refl }

times-same : (k : ℕ) (s : State) → Same s (dropped_times k s)
unfolding dropped_times drop_top_of
times-same zero s = self
times-same (suc k) s = let p = times-same k s in record { inputs = p.inputs; temporaries = p.temporaries }

if-same : (pop : Bool) (s : State) → Same s (dropped_if pop s)
unfolding dropped_if
if-same pop s = same-either pop (drop-same s) self

module _ {e : Effect} {o : Operand} where
  lowered-makes : (k : ℕ) (s : State) → Makes e o s (lowered k s)
  unfolding lowered bottom_of
  lowered-makes zero s = nothing 0 self
  lowered-makes (suc k) s = next _ (next _ (fresh-makes s 79) (λ t v. nothing 0 (grown-same t v))) (λ t v. lowered-makes k t)

  ensure : (s : State) (i : ℕ) → Makes e o s (ensure_of s i)
  unfolding ensure_of
  ensure s i = either (leb i 7) (lowered-makes (i + 1 - s.depth) s) (nothing 0 self)

  pub read : (s : State) (i : ℕ) → Makes e o s (read_of s i)
  unfolding read_of
  read s i = next _ (ensure s i) (λ t v. nothing _ self)

  write : (s : State) (i v : ℕ) → Makes e o s (write_of s i v)
  unfolding write_of
  write s i v = next _ (ensure s i) (λ t u. nothing 0 (kept_same t i v))

  exchange : (s : State) (i : ℕ) → Makes e o s (exchange_of s i)
  unfolding exchange_of
  exchange s i = next _ (read s 0) (λ s a. next _ (read s i) (λ s b. next _ (write s 0 b) (λ s _. write s i a)))

  top : (s : State) (pop : Bool) → Makes e o s (top_of s pop)
  unfolding top_of pop_of
  top s pop = either pop (next _ (read s 0) (λ s v. nothing v (drop-same s))) (read s 0)

  -- The expressions: rows of other kinds, but for the free input of a status word
  from-memory : (s : State) (image free : ℕ) → Makes e o s (extended_from_memory_of s image free)
  unfolding extended_from_memory_of node_of ◌▸◌ Once over covered_node
  from-memory s image free = expression refl refl refl refl

  to-memory : (s : State) (pattern : ℕ) → Makes e o s (extended_to_memory_of s pattern)
  unfolding extended_to_memory_of node_of ◌▸◌ Once over covered_node
  to-memory s pattern = expression refl refl refl refl

  to-slot : (s : State) (raw width : ℕ) (format : MemFormat) → Makes e o s (to_slot_of s raw width format)
  unfolding to_slot_of float_to_slot_of integer_to_slot_of node_of ◌▸◌ Once over covered_node
  to-slot s raw width Float = expression refl refl refl refl
  to-slot s raw width Integer = expression refl refl refl refl

  narrowed : (s : State) (value width : ℕ) (format : MemFormat) (r : RoundingMode) → Makes e o s (narrowed_of s value width format r)
  unfolding narrowed_of node_of ◌▸◌ Once over covered_node
  narrowed s value width Float r = expression refl refl refl refl
  narrowed s value width Integer r = expression refl refl refl refl

  from-slot : (s : State) (value width : ℕ) (format : MemFormat) (r : RoundingMode) → Makes e o s (from_slot_of s value width format r)
  unfolding from_slot_of
  from-slot s value width format r = either (is_image width format) (to-memory s value) (narrowed s value width format r)

  arith-makes : (s : State) (op : X87Arith) (a b : ℕ) → Makes e o s (extended_arith_of s op a b)
  unfolding extended_arith_of arith_kind_of node_of ◌▸◌ Once over covered_node
  arith-makes s Add a b = expression refl refl refl refl
  arith-makes s Sub a b = expression refl refl refl refl
  arith-makes s Mul a b = expression refl refl refl refl
  arith-makes s Div a b = expression refl refl refl refl

  unary : (s : State) (op : UnaryOp) (top : ℕ) → Makes e o s (unary_of s op top)
  unfolding unary_of node_of ◌▸◌ Once over covered_node
  unary s Abs top = expression refl refl refl refl
  unary s Chs top = expression refl refl refl refl
  unary s Sqrt top = expression refl refl refl refl
  unary s RoundToIntegral top = expression refl refl refl refl

  unordered : (s : State) (a b : ℕ) → Makes e o s (unordered_of s a b)
  unfolding unordered_of node_of ◌▸◌ Once over covered_node
  unordered s a b = expression refl refl refl refl

  status-word : (s : State) (c0 c2 c3 : ℕ) → Makes e o s (x87_status_word_of s c0 c2 c3)
  unfolding x87_status_word_of fresh_of node_of input_counted ◌▸◌ gives Once over covered_node
  status-word s c0 c2 c3 = expression (refl, refl) refl refl refl

  -- A condition reads flags
  predicate : (s : State) (condition : X87Condition) → e.reads_flags ≡ true → Makes e o s (predicate_of s condition)
  unfolding predicate_of flag_is_of node_of ◌▸◌ Once over covered_node
  predicate s Below h = expression refl refl (rw h) refl
  predicate s Equal h = expression refl refl (rw h) refl
  predicate s BelowOrEqual h = expression refl refl (rw h) refl
  predicate s Unordered h = expression refl refl (rw h) refl
  predicate s NotBelow h = expression refl refl (rw h) refl
  predicate s NotEqual h = expression refl refl (rw h) refl
  predicate s NotBelowOrEqual h = expression refl refl (rw h) refl
  predicate s NotUnordered h = expression refl refl (rw h) refl

  -- A decline, and a push that may overflow
  pub decline : (s : State) (why address detail : ℕ) → Makes e o s (decline_x87_of s why address detail)
  unfolding decline_x87_of covered_statement of_operand
  decline s why address detail = from-same (havoc-same s) (next _ (statement _ _ _ _ refl refl) (λ t _. nothing why self))

  land : (s : State) (value address : ℕ) → Makes e o s (land_of s value address)
  unfolding land_of
  land s value address = either (overflows s) (from-same (push-same s value) (decline (push_of s value) 2 address 0)) (nothing 0 (push-same s value))

-- What is read from the operand and written to it
module _ {e : Effect} {o : Operand} (site : Site) (at : site.memory ≡ o.address) where
  variable : (s : State) (bits : ℕ) → Makes e o s (variable_of s site.slot bits)
  unfolding variable_of covered_node
  variable s bits = either (eqb site.slot 0) (temporary-makes s bits) (node _ _ _ _ refl refl refl)

  memory-read : (s : State) (width : ℕ) (format : MemFormat) → is_memory o width ≡ true → Makes e o s (x87_memory_read_of s site width format)
  unfolding x87_memory_read_of read_operand_lowered_of converted_of image_read_of covered_statement of_operand
  memory-read s width format h =
      next _ (next _ (variable s width) (λ s v. next _ (statement _ _ _ _ refl (rw (h, at) (eq-eqb o.address o.address refl))) (λ s _. nothing v self)))
      (λ s raw. either (is_image width format) (next _ (fresh-makes s 79) (λ s free. from-memory s raw free)) (to-slot s raw width format))

  source : (s : State) (src : ArithSrc) → source_fits o src ≡ true → Makes e o s (source_of s site src)
  unfolding source_of source_fits
  source s (Slot i) h = read s i
  source s (Memory width format) h = memory-read s width format (and_r (memory_fits width format) (is_memory o width) h)

  -- A register is `ax`, anything else is memory
  write-dst : (s : State) (value bits : ℕ) → site.register ≡ eqb o.kind 0 → (eqb o.kind 0 ≡ true → e.writes_ax ≡ true)
      → (eqb o.kind 0 ≡ false → is_memory o bits ≡ true) → Makes e o s (write_dst_of s site value bits)
  unfolding write_dst_of covered_statement of_operand
  write-dst s value bits r f g = way (eqb o.kind 0) r f g
    where
      way : (t : Bool) → site.register ≡ t → (t ≡ true → e.writes_ax ≡ true) → (t ≡ false → is_memory o bits ≡ true) → Makes e o s (write_dst_of s site value bits)
      way true r f g = rw r (statement 5 value 0 0 (f refl) refl)
      way false r f g = rw r (statement 2 site.memory value bits refl (rw (g refl, at) (eq-eqb o.address o.address refl)))

never : {P : Type 0} {t : Bool} → t ≡ false → t ≡ true → P
never e h = let z : ◌≡◌ {A = Bool} false true = cc in absurd (false≢true z)

-- EVERY FORM THAT FITS ITS OPERAND
module _ (o : Operand) (site : Site) (at : site.memory ≡ o.address) (register : site.register ≡ eqb o.kind 0) where
  abbrev FormMakes : State → Form → Type 0
  FormMakes s form = Makes (touched_of form (eqb o.kind 0)) o s (apply_x87_of s form site)

  arith-form : (s : State) (op : X87Arith) (dst : ℕ) (src : ArithSrc) (reversed pop : Bool) → source_fits o src ≡ true → FormMakes s (Arith op dst src reversed pop)
  unfolding apply_x87_of x87_arith_of ordered_of
  arith-form s op dst src reversed pop h =
      next _ (read s dst) (λ s a.
      next _ (source site at s src h) (λ s b.
      next _ (either reversed (arith-makes s op b a) (arith-makes s op a b)) (λ s v.
      next _ (write s dst v) (λ s _. nothing 0 (if-same pop s)))))

  compare-status : (s : State) (src : ArithSrc) (pops : ℕ) → source_fits o src ≡ true → FormMakes s (CompareStatus src pops)
  unfolding apply_x87_of x87_compare_status_of covered_node covered_statement of_operand
  compare-status s src pops h =
      next _ (read s 0) (λ s x.
      next _ (node _ _ _ _ refl refl refl) (λ s a.
      next _ (source site at s src h) (λ s y.
      next _ (node _ _ _ _ refl refl refl) (λ s b.
      next _ (unordered s a b) (λ s u.
      next _ (node _ _ _ _ refl refl refl) (λ s e.
      next _ (node _ _ _ _ refl refl refl) (λ s l.
      next _ (node _ _ _ _ refl refl refl) (λ s c0.
      next _ (node _ _ _ _ refl refl refl) (λ s c3.
      next _ (status-word s c0 u c3) (λ s w.
      next _ (statement _ _ _ _ refl refl) (λ s _. nothing 0 (times-same pops s))))))))))))

  compare-flags : (s : State) (src : ℕ) (pop : Bool) → FormMakes s (CompareFlags src pop)
  unfolding apply_x87_of x87_compare_flags_of covered_node covered_statement of_operand
  compare-flags s src pop =
      next _ (read s 0) (λ s x.
      next _ (node _ _ _ _ refl refl refl) (λ s a.
      next _ (read s src) (λ s y.
      next _ (node _ _ _ _ refl refl refl) (λ s b.
      next _ (unordered s a b) (λ s u.
      next _ (statement _ _ _ _ refl refl) (λ s _.
      next _ (node _ _ _ _ refl refl refl) (λ s e.
      next _ (node _ _ _ _ refl refl refl) (λ s zf.
      next _ (statement _ _ _ _ refl refl) (λ s _.
      next _ (node _ _ _ _ refl refl refl) (λ s l.
      next _ (node _ _ _ _ refl refl refl) (λ s cf.
      next _ (statement _ _ _ _ refl refl) (λ s _.
      next _ (node _ _ _ _ refl refl refl) (λ s k.
      next _ (statement _ _ _ _ refl refl) (λ s _.
      next _ (node _ _ _ _ refl refl refl) (λ s f.
      next _ (statement _ _ _ _ refl refl) (λ s _. nothing 0 (if-same pop s)))))))))))))))))

  pub apply-makes : (s : State) (form : Form) → form_fits o form ≡ true → FormMakes s form
  unfolding apply_x87_of push_const_of push_memory_of push_slot_of x87_store_memory_of store_slot_of x87_conditional_move_of x87_store_status_of x87_unary_of form_fits covered_node
  apply-makes s (PushConst low high) h = next _ (node _ _ _ _ refl refl refl) (λ s v. land s v _)
  apply-makes s (PushMemory width format) h = next _ (memory-read site at s width format (and_r (memory_fits width format) (is_memory o width) h)) (λ s v. land s v _)
  apply-makes s (PushSlot i) h = next _ (read s i) (λ s v. land s v _)
  apply-makes s (StoreMemory width format pop r) h =
      let m = and_r (memory_fits width format) (is_memory o width) h in
      next _ (top s pop) (λ s v. next _ (from-slot s v width format r) (λ s x. write-dst site at s x width register (never (no_register o width m)) (λ _. m)))
  apply-makes s (StoreSlot i pop) h = next _ (read s 0) (λ s v. next _ (write s i v) (λ s _. nothing 0 (if-same pop s)))
  apply-makes s (Arith op dst src reversed pop) h = arith-form s op dst src reversed pop (and_r (leb dst 7) (source_fits o src) h)
  apply-makes s (CompareStatus src pops) h = compare-status s src pops h
  apply-makes s (CompareFlags src pop) h = compare-flags s src pop
  apply-makes s (ConditionalMove src condition) h =
      next _ (read s src) (λ s a.
      next _ (read s 0) (λ s b.
      next _ (predicate s condition refl) (λ s p.
      next _ (node _ _ _ _ refl refl refl) (λ s v. write s 0 v))))
  apply-makes s StoreStatus h =
      next _ (node _ _ _ _ refl refl refl) (λ s v. write-dst site at s v 16 register (λ z. z) (λ z. or-false (eqb o.kind 0) (is_memory o 16) z h))
    where
      or-false : (a b : Bool) → a ≡ false → a || b ≡ true → b ≡ true
      or-false true b z h = never z refl
      or-false false b z h = h
  apply-makes s (Exchange i) h = exchange s i
  apply-makes s (Unary op) h = next _ (read s 0) (λ s a. next _ (unary s op a) (λ s v. write s 0 v))
