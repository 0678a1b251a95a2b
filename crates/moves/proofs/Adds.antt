-- How many nodes and statements each move adds
use mathlib.Core.Path.{◌∙◌}
use mathlib.Core.Bool.{Bool, true, false}
use Prim.Native.Nat.{ℕ, zero, suc}
use native.Mathlib.Omega.{arith}
use Rattle.lists.specs.Stack.{overflows, push_of, havoc_of}
use Rattle.lists.specs.declared.State.{State}
use Rattle.lists.proofs.Adds.{Adds, Counts, same, from-alike, next, more, either, gives-adds, node-adds, statement-adds, havoc-counts, push-counts, drop-top-counts, read-adds, write-adds}
use Rattle.forms.specs.declared.MemFormat.{MemFormat}
use Rattle.forms.specs.declared.ArithSrc.{ArithSrc}
use Rattle.forms.specs.declared.X87Arith.{X87Arith}
use Rattle.forms.specs.declared.X87Condition.{X87Condition}
use Rattle.forms.specs.declared.UnaryOp.{UnaryOp}
use Rattle.exprs.proofs.Adds.{extended-arith-adds, unary-adds, unordered-adds, predicate-adds, x87-status-word-adds}
use Rattle.moves.specs.Moves.{dropped_times, dropped_if, ordered_of, x87_arith_of, x87_compare_status_of, x87_compare_flags_of, x87_conditional_move_of, x87_unary_of, store_slot_of}
use Rattle.moves.specs.Pushes.{decline_x87_of, land_of, push_const_of, push_slot_of, push_memory_of}
use Rattle.memory.specs.declared.Site.{Site}
use Rattle.memory.proofs.Adds.{memory-read-adds, source-adds}

dropped-times-counts : (k : ℕ) (s : State) → Counts s (dropped_times k s)
unfolding dropped_times
dropped-times-counts zero s = same s
dropped-times-counts (suc k) s =
    let p = dropped-times-counts k s in
    let q = drop-top-counts (dropped_times k s) in
    record { nodes = q.nodes ∙ p.nodes; statements = q.statements ∙ p.statements }

dropped-if-counts : (pop : Bool) (s : State) → Counts s (dropped_if pop s)
unfolding dropped_if
dropped-if-counts true s = drop-top-counts s
dropped-if-counts false s = same s

module _ (s : State) where
  ordered-adds : (op : X87Arith) (a b : ℕ) (reversed : Bool) → Adds s 4 0 (ordered_of s op a b reversed)
  unfolding ordered_of
  ordered-adds op a b reversed = either reversed (extended-arith-adds s op b a) (extended-arith-adds s op a b)

  pub decline-adds : (why address detail : ℕ) → Adds s 0 1 (decline_x87_of s why address detail)
  unfolding decline_x87_of
  decline-adds why address detail =
      from-alike (havoc-counts s) (next _ (statement-adds (havoc_of s) 6 why address detail) (λ t _. gives-adds t t why (same t)))

module _ (s : State) where
  land-adds : (value address : ℕ) → Adds s 0 1 (land_of s value address)
  unfolding land_of
  land-adds value address =
      either (overflows s)
      (from-alike (push-counts s value) (decline-adds (push_of s value) 2 address 0))
      (more (gives-adds s (push_of s value) 0 (push-counts s value)) (omega arith) (omega arith))

module _ (s : State) (site : Site) where
  pub arith-adds : (op : X87Arith) (dst : ℕ) (src : ArithSrc) (reversed pop : Bool) → Adds s 38 1 (x87_arith_of s site op dst src reversed pop)
  unfolding x87_arith_of
  arith-adds op dst src reversed pop =
      next _ (read-adds s dst) (λ s a.
      next _ (source-adds s site src) (λ s b.
      next _ (ordered-adds s op a b reversed) (λ s v.
      next _ (write-adds s dst v) (λ s _.
      gives-adds s _ 0 (dropped-if-counts pop s)))))

  pub compare-status-adds : (src : ArithSrc) (pops : ℕ) → Adds s 46 2 (x87_compare_status_of s site src pops)
  unfolding x87_compare_status_of
  compare-status-adds src pops =
      next _ (read-adds s 0) (λ s top.
      next _ (node-adds _ _ _ _ _) (λ s a.
      next _ (source-adds s site src) (λ s other.
      next _ (node-adds _ _ _ _ _) (λ s b.
      next _ (unordered-adds s a b) (λ s unordered.
      next _ (node-adds _ _ _ _ _) (λ s equal.
      next _ (node-adds _ _ _ _ _) (λ s less.
      next _ (node-adds _ _ _ _ _) (λ s c0.
      next _ (node-adds _ _ _ _ _) (λ s c3.
      next _ (x87-status-word-adds s c0 unordered c3) (λ s status.
      next _ (statement-adds _ _ _ _ _) (λ s _.
      gives-adds s _ 0 (dropped-times-counts pops s))))))))))))

  pub push-const-adds : (low high : ℕ) → Adds s 1 1 (push_const_of s site low high)
  unfolding push_const_of
  push-const-adds low high = next _ (node-adds _ _ _ _ _) (λ s value. land-adds s value site.address)

  pub push-slot-adds : (index : ℕ) → Adds s 8 1 (push_slot_of s site index)
  unfolding push_slot_of
  push-slot-adds index = next _ (read-adds s index) (λ s value. land-adds s value site.address)

  pub push-memory-adds : (width : ℕ) (format : MemFormat) → Adds s 18 2 (push_memory_of s site width format)
  unfolding push_memory_of
  push-memory-adds width format = next _ (memory-read-adds s site width format) (λ s value. land-adds s value site.address)

module _ (s : State) where
  pub compare-flags-adds : (src : ℕ) (pop : Bool) → Adds s 27 5 (x87_compare_flags_of s src pop)
  unfolding x87_compare_flags_of
  compare-flags-adds src pop =
      next _ (read-adds s 0) (λ s top.
      next _ (node-adds _ _ _ _ _) (λ s a.
      next _ (read-adds s src) (λ s other.
      next _ (node-adds _ _ _ _ _) (λ s b.
      next _ (unordered-adds s a b) (λ s unordered.
      next _ (statement-adds _ _ _ _ _) (λ s _.
      next _ (node-adds _ _ _ _ _) (λ s equal.
      next _ (node-adds _ _ _ _ _) (λ s zf.
      next _ (statement-adds _ _ _ _ _) (λ s _.
      next _ (node-adds _ _ _ _ _) (λ s less.
      next _ (node-adds _ _ _ _ _) (λ s cf.
      next _ (statement-adds _ _ _ _ _) (λ s _.
      next _ (node-adds _ _ _ _ _) (λ s of.
      next _ (statement-adds _ _ _ _ _) (λ s _.
      next _ (node-adds _ _ _ _ _) (λ s sf.
      next _ (statement-adds _ _ _ _ _) (λ s _.
      gives-adds s _ 0 (dropped-if-counts pop s)))))))))))))))))

  pub conditional-move-adds : (src : ℕ) (condition : X87Condition) → Adds s 32 0 (x87_conditional_move_of s src condition)
  unfolding x87_conditional_move_of
  conditional-move-adds src condition =
      next _ (read-adds s src) (λ s taken.
      next _ (read-adds s 0) (λ s kept.
      next _ (predicate-adds s condition) (λ s holds.
      next _ (node-adds _ _ _ _ _) (λ s v.
      write-adds s 0 v))))

  pub x87-unary-adds : (op : UnaryOp) → Adds s 19 0 (x87_unary_of s op)
  unfolding x87_unary_of
  x87-unary-adds op = next _ (read-adds s 0) (λ s top. next _ (unary-adds s op top) (λ s v. write-adds s 0 v))

  pub store-slot-adds : (index : ℕ) (pop : Bool) → Adds s 16 0 (store_slot_of s index pop)
  unfolding store_slot_of
  store-slot-adds index pop =
      next _ (read-adds s 0) (λ s value. next _ (write-adds s index value) (λ s _. gives-adds s _ 0 (dropped-if-counts pop s)))
