-- How many nodes and statements an instruction adds: at most 46 and 5
use Prim.Native.Nat.{ℕ}
use native.Mathlib.Omega.{arith}
use Rattle.lists.specs.declared.State.{State}
use Rattle.lists.proofs.Adds.{Adds, same, more, gives-adds, exchange-adds}
use Rattle.forms.specs.declared.Form.{Form}
use Rattle.forms.specs.declared.Form.TheVariants.{PushConst, PushMemory, PushSlot, StoreMemory, StoreSlot, Arith, CompareStatus, CompareFlags, ConditionalMove, StoreStatus, Exchange, Unary}
use Rattle.forms.specs.Classify.{Classified}
use Rattle.std.specs.Prelude.{Some, None, Ok, Err}
use Rattle.forms.specs.declared.BadInstruction.TheVariants as bad
use Rattle.lifter.specs.Apply.{apply_x87_of}
use Rattle.lifter.specs.Lift.{lowered_of}
use Rattle.memory.specs.declared.Site.{Site}
use Rattle.memory.proofs.Adds.{store-memory-adds, store-status-adds}
use Rattle.moves.proofs.Adds.{decline-adds, arith-adds, compare-status-adds, push-const-adds, push-slot-adds, push-memory-adds, compare-flags-adds, conditional-move-adds, x87-unary-adds, store-slot-adds}

module _ (s : State) where
  -- No form adds more than 46 nodes or 5 statements
  pub apply-adds : (form : Form) (site : Site) → Adds s 46 5 (apply_x87_of s form site)
  unfolding apply_x87_of
  apply-adds (PushConst low high) site = more (push-const-adds s site low high) (omega arith) (omega arith)
  apply-adds (PushMemory width format) site = more (push-memory-adds s site width format) (omega arith) (omega arith)
  apply-adds (PushSlot index) site = more (push-slot-adds s site index) (omega arith) (omega arith)
  apply-adds (StoreMemory width format pop rounding) site = more (store-memory-adds s site width format pop rounding) (omega arith) (omega arith)
  apply-adds (StoreSlot index pop) site = more (store-slot-adds s index pop) (omega arith) (omega arith)
  apply-adds (Arith op dst src reversed pop) site = more (arith-adds s site op dst src reversed pop) (omega arith) (omega arith)
  apply-adds (CompareStatus src pops) site = more (compare-status-adds s site src pops) (omega arith) (omega arith)
  apply-adds (CompareFlags src pop) site = more (compare-flags-adds s src pop) (omega arith) (omega arith)
  apply-adds (ConditionalMove src condition) site = more (conditional-move-adds s src condition) (omega arith) (omega arith)
  apply-adds StoreStatus site = more (store-status-adds s site) (omega arith) (omega arith)
  apply-adds (Exchange index) site = more (exchange-adds s index) (omega arith) (omega arith)
  apply-adds (Unary op) site = more (x87-unary-adds s op) (omega arith) (omega arith)

  pub lowered-adds : (classified : Classified) (detail : ℕ) (site : Site) → Adds s 46 5 (lowered_of s classified detail site)
  unfolding lowered_of
  lowered-adds (Ok (Some form)) detail site = apply-adds form site
  lowered-adds (Ok None) detail site = more (decline-adds s 1 site.address detail) (omega arith) (omega arith)
  lowered-adds (Err bad.Text) detail site = more (gives-adds s s 3 (same s)) (omega arith) (omega arith)
  lowered-adds (Err bad.Operands) detail site = more (gives-adds s s 4 (same s)) (omega arith) (omega arith)
