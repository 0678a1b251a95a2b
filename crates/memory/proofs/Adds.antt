-- How many nodes and statements a load and a store add
use mathlib.Core.Bool.{Bool}
use Prim.Native.Nat.{ℕ}
use native.Mathlib.Omega.{arith}
use lib.Dec.{eqb}
use Rattle.lists.specs.declared.State.{State}
use Rattle.lists.proofs.Adds.{Adds, same, next, more, either, gives-adds, node-adds, statement-adds, fresh-adds, temporary-adds, read-adds, pop-adds}
use Rattle.forms.specs.declared.MemFormat.{MemFormat}
use Rattle.forms.specs.declared.RoundingMode.{RoundingMode}
use Rattle.forms.specs.declared.ArithSrc.{ArithSrc}
use Rattle.forms.specs.declared.ArithSrc.TheVariants.{Slot, Memory}
use Rattle.exprs.specs.Formats.{is_image}
use Rattle.exprs.proofs.Adds.{extended-from-memory-adds, to-slot-adds, from-slot-adds}
use Rattle.memory.specs.Memory.{variable_of, read_operand_lowered_of, image_read_of, converted_of, x87_memory_read_of, source_of, write_dst_of, top_of, x87_store_memory_of, x87_store_status_of}
use Rattle.memory.specs.declared.Site.{Site}

module _ (s : State) where
  variable-adds : (slot bits : ℕ) → Adds s 1 0 (variable_of s slot bits)
  unfolding variable_of
  variable-adds slot bits = either (eqb slot 0) (temporary-adds s bits) (node-adds _ _ _ _ _)

  image-read-adds : (raw : ℕ) → Adds s 17 0 (image_read_of s raw)
  unfolding image_read_of
  image-read-adds raw = next _ (fresh-adds s 79) (λ s free. extended-from-memory-adds s raw free)

  converted-adds : (raw width : ℕ) (format : MemFormat) → Adds s 17 0 (converted_of s raw width format)
  unfolding converted_of
  converted-adds raw width format =
      either (is_image width format) (image-read-adds raw) (more (to-slot-adds s raw width format) (omega arith) (omega arith))

  write-dst-adds : (site : Site) (value bits : ℕ) → Adds s 0 1 (write_dst_of s site value bits)
  unfolding write_dst_of
  write-dst-adds site value bits = either site.register (statement-adds _ _ _ _ _) (statement-adds _ _ _ _ _)

  top-adds : (pop : Bool) → Adds s 8 0 (top_of s pop)
  unfolding top_of
  top-adds pop = either pop (pop-adds s) (read-adds s 0)

module _ (s : State) (site : Site) where
  load-adds : (bits : ℕ) → Adds s 1 1 (read_operand_lowered_of s site bits)
  unfolding read_operand_lowered_of
  load-adds bits =
      next _ (variable-adds s site.slot bits) (λ s v. next _ (statement-adds _ _ _ _ _) (λ s _. gives-adds s s v (same s)))

  pub memory-read-adds : (width : ℕ) (format : MemFormat) → Adds s 18 1 (x87_memory_read_of s site width format)
  unfolding x87_memory_read_of
  memory-read-adds width format = next _ (load-adds width) (λ s raw. converted-adds s raw width format)

  pub source-adds : (src : ArithSrc) → Adds s 18 1 (source_of s site src)
  unfolding source_of
  source-adds (Slot index) = more (read-adds s index) (omega arith) (omega arith)
  source-adds (Memory width format) = memory-read-adds width format

module _ (s : State) (site : Site) where
  pub store-memory-adds : (width : ℕ) (format : MemFormat) (pop : Bool) (rounding : RoundingMode) → Adds s 19 1 (x87_store_memory_of s site width format pop rounding)
  unfolding x87_store_memory_of
  store-memory-adds width format pop rounding =
      next _ (top-adds s pop) (λ s value.
      next _ (from-slot-adds s value width format rounding) (λ s stored.
      write-dst-adds s site stored width))

  pub store-status-adds : Adds s 1 1 (x87_store_status_of s site)
  unfolding x87_store_status_of
  store-status-adds = next _ (node-adds _ _ _ _ _) (λ s status. write-dst-adds s site status 16)
