-- What is read from memory, and what is written
use Rattle.std.specs.Prelude.{Bool, cond, ℕ, eqb}
use Rattle.lists.specs.Steps.{Built, ◌▸◌, gives}
use Rattle.lists.specs.Nodes.{statement_of, temporary_of, fresh_of}
use Rattle.lists.specs.Stack.{read_of, pop_of}
use Rattle.lists.specs.declared.State.{State}
use Rattle.forms.specs.declared.MemFormat.{MemFormat}
use Rattle.forms.specs.declared.RoundingMode.{RoundingMode}
use Rattle.forms.specs.declared.ArithSrc.{ArithSrc}
use Rattle.forms.specs.declared.ArithSrc.TheVariants.{Slot, Memory}
use Rattle.exprs.specs.Nodes.{slot_var_of, fsw_of}
use Rattle.exprs.specs.Formats.{is_image}
use Rattle.exprs.specs.Image.{extended_from_memory_of}
use Rattle.exprs.specs.Slots.{to_slot_of, from_slot_of}
use Rattle.memory.specs.declared.Site.{Site}

-- The variable that a load sets: the named slot, or without a slot number the next temporary
unfoldable pub variable_of : State → ℕ → ℕ → Built
variable_of s slot bits = cond (eqb slot 0) (temporary_of s bits) (slot_var_of s slot bits)

-- A load: statement 1
unfoldable pub read_operand_lowered_of : State → Site → ℕ → Built
read_operand_lowered_of s site bits =
    variable_of s site.slot bits ▸ λ s v.
    statement_of s 1 v site.memory bits ▸ λ s _.
    gives s v

-- An 80-bit image takes a free input for the images that have no number
unfoldable pub image_read_of : State → ℕ → Built
image_read_of s raw = fresh_of s 79 ▸ λ s free. extended_from_memory_of s raw free

-- What was loaded, as a slot's pattern
unfoldable pub converted_of : State → ℕ → ℕ → MemFormat → Built
converted_of s raw width format = cond (is_image width format) (image_read_of s raw) (to_slot_of s raw width format)

unfoldable pub x87_memory_read_of : State → Site → ℕ → MemFormat → Built
x87_memory_read_of s site width format = read_operand_lowered_of s site width ▸ λ s raw. converted_of s raw width format

-- The second input of an arithmetic instruction or of a compare
unfoldable pub source_of : State → Site → ArithSrc → Built
source_of s site (Slot index) = read_of s index
source_of s site (Memory width format) = x87_memory_read_of s site width format

-- A value into the first operand: `ax`, statement 5, or memory, statement 2
unfoldable pub write_dst_of : State → Site → ℕ → ℕ → Built
write_dst_of s site value bits = cond site.register (statement_of s 5 value 0 0) (statement_of s 2 site.memory value bits)

-- The top, popped or read
unfoldable pub top_of : State → Bool → Built
top_of s pop = cond pop (pop_of s) (read_of s 0)

unfoldable pub x87_store_memory_of : State → Site → ℕ → MemFormat → Bool → RoundingMode → Built
x87_store_memory_of s site width format pop rounding =
    top_of s pop ▸ λ s value.
    from_slot_of s value width format rounding ▸ λ s stored.
    write_dst_of s site stored width

unfoldable pub x87_store_status_of : State → Site → Built
x87_store_status_of s site = fsw_of s ▸ λ s status. write_dst_of s site status 16
