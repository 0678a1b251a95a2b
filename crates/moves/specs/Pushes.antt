-- Pushes and the decline: a step answers 0, 1, or 2 where a push overflows
use Rattle.std.specs.Prelude.{cond, ℕ, Result, Ok, Err}
use Rattle.lists.specs.Steps.{Built, ◌▸◌, gives}
use Rattle.lists.specs.Nodes.{statement_of}
use Rattle.lists.specs.Stack.{read_of, push_of, overflows, havoc_of}
use Rattle.lists.specs.declared.State.{State}
use Rattle.lists.specs.declared.X87Error.{X87Error}
use Rattle.forms.specs.declared.MemFormat.{MemFormat}
use Rattle.exprs.specs.Nodes.{wide_konst_of}
use Rattle.memory.specs.Memory.{x87_memory_read_of}
use Rattle.memory.specs.declared.Site.{Site}

-- A decline: the stack is forgotten, and statement 6 has the answer, 1 or 2, the instruction's address and the detail
unfoldable pub decline_x87_of : State → ℕ → ℕ → ℕ → Built
decline_x87_of s why address detail = statement_of (havoc_of s) 6 why address detail ▸ λ s _. gives s why

-- The number of what a push answers
abbrev pub pushed_number : Result Unit X87Error → ℕ
pushed_number (Ok _) = 0
pushed_number (Err _) = 2

-- A push that may overflow, as the last step; an overflow has no detail
unfoldable pub land_of : State → ℕ → ℕ → Built
land_of s value address = cond (overflows s) (decline_x87_of (push_of s value) 2 address 0) (gives (push_of s value) 0)

unfoldable pub push_const_of : State → Site → ℕ → ℕ → Built
push_const_of s site low high = wide_konst_of s low high 79 ▸ λ s value. land_of s value site.address

unfoldable pub push_slot_of : State → Site → ℕ → Built
push_slot_of s site index = read_of s index ▸ λ s value. land_of s value site.address

unfoldable pub push_memory_of : State → Site → ℕ → MemFormat → Built
push_memory_of s site width format = x87_memory_read_of s site width format ▸ λ s value. land_of s value site.address
