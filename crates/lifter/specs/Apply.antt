-- What a form does: the step answers 0, or 2 where a push overflows
use Rattle.lists.specs.Steps.{Built}
use Rattle.lists.specs.Stack.{exchange_of}
use Rattle.lists.specs.declared.State.{State}
use Rattle.forms.specs.declared.Form.{Form}
use Rattle.forms.specs.declared.Form.TheVariants.{PushConst, PushMemory, PushSlot, StoreMemory, StoreSlot, Arith, CompareStatus, CompareFlags, ConditionalMove, StoreStatus, Exchange, Unary}
use Rattle.memory.specs.Memory.{x87_store_memory_of, x87_store_status_of}
use Rattle.moves.specs.Pushes.{push_const_of, push_slot_of, push_memory_of}
use Rattle.moves.specs.Moves.{x87_arith_of, x87_compare_status_of, x87_compare_flags_of, x87_conditional_move_of, x87_unary_of, store_slot_of}
use Rattle.memory.specs.declared.Site.{Site}

unfoldable pub apply_x87_of : State → Form → Site → Built
apply_x87_of s (PushConst low high) site = push_const_of s site low high
apply_x87_of s (PushMemory width format) site = push_memory_of s site width format
apply_x87_of s (PushSlot index) site = push_slot_of s site index
apply_x87_of s (StoreMemory width format pop rounding) site = x87_store_memory_of s site width format pop rounding
apply_x87_of s (StoreSlot index pop) site = store_slot_of s index pop
apply_x87_of s (Arith op dst src reversed pop) site = x87_arith_of s site op dst src reversed pop
apply_x87_of s (CompareStatus src pops) site = x87_compare_status_of s site src pops
apply_x87_of s (CompareFlags src pop) site = x87_compare_flags_of s src pop
apply_x87_of s (ConditionalMove src condition) site = x87_conditional_move_of s src condition
apply_x87_of s StoreStatus site = x87_store_status_of s site
apply_x87_of s (Exchange index) site = exchange_of s index
apply_x87_of s (Unary op) site = x87_unary_of s op
