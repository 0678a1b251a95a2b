use Rattle.lifter.specs.Apply.{apply_x87_of}
use Rattle.lifter.proofs.apply_x87.Goals as goal

pub returns-in-PushConst : goal.returns-in-PushConst
unfolding apply_x87_of
returns-in-PushConst c = rw c.in-PushConst.is c.push_const.ensures

pub returns-in-PushMemory : goal.returns-in-PushMemory
unfolding apply_x87_of
returns-in-PushMemory c = rw c.in-PushMemory.is c.push_memory.ensures

pub returns-in-PushSlot : goal.returns-in-PushSlot
unfolding apply_x87_of
returns-in-PushSlot c = rw c.in-PushSlot.is c.push_slot.ensures

pub returns-in-StoreMemory : goal.returns-in-StoreMemory
unfolding apply_x87_of
returns-in-StoreMemory c = rw c.in-StoreMemory.is c.x87_store_memory.ensures

pub returns-in-StoreSlot : goal.returns-in-StoreSlot
unfolding apply_x87_of
returns-in-StoreSlot c = rw c.in-StoreSlot.is c.store_slot.ensures

pub returns-in-Arith : goal.returns-in-Arith
unfolding apply_x87_of
returns-in-Arith c = rw c.in-Arith.is c.x87_arith.ensures

pub returns-in-CompareStatus : goal.returns-in-CompareStatus
unfolding apply_x87_of
returns-in-CompareStatus c = rw c.in-CompareStatus.is c.x87_compare_status.ensures

pub returns-in-CompareFlags : goal.returns-in-CompareFlags
unfolding apply_x87_of
returns-in-CompareFlags c = rw c.in-CompareFlags.is c.x87_compare_flags.ensures

pub returns-in-ConditionalMove : goal.returns-in-ConditionalMove
unfolding apply_x87_of
returns-in-ConditionalMove c = rw c.in-ConditionalMove.is c.x87_conditional_move.ensures

pub returns-in-StoreStatus : goal.returns-in-StoreStatus
unfolding apply_x87_of
returns-in-StoreStatus c = rw c.in-StoreStatus.is c.x87_store_status.ensures

pub returns-in-Exchange : goal.returns-in-Exchange
unfolding apply_x87_of
returns-in-Exchange c = rw c.in-Exchange.is c.exchange.ensures

pub returns-in-Unary : goal.returns-in-Unary
unfolding apply_x87_of
returns-in-Unary c = rw c.in-Unary.is c.x87_unary.ensures
