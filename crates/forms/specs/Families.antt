-- What each family makes of its operands, by their number and by what each of them is.
use Rattle.std.specs.Prelude.{Bool, true, false, cond, ℕ, eqb, Option, Some, None}
use Rattle.texts.specs.Bytes.{bytes_of}
use Rattle.forms.specs.Operands.{Operands, none, one, two, more, slot_of, width_of, ax_of}
use Rattle.forms.specs.declared.Operand.{Operand}
use Rattle.forms.specs.declared.Widths.{Widths}
use Rattle.forms.specs.declared.Widths.TheVariants.{FloatShort, IntArith, StatusWidth}
use Rattle.forms.specs.declared.MemFormat.{MemFormat}
use Rattle.forms.specs.declared.MemFormat.TheVariants.{Float, Integer}
use Rattle.forms.specs.declared.MemorySource.{MemorySource}
use Rattle.forms.specs.declared.MemorySource.TheVariants.{Allowed, Forbidden}
use Rattle.forms.specs.declared.StoreSpec.{StoreSpec}
use Rattle.forms.specs.declared.X87Arith.{X87Arith}
use Rattle.forms.specs.declared.X87Condition.{X87Condition}
use Rattle.forms.specs.declared.ArithSrc.TheVariants.{Slot, Memory}
use Rattle.forms.specs.declared.Form.{Form}
use Rattle.forms.specs.declared.Form.TheVariants.{PushMemory, PushSlot, StoreMemory, StoreSlot, Arith, CompareStatus, CompareFlags, ConditionalMove, StoreStatus, Exchange}
use Rattle.forms.specs.declared.Family.{Family}
use Rattle.forms.specs.declared.Family.TheVariants as family

-- no operand
abbrev pub plain_of : Form → Operands → Option Form
plain_of f none = Some f
plain_of f (one o) = None
plain_of f (two a b) = None
plain_of f more = None

abbrev pub exchange_at : Option ℕ → Option Form
exchange_at (Some i) = Some (Exchange i)
exchange_at None = None

-- `fxch` alone is `fxch st(1)`
abbrev pub exchange_of : Operands → Option Form
exchange_of none = Some (Exchange 1)
exchange_of (one o) = exchange_at (slot_of o)
exchange_of (two a b) = None
exchange_of more = None

-- a place is loaded by `fld` alone
abbrev pub push_slot : MemFormat → ℕ → Option Form
push_slot Float i = Some (PushSlot i)
push_slot Integer i = None

abbrev pub load_at : MemFormat → Option ℕ → Option ℕ → Option Form
load_at f (Some i) w = push_slot f i
load_at f None (Some w) = Some (PushMemory w f)
load_at f None None = None

-- `fld`, `fild`: one operand, a place or memory
abbrev pub load_of : MemFormat → Widths → Operands → Option Form
load_of f ws none = None
load_of f ws (one o) = load_at f (slot_of o) (width_of ws o)
load_of f ws (two a b) = None
load_of f ws more = None

-- a place is stored to by `fst` and `fstp` alone
abbrev pub store_slot : MemFormat → ℕ → Bool → Option Form
store_slot Float i pop = Some (StoreSlot i pop)
store_slot Integer i pop = None

abbrev pub store_at : StoreSpec → Option ℕ → Option ℕ → Option Form
store_at s (Some i) w = store_slot s.format i s.pop
store_at s None (Some w) = Some (StoreMemory w s.format s.pop s.rounding)
store_at s None None = None

-- the stores: one operand, a place or memory
abbrev pub store_of : StoreSpec → Operands → Option Form
store_of s none = None
store_of s (one o) = store_at s (slot_of o) (width_of s.widths o)
store_of s (two a b) = None
store_of s more = None

abbrev pub compare_memory : ℕ → MemorySource → Option ℕ → Option Form
compare_memory p Allowed (Some w) = Some (CompareStatus (Memory w Float) p)
compare_memory p Allowed None = None
compare_memory p Forbidden w = None

abbrev pub status_at : ℕ → MemorySource → Option ℕ → Option ℕ → Option Form
status_at p m (Some i) w = Some (CompareStatus (Slot i) p)
status_at p m None w = compare_memory p m w

-- `fcom`, `fcomp` and, without memory, `fucom`, `fucomp`: alone they compare with place 1
abbrev pub status_compare_of : ℕ → MemorySource → Operands → Option Form
status_compare_of p m none = Some (CompareStatus (Slot 1) p)
status_compare_of p m (one o) = status_at p m (slot_of o) (width_of FloatShort o)
status_compare_of p m (two a b) = None
status_compare_of p m more = None

abbrev pub flag_at : Bool → Option ℕ → Option Form
flag_at pop (Some i) = Some (CompareFlags i pop)
flag_at pop None = None

-- the compares that set flags: with two operands only the second is read
abbrev pub flag_compare_of : Bool → Operands → Option Form
flag_compare_of pop none = None
flag_compare_of pop (one o) = flag_at pop (slot_of o)
flag_compare_of pop (two a b) = flag_at pop (slot_of b)
flag_compare_of pop more = None

abbrev pub conditional_at : X87Condition → Option ℕ → Option ℕ → Option Form
conditional_at k (Some d) (Some i) = cond (eqb d 0) (Some (ConditionalMove i k)) None
conditional_at k (Some d) None = None
conditional_at k None q = None

-- `fcmov`: two places, the first of them the top
abbrev pub conditional_of : X87Condition → Operands → Option Form
conditional_of k none = None
conditional_of k (one o) = None
conditional_of k (two a b) = conditional_at k (slot_of a) (slot_of b)
conditional_of k more = None

abbrev pub status_to : Option ℕ → Option Form
status_to (Some w) = Some StoreStatus
status_to None = None

unfoldable pub store_status_at : Operand → Option Form
store_status_at o =
    cond (eqb o.kind 0) (cond (ax_of (bytes_of o.text)) (Some StoreStatus) None)
    (status_to (width_of StatusWidth o))

-- `fnstsw`, `fstsw`: to `ax`, or to memory of 16 bits
abbrev pub store_status_of : Operands → Option Form
store_status_of none = None
store_status_of (one o) = store_status_at o
store_status_of (two a b) = None
store_status_of more = None

-- the width of the only operand, memory that holds an integer
abbrev pub integer_width : Operands → Option ℕ
integer_width none = None
integer_width (one o) = width_of IntArith o
integer_width (two a b) = None
integer_width more = None

-- `fiadd` to `fidivr`: the top with an integer
abbrev pub integer_arith_of : X87Arith → Bool → Option ℕ → Option Form
integer_arith_of op rev (Some w) = Some (Arith op 0 (Memory w Integer) rev false)
integer_arith_of op rev None = None

-- `ficom`, `ficomp`
abbrev pub integer_compare_of : ℕ → Option ℕ → Option Form
integer_compare_of p (Some w) = Some (CompareStatus (Memory w Integer) p)
integer_compare_of p None = None

abbrev pub arith_slots : X87Arith → ℕ → ℕ → Bool → Bool → Option Form
arith_slots op d i rev pop = Some (Arith op d (Slot i) rev pop)

-- there is no popping form with memory
abbrev pub arith_memory : X87Arith → Bool → Bool → Option ℕ → Option Form
arith_memory op rev true w = None
arith_memory op rev false (Some w) = Some (Arith op 0 (Memory w Float) rev false)
arith_memory op rev false None = None

-- a place is the source of the top, or with a pop the destination
abbrev pub arith_one : X87Arith → Bool → Bool → Option ℕ → Option ℕ → Option Form
arith_one op rev true (Some i) w = arith_slots op i 0 rev true
arith_one op rev false (Some i) w = arith_slots op 0 i rev false
arith_one op rev pop None w = arith_memory op rev pop w

abbrev pub arith_two : X87Arith → Bool → Bool → Option ℕ → Option ℕ → Option Form
arith_two op rev pop (Some d) (Some i) = arith_slots op d i rev pop
arith_two op rev pop (Some d) None = None
arith_two op rev pop None q = None

-- `fadd` to `fdivr`, and with a final `p`, which alone is with places 1 and 0
abbrev pub arith_of : X87Arith → Bool → Bool → Operands → Option Form
arith_of op rev true none = arith_slots op 1 0 rev true
arith_of op rev false none = None
arith_of op rev pop (one o) = arith_one op rev pop (slot_of o) (width_of FloatShort o)
arith_of op rev pop (two a b) = arith_two op rev pop (slot_of a) (slot_of b)
arith_of op rev pop more = None

unfoldable pub form_of : Family → Operands → Option Form
form_of (family.Plain f) s = plain_of f s
form_of family.Exchange s = exchange_of s
form_of (family.Load f ws) s = load_of f ws s
form_of (family.Store spec) s = store_of spec s
form_of (family.StatusCompare p m) s = status_compare_of p m s
form_of family.PairedCompare s = plain_of (CompareStatus (Slot 1) 2) s
form_of (family.FlagCompare pop) s = flag_compare_of pop s
form_of family.StoreStatus s = store_status_of s
form_of (family.ConditionalMove k) s = conditional_of k s
form_of (family.IntegerArith op rev) s = integer_arith_of op rev (integer_width s)
form_of (family.IntegerCompare p) s = integer_compare_of p (integer_width s)
form_of (family.Arith op rev pop) s = arith_of op rev pop s

-- .. of a name that there may be
abbrev pub made_of : Option Family → Operands → Option Form
made_of None s = None
made_of (Some f) s = form_of f s
