-- Arithmetic, compares and moves
use Rattle.std.specs.Prelude.{Bool, cond, ℕ, zero, suc}
use Rattle.lists.specs.Steps.{Built, ◌▸◌, gives}
use Rattle.lists.specs.Nodes.{statement_of}
use Rattle.lists.specs.Stack.{read_of, write_of, drop_top_of}
use Rattle.lists.specs.declared.State.{State}
use Rattle.forms.specs.declared.X87Arith.{X87Arith}
use Rattle.forms.specs.declared.ArithSrc.{ArithSrc}
use Rattle.forms.specs.declared.UnaryOp.{UnaryOp}
use Rattle.forms.specs.declared.X87Condition.{X87Condition}
use Rattle.exprs.specs.Nodes.{konst_of, bool_or_of, ite_of, feq_of, flt_of}
use Rattle.exprs.specs.Slots.{as_extended_of}
use Rattle.exprs.specs.Operations.{extended_arith_of, unary_of, unordered_of, predicate_of}
use Rattle.exprs.specs.Status.{x87_status_word_of}
use Rattle.memory.specs.Memory.{source_of}
use Rattle.memory.specs.declared.Site.{Site}

-- The state with so many tops dropped
unfoldable pub dropped_times : ℕ → State → State
dropped_times zero s = s
dropped_times (suc k) s = drop_top_of (dropped_times k s)

unfoldable pub dropped_if : Bool → State → State
dropped_if pop s = cond pop (drop_top_of s) s

-- `reversed` puts the second input first
unfoldable pub ordered_of : State → X87Arith → ℕ → ℕ → Bool → Built
ordered_of s op a b reversed = cond reversed (extended_arith_of s op b a) (extended_arith_of s op a b)

unfoldable pub x87_arith_of : State → Site → X87Arith → ℕ → ArithSrc → Bool → Bool → Built
x87_arith_of s site op dst src reversed pop =
    read_of s dst ▸ λ s a.
    source_of s site src ▸ λ s b.
    ordered_of s op a b reversed ▸ λ s v.
    write_of s dst v ▸ λ s _.
    gives (dropped_if pop s) 0

-- The status word takes C0 from less, C2 from unordered, C3 from equal; each is also set where the two are unordered
unfoldable pub x87_compare_status_of : State → Site → ArithSrc → ℕ → Built
x87_compare_status_of s site src pops =
    read_of s 0 ▸ λ s top.
    as_extended_of s top ▸ λ s a.
    source_of s site src ▸ λ s other.
    as_extended_of s other ▸ λ s b.
    unordered_of s a b ▸ λ s unordered.
    feq_of s a b ▸ λ s equal.
    flt_of s a b ▸ λ s less.
    bool_or_of s unordered less ▸ λ s c0.
    bool_or_of s unordered equal ▸ λ s c3.
    x87_status_word_of s c0 unordered c3 ▸ λ s status.
    statement_of s 3 status 0 0 ▸ λ s _.
    gives (dropped_times pops s) 0

-- A flag: 0 CF, 1 PF, 2 ZF, 3 OF, 4 SF
abbrev pub set_flag_of : State → ℕ → ℕ → Built
set_flag_of s flag node = statement_of s 4 flag node 0

unfoldable pub x87_compare_flags_of : State → ℕ → Bool → Built
x87_compare_flags_of s src pop =
    read_of s 0 ▸ λ s top.
    as_extended_of s top ▸ λ s a.
    read_of s src ▸ λ s other.
    as_extended_of s other ▸ λ s b.
    unordered_of s a b ▸ λ s unordered.
    set_flag_of s 1 unordered ▸ λ s _.
    feq_of s a b ▸ λ s equal.
    bool_or_of s unordered equal ▸ λ s zf.
    set_flag_of s 2 zf ▸ λ s _.
    flt_of s a b ▸ λ s less.
    bool_or_of s unordered less ▸ λ s cf.
    set_flag_of s 0 cf ▸ λ s _.
    konst_of s 0 1 ▸ λ s of.
    set_flag_of s 3 of ▸ λ s _.
    konst_of s 0 1 ▸ λ s sf.
    set_flag_of s 4 sf ▸ λ s _.
    gives (dropped_if pop s) 0

unfoldable pub x87_conditional_move_of : State → ℕ → X87Condition → Built
x87_conditional_move_of s src condition =
    read_of s src ▸ λ s taken.
    read_of s 0 ▸ λ s kept.
    predicate_of s condition ▸ λ s holds.
    ite_of s holds taken kept ▸ λ s v.
    write_of s 0 v

unfoldable pub x87_unary_of : State → UnaryOp → Built
x87_unary_of s op =
    read_of s 0 ▸ λ s top.
    unary_of s op top ▸ λ s v.
    write_of s 0 v

unfoldable pub store_slot_of : State → ℕ → Bool → Built
store_slot_of s index pop =
    read_of s 0 ▸ λ s value.
    write_of s index value ▸ λ s _.
    gives (dropped_if pop s) 0
