-- How many nodes the expressions add: none adds statements
use Prim.Native.Nat.{ℕ}
use native.Mathlib.Omega.{arith}
use Rattle.lists.specs.declared.State.{State}
use Rattle.lists.proofs.Adds.{Adds, next, more, either, node-adds, fresh-adds}
use Rattle.forms.specs.declared.X87Arith.{X87Arith}
use Rattle.forms.specs.declared.UnaryOp.{UnaryOp}
use Rattle.forms.specs.declared.UnaryOp.TheVariants.{Abs, Chs, Sqrt, RoundToIntegral}
use Rattle.forms.specs.declared.MemFormat.{MemFormat}
use Rattle.forms.specs.declared.MemFormat.TheVariants.{Float, Integer}
use Rattle.forms.specs.declared.RoundingMode.{RoundingMode}
use Rattle.forms.specs.declared.X87Condition.{X87Condition}
use Rattle.forms.specs.declared.X87Condition.TheVariants.{Below, Equal, BelowOrEqual, Unordered, NotBelow, NotEqual, NotBelowOrEqual, NotUnordered}
use Rattle.exprs.specs.Formats.{is_image}
use Rattle.exprs.specs.Image.{extended_from_memory_of, extended_to_memory_of}
use Rattle.exprs.specs.Slots.{to_slot_of, float_to_slot_of, integer_to_slot_of, narrowed_of, from_slot_of}
use Rattle.exprs.specs.Operations.{extended_arith_of, unary_of, unordered_of, flag_is_of, predicate_of}
use Rattle.exprs.specs.Status.{x87_status_word_of}

pub extended-from-memory-adds : (s : State) (image free : ℕ) → Adds s 16 0 (extended_from_memory_of s image free)
unfolding extended_from_memory_of
extended-from-memory-adds s image free =
    next _ (node-adds _ _ _ _ _) (λ s sign.
    next _ (node-adds _ _ _ _ _) (λ s exponent.
    next _ (node-adds _ _ _ _ _) (λ s integer.
    next _ (node-adds _ _ _ _ _) (λ s fraction.
    next _ (node-adds _ _ _ _ _) (λ s zero.
    next _ (node-adds _ _ _ _ _) (λ s zero_exponent.
    next _ (node-adds _ _ _ _ _) (λ s one.
    next _ (node-adds _ _ _ _ _) (λ s leading.
    next _ (node-adds _ _ _ _ _) (λ s not-leading.
    next _ (node-adds _ _ _ _ _) (λ s denormal.
    next _ (node-adds _ _ _ _ _) (λ s not-zero.
    next _ (node-adds _ _ _ _ _) (λ s normal.
    next _ (node-adds _ _ _ _ _) (λ s canonical.
    next _ (node-adds _ _ _ _ _) (λ s low.
    next _ (node-adds _ _ _ _ _) (λ s pattern.
    node-adds _ _ _ _ _)))))))))))))))

pub extended-to-memory-adds : (s : State) (pattern : ℕ) → Adds s 11 0 (extended_to_memory_of s pattern)
unfolding extended_to_memory_of
extended-to-memory-adds s pattern =
    next _ (node-adds _ _ _ _ _) (λ s sign.
    next _ (node-adds _ _ _ _ _) (λ s exponent.
    next _ (node-adds _ _ _ _ _) (λ s fraction.
    next _ (node-adds _ _ _ _ _) (λ s zero.
    next _ (node-adds _ _ _ _ _) (λ s zero_exponent.
    next _ (node-adds _ _ _ _ _) (λ s zero_bit.
    next _ (node-adds _ _ _ _ _) (λ s one_bit.
    next _ (node-adds _ _ _ _ _) (λ s integer.
    next _ (node-adds _ _ _ _ _) (λ s significand.
    next _ (node-adds _ _ _ _ _) (λ s low.
    node-adds _ _ _ _ _))))))))))

pub to-slot-adds : (s : State) (raw width : ℕ) (format : MemFormat) → Adds s 3 0 (to_slot_of s raw width format)
unfolding to_slot_of float_to_slot_of integer_to_slot_of
to-slot-adds s raw width Float = next _ (node-adds _ _ _ _ _) (λ s _. next _ (node-adds _ _ _ _ _) (λ s _. node-adds _ _ _ _ _))
to-slot-adds s raw width Integer = more (next _ (node-adds _ _ _ _ _) (λ s _. node-adds _ _ _ _ _)) (omega arith) (omega arith)

narrowed-adds : (s : State) (value width : ℕ) (format : MemFormat) (rounding : RoundingMode) → Adds s 3 0 (narrowed_of s value width format rounding)
unfolding narrowed_of
narrowed-adds s value width Float rounding = next _ (node-adds _ _ _ _ _) (λ s _. next _ (node-adds _ _ _ _ _) (λ s _. node-adds _ _ _ _ _))
narrowed-adds s value width Integer rounding = more (next _ (node-adds _ _ _ _ _) (λ s _. node-adds _ _ _ _ _)) (omega arith) (omega arith)

pub from-slot-adds : (s : State) (value width : ℕ) (format : MemFormat) (rounding : RoundingMode) → Adds s 11 0 (from_slot_of s value width format rounding)
unfolding from_slot_of
from-slot-adds s value width format rounding =
    either (is_image width format) (extended-to-memory-adds s value) (more (narrowed-adds s value width format rounding) (omega arith) (omega arith))

pub extended-arith-adds : (s : State) (op : X87Arith) (lhs rhs : ℕ) → Adds s 4 0 (extended_arith_of s op lhs rhs)
unfolding extended_arith_of
extended-arith-adds s op lhs rhs =
    next _ (node-adds _ _ _ _ _) (λ s a.
    next _ (node-adds _ _ _ _ _) (λ s b.
    next _ (node-adds _ _ _ _ _) (λ s x.
    node-adds _ _ _ _ _)))

pub unary-adds : (s : State) (op : UnaryOp) (top : ℕ) → Adds s 3 0 (unary_of s op top)
unfolding unary_of
unary-adds s Abs top = more (next _ (node-adds _ _ _ _ _) (λ s _. node-adds _ _ _ _ _)) (omega arith) (omega arith)
unary-adds s Chs top = more (next _ (node-adds _ _ _ _ _) (λ s _. node-adds _ _ _ _ _)) (omega arith) (omega arith)
unary-adds s Sqrt top = next _ (node-adds _ _ _ _ _) (λ s _. next _ (node-adds _ _ _ _ _) (λ s _. node-adds _ _ _ _ _))
unary-adds s RoundToIntegral top = next _ (node-adds _ _ _ _ _) (λ s _. next _ (node-adds _ _ _ _ _) (λ s _. node-adds _ _ _ _ _))

pub unordered-adds : (s : State) (a b : ℕ) → Adds s 3 0 (unordered_of s a b)
unfolding unordered_of
unordered-adds s a b = next _ (node-adds _ _ _ _ _) (λ s _. next _ (node-adds _ _ _ _ _) (λ s _. node-adds _ _ _ _ _))

flag-is-adds : (s : State) (flag value : ℕ) → Adds s 3 0 (flag_is_of s flag value)
unfolding flag_is_of
flag-is-adds s flag value = next _ (node-adds _ _ _ _ _) (λ s _. next _ (node-adds _ _ _ _ _) (λ s _. node-adds _ _ _ _ _))

flag-only : (s : State) (flag value : ℕ) → Adds s 7 0 (flag_is_of s flag value)
flag-only s flag value = more (flag-is-adds s flag value) (omega arith) (omega arith)

pub predicate-adds : (s : State) (condition : X87Condition) → Adds s 7 0 (predicate_of s condition)
unfolding predicate_of
predicate-adds s Below = flag-only s 0 1
predicate-adds s Equal = flag-only s 2 1
predicate-adds s BelowOrEqual = next _ (flag-is-adds s 0 1) (λ s _. next _ (flag-is-adds s 2 1) (λ s _. node-adds _ _ _ _ _))
predicate-adds s Unordered = flag-only s 1 1
predicate-adds s NotBelow = flag-only s 0 0
predicate-adds s NotEqual = flag-only s 2 0
predicate-adds s NotBelowOrEqual = next _ (flag-is-adds s 0 0) (λ s _. next _ (flag-is-adds s 2 0) (λ s _. node-adds _ _ _ _ _))
predicate-adds s NotUnordered = flag-only s 1 0

pub x87-status-word-adds : (s : State) (c0 c2 c3 : ℕ) → Adds s 11 0 (x87_status_word_of s c0 c2 c3)
unfolding x87_status_word_of
x87-status-word-adds s c0 c2 c3 =
    next _ (fresh-adds s 16) (λ s free.
    next _ (node-adds _ _ _ _ _) (λ s busy.
    next _ (node-adds _ _ _ _ _) (λ s top.
    next _ (node-adds _ _ _ _ _) (λ s c1.
    next _ (node-adds _ _ _ _ _) (λ s exceptions.
    next _ (node-adds _ _ _ _ _) (λ s from-c0.
    next _ (node-adds _ _ _ _ _) (λ s from-c1.
    next _ (node-adds _ _ _ _ _) (λ s from-c2.
    next _ (node-adds _ _ _ _ _) (λ s from-top.
    next _ (node-adds _ _ _ _ _) (λ s from-c3.
    node-adds _ _ _ _ _))))))))))
