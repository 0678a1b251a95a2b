-- The sorts of the expressions: a step's facts are numbered in the order of the definition, its arguments first
use Rattle.std.specs.Prelude.{◌≡◌, refl, true, ◌&&◌, [], ◌∷◌, ℕ, ◌+◌, ◌*◌, ◌^◌, leb, ltb, eqb}
use Rattle.std.proofs.Common.{zero-add}
use Rattle.sorts.specs.Sorts.{is_bits, is_float, is_word, pattern_width}
use Rattle.sorts.specs.Good.{cond_has}
use Rattle.lists.specs.declared.State.{State}
use Rattle.forms.specs.declared.X87Arith.{X87Arith}
use Rattle.forms.specs.declared.UnaryOp.{UnaryOp}
use Rattle.forms.specs.declared.UnaryOp.TheVariants.{Abs, Chs, Sqrt, RoundToIntegral}
use Rattle.forms.specs.declared.RoundingMode.{RoundingMode}
use Rattle.forms.specs.declared.RoundingMode.TheVariants.{NearestTiesEven, TowardZero}
use Rattle.forms.specs.declared.X87Condition.{X87Condition}
use Rattle.forms.specs.declared.X87Condition.TheVariants.{Below, Equal, BelowOrEqual, Unordered, NotBelow, NotEqual, NotBelowOrEqual, NotUnordered}
use Rattle.forms.specs.declared.MemFormat.TheVariants.{Float, Integer}
use Rattle.forms.specs.Numbers.{rounding_number}
use Rattle.exprs.specs.Formats.{extended, format_of}
use Rattle.exprs.specs.Slots.{float_to_slot_of, integer_to_slot_of, narrowed_of}
use Rattle.exprs.specs.Image.{extended_from_memory_of, extended_to_memory_of}
use Rattle.exprs.specs.Operations.{extended_arith_of, unary_of, unordered_of, flag_is_of, predicate_of}
use Rattle.exprs.specs.Status.{x87_status_word_of}
use Rattle.agreement.proofs.Fine.{◌has◌, Fine, next, by}
use Rattle.agreement.proofs.Fine.Nodes.{node, fresh-node}
use Rattle.agreement.proofs.Fine.Kinds.{input, flag as is-flag, konst, bv-and, bv-xor, equal, bool-and, bool-or, bool-not, ite, extract, concat, f-arith, f-is-nan, f-sqrt, f-round, bv-to-fp, fp-to-bv, fp-to-fp, fp-to-sbv, sbv-to-fp}

pub extended-from-memory : (s : State) (image free : ℕ) → Fine s (image has 80 ∷ free has 79 ∷ []) 79 (extended_from_memory_of s image free)
unfolding extended_from_memory_of
extended-from-memory s image free =
    next _ (node (0 ∷ []) (extract refl)) (λ s sign.
    next _ (node (0 ∷ []) (extract refl)) (λ s exponent.
    next _ (node (0 ∷ []) (extract refl)) (λ s integer.
    next _ (node (0 ∷ []) (extract refl)) (λ s fraction.
    next _ (node [] (konst refl)) (λ s zero.
    next _ (node (3 ∷ 6 ∷ []) (equal refl)) (λ s zero_exponent.
    next _ (node [] (konst refl)) (λ s one.
    next _ (node (4 ∷ 8 ∷ []) (equal refl)) (λ s leading.
    next _ (node (9 ∷ []) bool-not) (λ s not-leading.
    next _ (node (7 ∷ 10 ∷ []) bool-and) (λ s denormal.
    next _ (node (7 ∷ []) bool-not) (λ s not-zero.
    next _ (node (12 ∷ 9 ∷ []) bool-and) (λ s normal.
    next _ (node (11 ∷ 13 ∷ []) bool-or) (λ s canonical.
    next _ (node (3 ∷ 5 ∷ []) (concat refl)) (λ s low.
    next _ (node (2 ∷ 15 ∷ []) (concat refl)) (λ s pattern.
    node (14 ∷ 16 ∷ 1 ∷ []) (ite refl))))))))))))))))

pub extended-to-memory : (s : State) (pattern : ℕ) → Fine s (pattern has 79 ∷ []) 80 (extended_to_memory_of s pattern)
unfolding extended_to_memory_of
extended-to-memory s pattern =
    next _ (node (0 ∷ []) (extract refl)) (λ s sign.
    next _ (node (0 ∷ []) (extract refl)) (λ s exponent.
    next _ (node (0 ∷ []) (extract refl)) (λ s fraction.
    next _ (node [] (konst refl)) (λ s zero.
    next _ (node (2 ∷ 4 ∷ []) (equal refl)) (λ s zero_exponent.
    next _ (node [] (konst refl)) (λ s zero_bit.
    next _ (node [] (konst refl)) (λ s one_bit.
    next _ (node (5 ∷ 6 ∷ 7 ∷ []) (ite refl)) (λ s integer.
    next _ (node (8 ∷ 3 ∷ []) (concat refl)) (λ s significand.
    next _ (node (2 ∷ 9 ∷ []) (concat refl)) (λ s low.
    node (1 ∷ 10 ∷ []) (concat refl)))))))))))

format-is-float : (width : ℕ) → is_float (format_of width) ≡ true
unfolding format_of
format-is-float width =
    cond_has (λ (f : ℕ). is_float f ≡ true) (eqb width 32) _ _ (λ _. refl) (cond_has (λ (f : ℕ). is_float f ≡ true) (eqb width 64) _ _ (λ _. refl) refl)

-- What memory holds, as a slot's pattern: a float, an integer
pub float-to-slot : (s : State) (raw width : ℕ) → Fine s (raw has pattern_width (format_of width) ∷ []) 79 (float_to_slot_of s raw width)
unfolding float_to_slot_of
float-to-slot s raw width =
    next _ (node (0 ∷ []) (bv-to-fp (format-is-float width))) (λ s x.
    next _ (node (1 ∷ []) (fp-to-fp (format-is-float width) refl refl)) (λ s y.
    node (2 ∷ []) (fp-to-bv refl)))

pub integer-to-slot : (s : State) (raw bits : ℕ) → is_word bits ≡ true → Fine s (raw has bits ∷ []) 79 (integer_to_slot_of s raw)
unfolding integer_to_slot_of
integer-to-slot s raw bits e = next _ (node (0 ∷ []) (sbv-to-fp e refl)) (λ s x. node (1 ∷ []) (fp-to-bv refl))

rounding-small : (r : RoundingMode) → leb (rounding_number r) 1 ≡ true
rounding-small NearestTiesEven = refl
rounding-small TowardZero = refl

-- A slot's pattern, as memory holds it
pub narrowed_float : (s : State) (value width : ℕ) (r : RoundingMode)
    → Fine s (value has 79 ∷ []) (pattern_width (format_of width)) (narrowed_of s value width Float r)
unfolding narrowed_of
narrowed_float s value width r =
    next _ (node (0 ∷ []) (bv-to-fp refl)) (λ s x.
    next _ (node (1 ∷ []) (fp-to-fp refl (rounding-small r) (format-is-float width))) (λ s y.
    node (2 ∷ []) (fp-to-bv (format-is-float width))))

pub narrowed-integer : (s : State) (value bits : ℕ) (r : RoundingMode) → is_word bits ≡ true → Fine s (value has 79 ∷ []) bits (narrowed_of s value bits Integer r)
unfolding narrowed_of
narrowed-integer s value bits r e = next _ (node (0 ∷ []) (bv-to-fp refl)) (λ s x. node (1 ∷ []) (fp-to-sbv e (rounding-small r)))

pub extended-arith : (s : State) (op : X87Arith) (lhs rhs : ℕ) → Fine s (lhs has 79 ∷ rhs has 79 ∷ []) 79 (extended_arith_of s op lhs rhs)
unfolding extended_arith_of
extended-arith s op lhs rhs =
    next _ (node (0 ∷ []) (bv-to-fp refl)) (λ s a.
    next _ (node (1 ∷ []) (bv-to-fp refl)) (λ s b.
    next _ (node (2 ∷ 3 ∷ []) (f-arith op)) (λ s x.
    node (4 ∷ []) (fp-to-bv refl))))

pub unary : (s : State) (op : UnaryOp) (top : ℕ) → Fine s (top has 79 ∷ []) 79 (unary_of s op top)
unfolding unary_of
unary s Abs top = next _ (node [] (konst refl)) (λ s magnitude. node (0 ∷ 1 ∷ []) (bv-and refl))
unary s Chs top = next _ (node [] (konst refl)) (λ s sign. node (0 ∷ 1 ∷ []) (bv-xor refl))
unary s Sqrt top = next _ (node (0 ∷ []) (bv-to-fp refl)) (λ s x. next _ (node (1 ∷ []) f-sqrt) (λ s y. node (2 ∷ []) (fp-to-bv refl)))
unary s RoundToIntegral top = next _ (node (0 ∷ []) (bv-to-fp refl)) (λ s x. next _ (node (1 ∷ []) f-round) (λ s y. node (2 ∷ []) (fp-to-bv refl)))

pub unordered : (s : State) (a b : ℕ) → Fine s (a has extended ∷ b has extended ∷ []) 1 (unordered_of s a b)
unfolding unordered_of
unordered s a b = next _ (node (0 ∷ []) f-is-nan) (λ s x. next _ (node (1 ∷ []) f-is-nan) (λ s y. node (2 ∷ 3 ∷ []) bool-or))

-- A flag, which is one of three, compared with a bit
flag_is : (s : State) (flag value : ℕ) → leb flag 2 ≡ true → ltb value 2 ≡ true → Fine s [] 1 (flag_is_of s flag value)
unfolding flag_is_of
flag_is s flag value e k = next _ (node [] (is-flag e)) (λ s f. next _ (node [] (konst (bit value k))) (λ s k. node (0 ∷ 1 ∷ []) (equal refl)))
  where
    bit : (value : ℕ) → ltb value 2 ≡ true → (is_bits 1 && ltb (0 * 2 ^ 64 + value) (2 ^ 1)) ≡ true
    bit value k = rw zero-add k

pub predicate : (s : State) (condition : X87Condition) → Fine s [] 1 (predicate_of s condition)
unfolding predicate_of
predicate s Below = flag_is s 0 1 refl refl
predicate s Equal = flag_is s 2 1 refl refl
predicate s BelowOrEqual = next _ (flag_is s 0 1 refl refl) (λ s _. next _ (by [] (flag_is s 2 1 refl refl)) (λ s _. node (0 ∷ 1 ∷ []) bool-or))
predicate s Unordered = flag_is s 1 1 refl refl
predicate s NotBelow = flag_is s 0 0 refl refl
predicate s NotEqual = flag_is s 2 0 refl refl
predicate s NotBelowOrEqual = next _ (flag_is s 0 0 refl refl) (λ s _. next _ (by [] (flag_is s 2 0 refl refl)) (λ s _. node (0 ∷ 1 ∷ []) bool-and))
predicate s NotUnordered = flag_is s 1 0 refl refl

pub status-word : (s : State) (c0 c2 c3 : ℕ) → Fine s (c0 has 1 ∷ c2 has 1 ∷ c3 has 1 ∷ []) 16 (x87_status_word_of s c0 c2 c3)
unfolding x87_status_word_of
status-word s c0 c2 c3 =
    next _ (by [] (fresh-node (input refl))) (λ s free.
    next _ (node (3 ∷ []) (extract refl)) (λ s busy.
    next _ (node (3 ∷ []) (extract refl)) (λ s top.
    next _ (node [] (konst refl)) (λ s c1.
    next _ (node (3 ∷ []) (extract refl)) (λ s exceptions.
    next _ (node (0 ∷ 7 ∷ []) (concat refl)) (λ s from-c0.
    next _ (node (6 ∷ 8 ∷ []) (concat refl)) (λ s from-c1.
    next _ (node (1 ∷ 9 ∷ []) (concat refl)) (λ s from-c2.
    next _ (node (5 ∷ 10 ∷ []) (concat refl)) (λ s from-top.
    next _ (node (2 ∷ 11 ∷ []) (concat refl)) (λ s from-c3.
    node (4 ∷ 12 ∷ []) (concat refl)))))))))))
