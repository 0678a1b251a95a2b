-- The numbers that answers and forms have outside (the manual, sections 4, 7 and 9): those of forms follow the order of the Rust's declarations.
use Rattle.std.specs.Prelude.{Bool, true, false, List, [], ◌∷◌, ℕ, Option, Some, None, Result, Ok, Err}
use Rattle.forms.specs.declared.X87Arith.{X87Arith}
use Rattle.forms.specs.declared.X87Arith.TheVariants.{Add, Sub, Mul, Div}
use Rattle.forms.specs.declared.MemFormat.{MemFormat}
use Rattle.forms.specs.declared.MemFormat.TheVariants.{Float, Integer}
use Rattle.forms.specs.declared.RoundingMode.{RoundingMode}
use Rattle.forms.specs.declared.RoundingMode.TheVariants.{NearestTiesEven, TowardZero}
use Rattle.forms.specs.declared.ArithSrc.{ArithSrc}
use Rattle.forms.specs.declared.ArithSrc.TheVariants.{Slot, Memory}
use Rattle.forms.specs.declared.X87Condition.{X87Condition}
use Rattle.forms.specs.declared.X87Condition.TheVariants.{Below, Equal, BelowOrEqual, Unordered, NotBelow, NotEqual, NotBelowOrEqual, NotUnordered}
use Rattle.forms.specs.declared.UnaryOp.{UnaryOp}
use Rattle.forms.specs.declared.UnaryOp.TheVariants.{Abs, Chs, Sqrt, RoundToIntegral}
use Rattle.forms.specs.declared.Form.{Form}
use Rattle.forms.specs.declared.Form.TheVariants.{PushConst, PushMemory, PushSlot, StoreMemory, StoreSlot, Arith, CompareStatus, CompareFlags, ConditionalMove, StoreStatus, Exchange, Unary}
use Rattle.forms.specs.declared.BadInstruction.{BadInstruction}
use Rattle.forms.specs.declared.BadInstruction.TheVariants as bad
use Rattle.forms.specs.Classify.{Classified}
use Rattle.forms.specs.Effects.{Affected}
use Rattle.forms.specs.declared.Effect.{Effect}

abbrev pub bit : Bool → ℕ
bit false = 0
bit true = 1

-- rounding 0 is nearest even, 1 toward zero
abbrev pub rounding_number : RoundingMode → ℕ
rounding_number NearestTiesEven = 0
rounding_number TowardZero = 1

abbrev pub arith_number : X87Arith → ℕ
arith_number Add = 0
arith_number Sub = 1
arith_number Mul = 2
arith_number Div = 3

abbrev pub format_number : MemFormat → ℕ
format_number Float = 0
format_number Integer = 1

abbrev pub condition_number : X87Condition → ℕ
condition_number Below = 0
condition_number Equal = 1
condition_number BelowOrEqual = 2
condition_number Unordered = 3
condition_number NotBelow = 4
condition_number NotEqual = 5
condition_number NotBelowOrEqual = 6
condition_number NotUnordered = 7

abbrev pub unary_number : UnaryOp → ℕ
unary_number Abs = 0
unary_number Chs = 1
unary_number Sqrt = 2
unary_number RoundToIntegral = 3

-- a source: 0 for a place, 1 for memory; the place or the width; the format
abbrev pub src_kind : ArithSrc → ℕ
src_kind (Slot i) = 0
src_kind (Memory w f) = 1

abbrev pub src_value : ArithSrc → ℕ
src_value (Slot i) = i
src_value (Memory w f) = w

abbrev pub src_format : ArithSrc → ℕ
src_format (Slot i) = 0
src_format (Memory w f) = format_number f

-- a form in eight words: its number, then its fields, then zeros
abbrev pub words_of : Form → List ℕ
words_of (PushConst low high) = 1 ∷ low ∷ high ∷ 0 ∷ 0 ∷ 0 ∷ 0 ∷ 0 ∷ []
words_of (PushMemory w f) = 2 ∷ w ∷ format_number f ∷ 0 ∷ 0 ∷ 0 ∷ 0 ∷ 0 ∷ []
words_of (PushSlot i) = 3 ∷ i ∷ 0 ∷ 0 ∷ 0 ∷ 0 ∷ 0 ∷ 0 ∷ []
words_of (StoreMemory w f pop r) = 4 ∷ w ∷ format_number f ∷ bit pop ∷ rounding_number r ∷ 0 ∷ 0 ∷ 0 ∷ []
words_of (StoreSlot i pop) = 5 ∷ i ∷ bit pop ∷ 0 ∷ 0 ∷ 0 ∷ 0 ∷ 0 ∷ []
words_of (Arith op d s rev pop) = 6 ∷ arith_number op ∷ d ∷ src_kind s ∷ src_value s ∷ src_format s ∷ bit rev ∷ bit pop ∷ []
words_of (CompareStatus s p) = 7 ∷ src_kind s ∷ src_value s ∷ src_format s ∷ p ∷ 0 ∷ 0 ∷ 0 ∷ []
words_of (CompareFlags i pop) = 8 ∷ i ∷ bit pop ∷ 0 ∷ 0 ∷ 0 ∷ 0 ∷ 0 ∷ []
words_of (ConditionalMove i k) = 9 ∷ i ∷ condition_number k ∷ 0 ∷ 0 ∷ 0 ∷ 0 ∷ 0 ∷ []
words_of StoreStatus = 10 ∷ 0 ∷ 0 ∷ 0 ∷ 0 ∷ 0 ∷ 0 ∷ 0 ∷ []
words_of (Exchange i) = 11 ∷ i ∷ 0 ∷ 0 ∷ 0 ∷ 0 ∷ 0 ∷ 0 ∷ []
words_of (Unary op) = 12 ∷ unary_number op ∷ 0 ∷ 0 ∷ 0 ∷ 0 ∷ 0 ∷ 0 ∷ []

abbrev pub no_words : List ℕ
no_words = 0 ∷ 0 ∷ 0 ∷ 0 ∷ 0 ∷ 0 ∷ 0 ∷ 0 ∷ []

-- of a form or an effect: 0 modelled, 1 declined, 3 and 4 refused
abbrev pub number_of : {A : Type 0} → Result (Option A) BadInstruction → ℕ
number_of (Ok (Some x)) = 0
number_of (Ok None) = 1
number_of (Err bad.Text) = 3
number_of (Err bad.Operands) = 4

-- beside 1, 3 and 4 every field is 0
abbrev pub fields_of : Classified → List ℕ
fields_of (Ok (Some f)) = words_of f
fields_of (Ok None) = no_words
fields_of (Err e) = no_words

abbrev pub flags_of : Effect → List ℕ
flags_of e =
    bit e.defines_stack ∷ bit e.defines_status ∷ bit e.uses_stack ∷ bit e.uses_status ∷ bit e.defines_flags ∷ bit e.reads_flags ∷ bit e.writes_ax ∷ []

abbrev pub no_flags : List ℕ
no_flags = 0 ∷ 0 ∷ 0 ∷ 0 ∷ 0 ∷ 0 ∷ 0 ∷ []

abbrev pub effect_fields : Affected → List ℕ
effect_fields (Ok (Some e)) = flags_of e
effect_fields (Ok None) = no_flags
effect_fields (Err e) = no_flags
