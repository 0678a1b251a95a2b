-- The 56 names, and what each stands for: those that `classify` lists, `fcmov` with its eight suffixes, and six arithmetic names with and without a final `p`.
use Rattle.std.specs.Prelude.{Bool, true, false, cond, List, [], ◌∷◌, ℕ, ◌^◌, Option, Some, None}
use Prim.Native.String as str
use Rattle.texts.specs.Bytes.{bytes}
use Rattle.texts.specs.Letters.{trim_of, same_letters}
use Rattle.forms.specs.declared.Family.{Family}
use Rattle.forms.specs.declared.Family.TheVariants.{Plain, Exchange, Load, Store, StatusCompare, PairedCompare, FlagCompare, StoreStatus, ConditionalMove, IntegerArith, IntegerCompare, Arith}
use Rattle.forms.specs.declared.Form.{Form}
use Rattle.forms.specs.declared.Form.TheVariants.{PushConst, Unary}
use Rattle.forms.specs.declared.UnaryOp.TheVariants.{Abs, Chs, Sqrt, RoundToIntegral}
use Rattle.forms.specs.declared.MemFormat.TheVariants.{Float, Integer}
use Rattle.forms.specs.declared.MemFormat.{MemFormat}
use Rattle.forms.specs.declared.MemorySource.TheVariants.{Allowed, Forbidden}
use Rattle.forms.specs.declared.RoundingMode.{RoundingMode}
use Rattle.forms.specs.declared.RoundingMode.TheVariants.{NearestTiesEven, TowardZero}
use Rattle.forms.specs.declared.Widths.{Widths}
use Rattle.forms.specs.declared.Widths.TheVariants.{FloatWidths, FloatShort, IntWidths, IntStore}
use Rattle.forms.specs.declared.X87Arith.TheVariants.{Add, Sub, Mul, Div}
use Rattle.forms.specs.declared.X87Condition.TheVariants.{Below, Equal, BelowOrEqual, Unordered, NotBelow, NotEqual, NotBelowOrEqual, NotUnordered}

pub record Name : Type 0 where
  pub text : List ℕ
  pub family : Family

abbrev pub name : str.String → Family → Name
name s f = record { text = bytes s; family = f }

-- plus one: exponent 16383, no fraction
abbrev pub x87_one : Form
x87_one = PushConst (2 ^ 63) 8191

abbrev pub x87_zero : Form
x87_zero = PushConst 0 0

-- a store of what, to which widths, popping or not, rounded how
abbrev pub store : MemFormat → Widths → Bool → RoundingMode → Family
store f ws pop r = Store (record { format = f; widths = ws; pop = pop; rounding = r })

unfoldable pub names : List Name
names =
    name "fld1" (Plain x87_one) ∷
    name "fldz" (Plain x87_zero) ∷
    name "fabs" (Plain (Unary Abs)) ∷
    name "fchs" (Plain (Unary Chs)) ∷
    name "fsqrt" (Plain (Unary Sqrt)) ∷
    name "frndint" (Plain (Unary RoundToIntegral)) ∷
    name "fxch" Exchange ∷
    name "fld" (Load Float FloatWidths) ∷
    name "fild" (Load Integer IntWidths) ∷
    name "fst" (store Float FloatShort false NearestTiesEven) ∷
    name "fstp" (store Float FloatWidths true NearestTiesEven) ∷
    name "fist" (store Integer IntStore false NearestTiesEven) ∷
    name "fistp" (store Integer IntWidths true NearestTiesEven) ∷
    name "fisttp" (store Integer IntWidths true TowardZero) ∷
    name "fcom" (StatusCompare 0 Allowed) ∷
    name "fcomp" (StatusCompare 1 Allowed) ∷
    name "fucom" (StatusCompare 0 Forbidden) ∷
    name "fucomp" (StatusCompare 1 Forbidden) ∷
    name "fcompp" PairedCompare ∷
    name "fucompp" PairedCompare ∷
    name "fcomi" (FlagCompare false) ∷
    name "fucomi" (FlagCompare false) ∷
    name "fcompi" (FlagCompare true) ∷
    name "fucompi" (FlagCompare true) ∷
    name "fcomip" (FlagCompare true) ∷
    name "fucomip" (FlagCompare true) ∷
    name "fnstsw" StoreStatus ∷
    name "fstsw" StoreStatus ∷
    name "fcmovb" (ConditionalMove Below) ∷
    name "fcmove" (ConditionalMove Equal) ∷
    name "fcmovbe" (ConditionalMove BelowOrEqual) ∷
    name "fcmovu" (ConditionalMove Unordered) ∷
    name "fcmovnb" (ConditionalMove NotBelow) ∷
    name "fcmovne" (ConditionalMove NotEqual) ∷
    name "fcmovnbe" (ConditionalMove NotBelowOrEqual) ∷
    name "fcmovnu" (ConditionalMove NotUnordered) ∷
    name "fiadd" (IntegerArith Add false) ∷
    name "fimul" (IntegerArith Mul false) ∷
    name "fisub" (IntegerArith Sub false) ∷
    name "fisubr" (IntegerArith Sub true) ∷
    name "fidiv" (IntegerArith Div false) ∷
    name "fidivr" (IntegerArith Div true) ∷
    name "ficom" (IntegerCompare 0) ∷
    name "ficomp" (IntegerCompare 1) ∷
    name "fadd" (Arith Add false false) ∷
    name "fmul" (Arith Mul false false) ∷
    name "fsub" (Arith Sub false false) ∷
    name "fsubr" (Arith Sub true false) ∷
    name "fdiv" (Arith Div false false) ∷
    name "fdivr" (Arith Div true false) ∷
    name "faddp" (Arith Add false true) ∷
    name "fmulp" (Arith Mul false true) ∷
    name "fsubp" (Arith Sub false true) ∷
    name "fsubrp" (Arith Sub true true) ∷
    name "fdivp" (Arith Div false true) ∷
    name "fdivrp" (Arith Div true true) ∷
    []

-- what the first name of a table that the text spells, in either case, stands for
abbrev pub find : List ℕ → List Name → Option Family
find s [] = None
find s (n ∷ ns) = cond (same_letters s n.text) (Some n.family) (find s ns)

unfoldable pub family_of : List ℕ → Option Family
family_of s = find (trim_of s) names
