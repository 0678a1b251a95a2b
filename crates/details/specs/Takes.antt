-- What each of the 56 names takes: one table, to be held beside the manual, section 2.
use Rattle.std.specs.Prelude.{List, [], ◌∷◌, ◌++◌, ℕ}
use Prim.Native.String as str
use Rattle.texts.specs.Bytes.{bytes}

-- the registers that an operand may be: none, st(0) to st(7), st(0) alone, ax
pub data Registers : Type 0 where
  no_register : Registers
  places : Registers
  st0-alone : Registers
  ax-alone : Registers

-- what one operand may be: anything, and it is not looked at; or one of these registers, or memory of one of these widths
pub data Takes : Type 0 where
  anything : Takes
  only : Registers → List ℕ → Takes

abbrev pub place : Takes
place = only places []

abbrev pub st0 : Takes
st0 = only st0-alone []

abbrev pub memory : List ℕ → Takes
memory ws = only no_register ws

abbrev pub place-or : List ℕ → Takes
place-or ws = only places ws

abbrev pub ax-or : List ℕ → Takes
ax-or ws = only ax-alone ws

-- no operand, one, two
abbrev pub none : List Takes
none = []

abbrev pub one : Takes → List Takes
one t = t ∷ []

abbrev pub two : Takes → Takes → List Takes
two t u = t ∷ u ∷ []

-- a name, and the lists of operands that it takes
pub record Row : Type 0 where
  pub text : List ℕ
  pub lists : List (List Takes)

-- names that take the same
abbrev pub each : List str.String → List (List Takes) → List Row
each [] ls = []
each (s ∷ ss) ls = record { text = bytes s; lists = ls } ∷ each ss ls

unfoldable pub table : List Row
table =
    each ("fld1" ∷ "fldz" ∷ "fabs" ∷ "fchs" ∷ "fsqrt" ∷ "frndint" ∷ []) (none ∷ [])
    ++ each ("fxch" ∷ []) (none ∷ one place ∷ [])
    ++ each ("fld" ∷ []) (one (place-or (32 ∷ 64 ∷ 80 ∷ [])) ∷ [])
    ++ each ("fild" ∷ []) (one (memory (16 ∷ 32 ∷ 64 ∷ [])) ∷ [])
    ++ each ("fst" ∷ []) (one (place-or (32 ∷ 64 ∷ [])) ∷ [])
    ++ each ("fstp" ∷ []) (one (place-or (32 ∷ 64 ∷ 80 ∷ [])) ∷ [])
    ++ each ("fist" ∷ []) (one (memory (16 ∷ 32 ∷ [])) ∷ [])
    ++ each ("fistp" ∷ "fisttp" ∷ []) (one (memory (16 ∷ 32 ∷ 64 ∷ [])) ∷ [])
    ++ each ("fcom" ∷ "fcomp" ∷ []) (none ∷ one (place-or (32 ∷ 64 ∷ [])) ∷ [])
    ++ each ("fucom" ∷ "fucomp" ∷ []) (none ∷ one place ∷ [])
    ++ each ("fcompp" ∷ "fucompp" ∷ []) (none ∷ [])
    ++ each ("fcomi" ∷ "fucomi" ∷ "fcompi" ∷ "fucompi" ∷ "fcomip" ∷ "fucomip" ∷ []) (one place ∷ two anything place ∷ [])
    ++ each ("fnstsw" ∷ "fstsw" ∷ []) (one (ax-or (16 ∷ [])) ∷ [])
    ++ each ("fcmovb" ∷ "fcmove" ∷ "fcmovbe" ∷ "fcmovu" ∷ "fcmovnb" ∷ "fcmovne" ∷ "fcmovnbe" ∷ "fcmovnu" ∷ []) (two st0 place ∷ [])
    ++ each ("fiadd" ∷ "fimul" ∷ "fisub" ∷ "fisubr" ∷ "fidiv" ∷ "fidivr" ∷ []) (one (memory (16 ∷ 32 ∷ [])) ∷ [])
    ++ each ("ficom" ∷ "ficomp" ∷ []) (one (memory (16 ∷ 32 ∷ [])) ∷ [])
    ++ each ("fadd" ∷ "fmul" ∷ "fsub" ∷ "fsubr" ∷ "fdiv" ∷ "fdivr" ∷ []) (one (place-or (32 ∷ 64 ∷ [])) ∷ two place place ∷ [])
    ++ each ("faddp" ∷ "fmulp" ∷ "fsubp" ∷ "fsubrp" ∷ "fdivp" ∷ "fdivrp" ∷ []) (none ∷ one place ∷ two place place ∷ [])
