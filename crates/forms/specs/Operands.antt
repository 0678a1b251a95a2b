-- Operands: their range, the place that one names, the width that it has.
use mathlib.Core.Bool.{Bool, true, cond, ◌&&◌, ◌||◌}
use Rattle.std.specs.Prelude.{List, [], ◌∷◌, ℕ, leb, eqb, get_or, Option, Some, None}
use Rattle.texts.specs.Bytes.{bytes, bytes_of, valid_of}
use Rattle.texts.specs.Letters.{trim_of, same_letters}
use Rattle.texts.specs.Places.{place_of}
use Rattle.forms.specs.declared.Operand.{Operand}
use Rattle.forms.specs.declared.Widths.{Widths}
use Rattle.forms.specs.declared.Widths.TheVariants.{FloatWidths, FloatShort, IntWidths, IntArith, IntStore, StatusWidth}

-- a kind, and a memory operand's flag, in range
unfoldable pub ranged_is : Operand → Bool
ranged_is o = cond (eqb o.kind 1) (leb o.known 1) (leb o.kind 2)

-- a register's text is one
unfoldable pub spelled_is : Operand → Bool
spelled_is o = cond (eqb o.kind 0) (valid_of o.text) true

-- the place that an operand names: a register's text
unfoldable pub slot_of : Operand → Option ℕ
slot_of o = cond (eqb o.kind 0) (place_of (bytes_of o.text)) None

-- the register `ax`, in either case
unfoldable pub ax_of : List ℕ → Bool
ax_of s = same_letters (trim_of s) (bytes "ax")

-- the widths that a table lists
abbrev pub widths_of : Widths → List ℕ
widths_of FloatWidths = 32 ∷ 64 ∷ 80 ∷ []
widths_of FloatShort = 32 ∷ 64 ∷ []
widths_of IntWidths = 16 ∷ 32 ∷ 64 ∷ []
widths_of IntArith = 16 ∷ 32 ∷ []
widths_of IntStore = 16 ∷ 32 ∷ []
widths_of StatusWidth = 16 ∷ []

abbrev pub among : ℕ → List ℕ → Bool
among w [] = mathlib.Core.Bool.false
among w (x ∷ []) = eqb w x
among w (x ∷ y ∷ s) = eqb w x || among w (y ∷ s)

abbrev pub takes_of : Widths → ℕ → Bool
takes_of ws w = among w (widths_of ws)

-- the width of a memory operand whose address is known, where the table lists it
unfoldable pub width_of : Widths → Operand → Option ℕ
width_of ws o = cond (eqb o.kind 1 && (eqb o.known 1 && takes_of ws o.width)) (Some o.width) None

-- an instruction's operands, as far as a family looks at them
pub data Operands : Type 0 where
  none : Operands
  one : Operand → Operands
  two : Operand → Operand → Operands
  more : Operands

-- stands past the end of the three records
abbrev pub no_operand : Operand
no_operand = record { kind = 0; text = record { bytes = []; len = 0 }; width = 0; known = 0; address = 0; slot = 0 }

-- the records below the count
abbrev pub operands_of : ℕ → List Operand → Operands
operands_of n s =
    cond (eqb n 0) none
    (cond (eqb n 1) (one (get_or s 0 no_operand))
    (cond (eqb n 2) (two (get_or s 0 no_operand) (get_or s 1 no_operand)) more))

-- the records themselves
abbrev pub operands_in : List Operand → Operands
operands_in [] = none
operands_in (a ∷ []) = one a
operands_in (a ∷ b ∷ []) = two a b
operands_in (a ∷ b ∷ c ∷ s) = more
