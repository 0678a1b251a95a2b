-- The numbers of formats and operations
use Rattle.std.specs.Prelude.{Bool, false, cond, ℕ, eqb}
use Rattle.forms.specs.declared.X87Arith.{X87Arith}
use Rattle.forms.specs.declared.X87Arith.TheVariants.{Add, Sub, Mul, Div}
use Rattle.forms.specs.declared.MemFormat.{MemFormat}
use Rattle.forms.specs.declared.MemFormat.TheVariants.{Float, Integer}

-- A format is exponent bits times 256 plus significand bits
abbrev pub single : ℕ
single = 2072

abbrev pub double : ℕ
double = 2869

abbrev pub extended : ℕ
extended = 3904

-- The rounding that x87 operations have at reset
abbrev pub nearest : ℕ
nearest = 0

-- fp_sort_bits_checked: the format of a float of 32 or of 64 bits in memory; `classify` lets no other width through
unfoldable pub format_of : ℕ → ℕ
format_of width = cond (eqb width 32) single (cond (eqb width 64) double extended)

-- Whether memory holds the 80-bit image
unfoldable pub is_image : ℕ → MemFormat → Bool
is_image width Float = eqb width 80
is_image width Integer = false

unfoldable pub arith_kind_of : X87Arith → ℕ
arith_kind_of Add = 16
arith_kind_of Sub = 17
arith_kind_of Mul = 18
arith_kind_of Div = 19
