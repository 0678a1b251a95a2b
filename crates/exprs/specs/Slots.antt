-- Between a slot's 79-bit pattern, a float, and what memory holds
use Rattle.std.specs.Prelude.{cond, ℕ}
use Rattle.lists.specs.Steps.{Built, ◌▸◌}
use Rattle.lists.specs.declared.State.{State}
use Rattle.forms.specs.Numbers.{rounding_number}
use Rattle.forms.specs.declared.RoundingMode.{RoundingMode}
use Rattle.forms.specs.declared.MemFormat.{MemFormat}
use Rattle.forms.specs.declared.MemFormat.TheVariants.{Float, Integer}
use Rattle.exprs.specs.Nodes.{bv_to_fp_of, fp_to_ieee_bv_of, fp_to_fp_of, fp_to_sbv_of, sbv_to_fp_of}
use Rattle.exprs.specs.Formats.{extended, nearest, format_of, is_image}
use Rattle.exprs.specs.Image.{extended_to_memory_of}

-- A slot's pattern as a float
abbrev pub as_extended_of : State → ℕ → Built
as_extended_of s x = bv_to_fp_of s x extended

-- A float as a slot's pattern
abbrev pub from_extended_of : State → ℕ → Built
from_extended_of s x = fp_to_ieee_bv_of s x

-- A float of 32 or 64 bits, and an integer of 16, 32 or 64, as a slot's pattern
unfoldable pub float_to_slot_of : State → ℕ → ℕ → Built
float_to_slot_of s raw width =
    bv_to_fp_of s raw (format_of width) ▸ λ s x.
    fp_to_fp_of s x nearest extended ▸ λ s y.
    from_extended_of s y

unfoldable pub integer_to_slot_of : State → ℕ → Built
integer_to_slot_of s raw =
    sbv_to_fp_of s raw nearest extended ▸ λ s x.
    from_extended_of s x

-- What memory holds, as a slot's pattern: all but the 80-bit image
unfoldable pub to_slot_of : State → ℕ → ℕ → MemFormat → Built
to_slot_of s raw width Float = float_to_slot_of s raw width
to_slot_of s raw width Integer = integer_to_slot_of s raw

-- A slot's pattern rounded to what memory holds: all but the 80-bit image
unfoldable pub narrowed_of : State → ℕ → ℕ → MemFormat → RoundingMode → Built
narrowed_of s value width Float rounding =
    as_extended_of s value ▸ λ s x.
    fp_to_fp_of s x (rounding_number rounding) (format_of width) ▸ λ s y.
    from_extended_of s y
narrowed_of s value width Integer rounding =
    as_extended_of s value ▸ λ s x.
    fp_to_sbv_of s x (rounding_number rounding) width

unfoldable pub from_slot_of : State → ℕ → ℕ → MemFormat → RoundingMode → Built
from_slot_of s value width format rounding =
    cond (is_image width format) (extended_to_memory_of s value) (narrowed_of s value width format rounding)
