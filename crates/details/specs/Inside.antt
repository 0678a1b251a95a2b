-- How the code finds the detail: by the name's shape and the number of operands. No public promise rests on this.
use Rattle.std.specs.Prelude.{Bool, true, false, cond, ◌||◌, List, ℕ, eqb, get_or, Option, Some, None}
use Rattle.std.specs.Option.{option_or}
use Rattle.forms.specs.declared.Operand.{Operand}
use Rattle.forms.specs.declared.One.{One}
use Rattle.forms.specs.declared.One.TheVariants as one
use Rattle.forms.specs.declared.Shape.{Shape}
use Rattle.forms.specs.declared.Two.{Two}
use Rattle.forms.specs.declared.Two.TheVariants as two
use Rattle.forms.specs.Operands.{widths_of, no_operand}
use Rattle.details.specs.declared.Reason.{Reason}
use Rattle.details.specs.declared.Reason.TheVariants.{UnknownName, WrongCount, WrongKind, UnknownAddress, WrongWidth}
use Rattle.details.specs.Takes.{Takes, place, st0, memory, place-or, ax-or}
use Rattle.details.specs.Why.{kind_off, address_off, width_off}

-- the detail of one operand, and of two
unfoldable pub why_one : Takes → Operand → Option Reason
why_one t o = cond (kind_off t o) (Some WrongKind) (cond (address_off t o) (Some UnknownAddress) (cond (width_off t o) (Some WrongWidth) None))

unfoldable pub why_two : Takes → Takes → Operand → Operand → Option Reason
why_two t u a b =
    cond (kind_off t a || kind_off u b) (Some WrongKind)
    (cond (address_off t a || address_off u b) (Some UnknownAddress)
    (cond (width_off t a || width_off u b) (Some WrongWidth)
    None))

-- of memory that is taken
abbrev pub memory_why : Bool → Bool → Option Reason
memory_why known taken = cond known (cond taken None (Some WrongWidth)) (Some UnknownAddress)

-- of two operands, neither of which may be memory
abbrev pub both_of : Option Reason → Option Reason → Option Reason
both_of a b = option_or a b

-- without an operand
abbrev pub alone_of : Bool → Option Reason
alone_of true = None
alone_of false = Some WrongCount

-- with one
unfoldable pub why_only : Option One → Operand → Option Reason
why_only None o = Some WrongCount
why_only (Some one.Place) o = why_one place o
why_only (Some (one.PlaceOr ws)) o = why_one (place-or (widths_of ws)) o
why_only (Some (one.Memory ws)) o = why_one (memory (widths_of ws)) o
why_only (Some (one.AxOr ws)) o = why_one (ax-or (widths_of ws)) o

-- with two
unfoldable pub why_pair : Option Two → Operand → Operand → Option Reason
why_pair None a b = Some WrongCount
why_pair (Some two.Second) a b = why_one place b
why_pair (Some two.TopAnd) a b = why_two st0 place a b
why_pair (Some two.Places) a b = why_two place place a b

unfoldable pub why_by : Option Shape → ℕ → List Operand → Option Reason
why_by None n os = Some UnknownName
why_by (Some f) n os =
    cond (eqb n 0) (alone_of f.alone)
    (cond (eqb n 1) (why_only f.one (get_or os 0 no_operand))
    (cond (eqb n 2) (why_pair f.two (get_or os 0 no_operand) (get_or os 1 no_operand))
    (Some WrongCount)))
