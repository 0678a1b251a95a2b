-- What the names of each family take: on their own, with one operand, with two.
use Rattle.std.specs.Prelude.{Bool, true, false, Option, Some, None}
use Rattle.forms.specs.declared.Family.{Family}
use Rattle.forms.specs.declared.Family.TheVariants as family
use Rattle.forms.specs.declared.MemFormat.{MemFormat}
use Rattle.forms.specs.declared.MemFormat.TheVariants.{Float, Integer}
use Rattle.forms.specs.declared.MemorySource.{MemorySource}
use Rattle.forms.specs.declared.MemorySource.TheVariants.{Allowed, Forbidden}
use Rattle.forms.specs.declared.One.{One}
use Rattle.forms.specs.declared.One.TheVariants as one
use Rattle.forms.specs.declared.Shape.{Shape}
use Rattle.forms.specs.declared.Two.{Two}
use Rattle.forms.specs.declared.Two.TheVariants as two
use Rattle.forms.specs.declared.Widths.{Widths}
use Rattle.forms.specs.declared.Widths.TheVariants.{FloatShort, IntArith, StatusWidth}

abbrev pub shaped_of : Bool → Option One → Option Two → Shape
shaped_of alone o t = record { alone = alone; one = o; two = t }

-- a place is loaded and stored to as a float alone
abbrev pub moved_one : MemFormat → Widths → One
moved_one Float ws = one.PlaceOr ws
moved_one Integer ws = one.Memory ws

abbrev pub compared_one : MemorySource → One
compared_one Allowed = one.PlaceOr FloatShort
compared_one Forbidden = one.Place

-- there is no popping form with memory
abbrev pub arith_one : Bool → One
arith_one true = one.Place
arith_one false = one.PlaceOr FloatShort

unfoldable pub shape_of : Family → Shape
shape_of (family.Plain f) = shaped_of true None None
shape_of family.Exchange = shaped_of true (Some one.Place) None
shape_of (family.Load f ws) = shaped_of false (Some (moved_one f ws)) None
shape_of (family.Store spec) = shaped_of false (Some (moved_one spec.format spec.widths)) None
shape_of (family.StatusCompare p m) = shaped_of true (Some (compared_one m)) None
shape_of family.PairedCompare = shaped_of true None None
shape_of (family.FlagCompare pop) = shaped_of false (Some one.Place) (Some two.Second)
shape_of family.StoreStatus = shaped_of false (Some (one.AxOr StatusWidth)) None
shape_of (family.ConditionalMove k) = shaped_of false None (Some two.TopAnd)
shape_of (family.IntegerArith op rev) = shaped_of false (Some (one.Memory IntArith)) None
shape_of (family.IntegerCompare p) = shaped_of false (Some (one.Memory IntArith)) None
shape_of (family.Arith op rev pop) = shaped_of pop (Some (arith_one pop)) (Some two.Places)
