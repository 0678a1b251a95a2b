-- A push answers an error exactly where it overflows
use mathlib.Core.Path.{◌≡◌, refl, sym, ap, ◌∙◌}
use mathlib.Core.Bool.{Bool, true, false, cond}
use Rattle.std.specs.Prelude.{Result, Ok, Err, is_err}
use Rattle.lists.specs.Stack.{overflows, pushed_of}
use Rattle.lists.specs.declared.State.{State}
use Rattle.lists.specs.declared.X87Error.{X87Error}
use Rattle.lists.specs.declared.X87Error.TheVariants.{StackOverflow}

abbrev said : Bool → Result Unit X87Error
said t = cond t (Err StackOverflow) (Ok tt)

tested : (t : Bool) → is_err (said t) ≡ t
tested true = refl
tested false = refl

pub overflow-is : (s : State) (r : Result Unit X87Error) (t : Bool) → r ≡ pushed_of s → t ≡ is_err r → overflows s ≡ t
overflow-is s r t p q = sym (tested (overflows s)) ∙ ap is_err (sym p) ∙ sym q
