-- Laws of tests: what two joined by `&&` or `||` say of each.
use Rattle.std.specs.Prelude.{Bool, true, false, ◌&&◌, ◌||◌, ◌≡◌, refl}
use Rattle.std.proofs.Common.{sym}

pub and_l : (a b : Bool) → a && b ≡ true → a ≡ true
and_l true b e = refl
and_l false b e = e

pub and_r : (a b : Bool) → a && b ≡ true → b ≡ true
and_r true b e = e
and_r false b e = let z : ◌≡◌ {A = Bool} false true = e in cc

pub and_i : (a b : Bool) → a ≡ true → b ≡ true → a && b ≡ true
and_i true b e f = f
and_i false b e f = e

pub or_l : (a b : Bool) → a ≡ true → a || b ≡ true
or_l true b e = refl
or_l false b e = let z : ◌≡◌ {A = Bool} false true = e in cc

pub or_r : (a b : Bool) → b ≡ true → a || b ≡ true
or_r true b e = refl
or_r false b e = e

pub or_case : {P : Type 0} (a b : Bool) → a || b ≡ true → (a ≡ true → P) → (b ≡ true → P) → P
or_case true b e f g = f refl
or_case false b e f g = g e

-- two tests that hold together are one
pub same_test : (a b : Bool) → (a ≡ true → b ≡ true) → (b ≡ true → a ≡ true) → a ≡ b
same_test true b f g = sym (f refl)
same_test false true f g = g refl
same_test false false f g = refl
