-- Words that are stored one run after the other.
use mathlib.Core.Path.{◌≡◌}
use mathlib.Core.List.{List, [], ◌∷◌, ◌++◌}
use Prim.Native.Nat.{ℕ, suc, ◌+◌}
use native.Mathlib.Nat.{add-zero}
use native.Mathlib.Omega.{arith}
use lib.ListN.{length, set}
use lib.Seq.{sets}

pub sets-append : (l a b : List ℕ) (i : ℕ) → sets l i (a ++ b) ≡ sets (sets l i a) (i + length a) b
sets-append l [] b i = rw add-zero
sets-append l (x ∷ a) b i =
    let z : i + suc (length a) ≡ suc i + length a = omega arith in
    rw z (sets-append (set l i x) a b (suc i))
