-- Text with holes: each `%` of a template stands for one of the texts that fill it, in their order.
use Prim.Native.String as str
use Rattle.std.specs.Prelude.{true, false, List, [], ◌∷◌, ◌++◌, ℕ, eqb}
use Rattle.writing.specs.Bytes.{bytes}

unfoldable pub filled : List ℕ → List (List ℕ) → List ℕ
filled [] xs = []
filled (b ∷ t) [] = b ∷ filled t []
filled (b ∷ t) (x ∷ xs) = elim (eqb b 37) [ true ↦ x ++ filled t xs | false ↦ b ∷ filled t (x ∷ xs) ]

-- the template, filled
abbrev pub fill : str.String → List (List ℕ) → List ℕ
fill t xs = filled (bytes t) xs
