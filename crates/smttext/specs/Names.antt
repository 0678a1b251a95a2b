-- The names of nodes, of sorts, of roundings.
use Rattle.std.specs.Prelude.{Bool, cond, ◌||◌, List, ◌++◌, ℕ, ◌*◌, ◌/◌, ◌%◌, leb, eqb, get_or}
use Rattle.sorts.specs.Lists.{field}
use Rattle.writing.specs.Bytes.{bytes, decimal}

-- the kind of node i of a list
abbrev pub kind_at : List ℕ → ℕ → ℕ
kind_at w i = get_or w (4 * i) 0

-- kinds 1 to 5 and FpToIeeeBv are declared, the others defined
abbrev pub declared_is : ℕ → Bool
declared_is k = leb k 5 || eqb k 26

-- `x7_1_0`: node, kind, number; the number of an FpToIeeeBv is its operand's
unfoldable pub declared_name : ℕ → ℕ → ℕ → List ℕ
declared_name i k a = bytes "x" ++ (decimal i ++ (bytes "_" ++ (decimal k ++ (bytes "_" ++ decimal a))))

-- `n8`: the node
unfoldable pub defined_name : ℕ → List ℕ
defined_name i = bytes "n" ++ decimal i

-- the name of node i, of kind k and with a for its first field
unfoldable pub name_from : ℕ → ℕ → ℕ → List ℕ
name_from i k a = cond (declared_is k) (declared_name i k a) (defined_name i)

-- the name of node i of a list
unfoldable pub name_of : List ℕ → ℕ → List ℕ
name_of w i = name_from i (kind_at w i) (field w i 1)

-- a format: exponent and significand bits, a blank between them
unfoldable pub format_text : ℕ → List ℕ
format_text f = decimal (f / 256) ++ (bytes " " ++ decimal (f % 256))

-- bits by their width, a float by its format
unfoldable pub sort_text : ℕ → List ℕ
sort_text s =
    cond (leb s 80) (bytes "(_ BitVec " ++ (decimal s ++ bytes ")"))
    (bytes "(_ FloatingPoint " ++ (format_text s ++ bytes ")"))

-- 0 is nearest even, 1 toward zero
unfoldable pub rounding_text : ℕ → List ℕ
rounding_text r = cond (eqb r 0) (bytes "RNE") (bytes "RTZ")
