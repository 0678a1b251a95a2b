-- What each statement demands of the node that it names: every place has its width
use Rattle.std.specs.Prelude.{Bool, false, cond, ◌&&◌, ◌||◌, List, ℕ, ◌*◌, leb, eqb, get_or}
use Rattle.sorts.specs.Sorts.{is_bits}
use Rattle.sorts.specs.Lists.{field}

-- Node v is bits of this width
unfoldable pub is_wide : List ℕ → ℕ → ℕ → Bool
is_wide sorts v bits = is_bits bits && eqb (get_or sorts v 0) bits

-- A statement's row and the sorts of the nodes: kind by kind, and unused fields are 0
unfoldable pub demanded : List ℕ → ℕ → ℕ → ℕ → ℕ → Bool
demanded sorts k a b c =
    -- load: node a is as wide as what is loaded
    cond (eqb k 1) (is_wide sorts a c)
    -- store: node b is as wide as the operand
    (cond (eqb k 2) (is_wide sorts b c)
    -- fsw: 16 bits
    (cond (eqb k 3) (is_wide sorts a 16 && (eqb b 0 && eqb c 0))
    -- one of the five flags: 1 bit
    (cond (eqb k 4) (is_wide sorts b 1 && (leb a 4 && eqb c 0))
    -- ax: 16 bits
    (cond (eqb k 5) (is_wide sorts a 16 && (eqb b 0 && eqb c 0))
    -- unsupported, and no node: answer 1 with a detail of 21 to 25, or answer 2 with none
    (cond (eqb k 6) (cond (eqb a 1) (leb 21 c && leb c 25) (eqb a 2 && eqb c 0))
    false)))))

-- The node that a statement of kind 1 to 5 names, and the bits of its place
unfoldable pub named_by : ℕ → ℕ → ℕ → ℕ
named_by k a b = cond (eqb k 2 || eqb k 4) b a

unfoldable pub place_bits : ℕ → ℕ → ℕ
place_bits k c = cond (eqb k 1 || eqb k 2) c (cond (eqb k 4) 1 16)

-- The same of statement j of a list's words
abbrev pub kind_at : List ℕ → ℕ → ℕ
kind_at w j = get_or w (4 * j) 0

unfoldable pub demanded_at : List ℕ → List ℕ → ℕ → Bool
demanded_at sorts w j = demanded sorts (kind_at w j) (field w j 1) (field w j 2) (field w j 3)

abbrev pub named_at : List ℕ → ℕ → ℕ
named_at w j = named_by (kind_at w j) (field w j 1) (field w j 2)

abbrev pub bits_at : List ℕ → ℕ → ℕ
bits_at w j = place_bits (kind_at w j) (field w j 3)
