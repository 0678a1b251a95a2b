-- The listing: nodes, statements, the state, and a refusal.
use Rattle.std.specs.Prelude.{List, [], ◌∷◌, ◌++◌, ℕ, get_or, take, Option, Some, None}
use Rattle.lists.specs.declared.State.{State}
use Rattle.listing.specs.Text.{line, rows}
use Rattle.listing.specs.declared.Stop.{Stop}
use Rattle.listing.specs.declared.Refused.{Refused}

-- the eight places from the top
abbrev pub places : State → List ℕ
places s =
    get_or s.slots 0 0 ∷ get_or s.slots 1 0 ∷ get_or s.slots 2 0 ∷ get_or s.slots 3 0
    ∷ get_or s.slots 4 0 ∷ get_or s.slots 5 0 ∷ get_or s.slots 6 0 ∷ get_or s.slots 7 0 ∷ []

-- `d`: depth, inputs, temporaries, the used places
unfoldable pub state_line : State → List ℕ
state_line s = line 100 (s.depth ∷ s.inputs ∷ s.temporaries ∷ take s.depth (places s))

-- `r`: the refusal's number and place, if there is one
unfoldable pub refusal_line : Option Refused → List ℕ
refusal_line (Some r) = line 114 (r.number ∷ r.place ∷ [])
refusal_line None = []

-- `n` and `s` lines, then the state and the refusal
unfoldable pub text_of : List ℕ → List ℕ → Stop → List ℕ
text_of nodes statements r =
    rows 110 nodes r.state.nodes ++ (rows 115 statements r.state.statements ++ (state_line r.state ++ refusal_line r.refused))

-- the number of the answer: the manual, section 7
abbrev pub number_of : Option ℕ → ℕ
number_of (Some n) = 0
number_of None = 10
