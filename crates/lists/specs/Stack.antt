-- The stack of the Rust's X87Stack, with place 0 on top
use Rattle.std.specs.Prelude.{Bool, cond, List, [], ◌∷◌, ℕ, zero, suc, ◌+◌, ◌-◌, get_or, set, leb, ltb, Result, Ok, Err}
use Rattle.lists.specs.Steps.{Built, ◌▸◌, gives}
use Rattle.lists.specs.Nodes.{fresh_of}
use Rattle.lists.specs.declared.State.{State}
use Rattle.lists.specs.declared.X87Error.{X87Error}
use Rattle.lists.specs.declared.X87Error.TheVariants.{StackOverflow}

-- The state with other places: the eight slot numbers, and the depth
abbrev pub placing : State → List ℕ → ℕ → State
placing s slots depth = record { slots = slots; depth = depth; nodes = s.nodes; statements = s.statements; inputs = s.inputs; temporaries = s.temporaries }

abbrev zeros : List ℕ
zeros = 0 ∷ 0 ∷ 0 ∷ 0 ∷ 0 ∷ 0 ∷ 0 ∷ 0 ∷ []

-- The fresh state
abbrev pub fresh : State
fresh = record { slots = zeros; depth = 0; nodes = 0; statements = 0; inputs = 0; temporaries = 0 }

-- No place is known any more
unfoldable pub havoc_of : State → State
havoc_of s = placing s zeros 0

-- The node v below all used places
unfoldable pub grown : State → ℕ → State
grown s v = cond (ltb s.depth 8) (placing s (set s.slots s.depth v) (s.depth + 1)) s

-- One more input at the bottom
unfoldable pub bottom_of : State → Built
bottom_of s = fresh_of s 79 ▸ λ s v. gives (grown s v) 0

-- So many more
unfoldable pub lowered : ℕ → State → Built
lowered zero s = gives s 0
lowered (suc k) s = bottom_of s ▸ λ s _. lowered k s

-- The inputs that are missing down to place i, which is 0 to 7
unfoldable pub ensure_of : State → ℕ → Built
ensure_of s i = cond (leb i 7) (lowered (i + 1 - s.depth) s) (gives s 0)

-- The node at place i
unfoldable pub slot_of : State → ℕ → ℕ
slot_of s i = cond (leb i 7) (get_or s.slots i 0) 0

-- The state with node v at place i
unfoldable pub kept : State → ℕ → ℕ → State
kept s i v = cond (leb i 7) (placing s (set s.slots i v) s.depth) s

unfoldable pub read_of : State → ℕ → Built
read_of s i = ensure_of s i ▸ λ s _. gives s (slot_of s i)

unfoldable pub write_of : State → ℕ → ℕ → Built
write_of s i v = ensure_of s i ▸ λ s _. gives (kept s i v) 0

-- Whether a push finds all eight places used
unfoldable pub overflows : State → Bool
overflows s = leb 8 s.depth

-- .. and what it answers
abbrev pub pushed_of : State → Result Unit X87Error
pushed_of s = cond (overflows s) (Err StackOverflow) (Ok tt)

-- v on top, and each place one further down; a push at depth 8 clears the stack
unfoldable pub push_of : State → ℕ → State
push_of s v =
    cond (overflows s) (havoc_of s)
    (placing s
    (v ∷ get_or s.slots 0 0 ∷ get_or s.slots 1 0 ∷ get_or s.slots 2 0 ∷ get_or s.slots 3 0
    ∷ get_or s.slots 4 0 ∷ get_or s.slots 5 0 ∷ get_or s.slots 6 0 ∷ [])
    (s.depth + 1))

-- Each place one further up
unfoldable pub drop_top_of : State → State
drop_top_of s =
    placing s
    (get_or s.slots 1 0 ∷ get_or s.slots 2 0 ∷ get_or s.slots 3 0 ∷ get_or s.slots 4 0
    ∷ get_or s.slots 5 0 ∷ get_or s.slots 6 0 ∷ get_or s.slots 7 0 ∷ 0 ∷ [])
    (s.depth - 1)

unfoldable pub pop_of : State → Built
pop_of s = read_of s 0 ▸ λ s top. gives (drop_top_of s) top

unfoldable pub exchange_of : State → ℕ → Built
exchange_of s i = read_of s 0 ▸ λ s top. read_of s i ▸ λ s other. write_of s 0 other ▸ λ s _. write_of s i top
