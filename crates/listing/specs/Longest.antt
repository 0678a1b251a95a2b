-- How long a listing can be: no word has more than 20 digits.
use Rattle.std.specs.Prelude.{Option, Some, None, List, [], ◌∷◌, ◌++◌, ℕ, zero, suc, ◌+◌, ◌*◌, ◌≤◌, length, get_or, take}
use Rattle.std.proofs.Common.{arith, length-append, length-take}
use Rattle.lists.specs.declared.State.{State}
use Rattle.writing.specs.Bytes.{decimal}
use Rattle.writing.specs.Laws.{digits-most}
use Rattle.listing.specs.Text.{numbers, line, rows}
use Rattle.listing.specs.Listing.{places, state_line, refusal_line, text_of}
use Rattle.listing.specs.declared.Refused.{Refused}
use Rattle.listing.specs.declared.Stop.{Stop}

-- 21 bytes a number, two beside a line's numbers, and five numbers a row
pub numbers-most : (l : List ℕ) → length (numbers l) ≤ 21 * length l
unfolding numbers decimal
numbers-most [] = omega arith
numbers-most (v ∷ l) = omega (arith, length-append (decimal v) (numbers l), digits-most 20 v, numbers-most l)

pub line-most : (letter : ℕ) (l : List ℕ) → length (line letter l) ≤ 21 * length l + 2
unfolding line
line-most letter l = omega (arith, length-append (numbers l) (10 ∷ []), numbers-most l)

pub rows-most : (letter : ℕ) (w : List ℕ) (n : ℕ) → length (rows letter w n) ≤ 107 * n
unfolding rows
rows-most letter w zero = omega arith
rows-most letter w (suc n) =
    let r = n ∷ get_or w (4 * n) 0 ∷ get_or w (4 * n + 1) 0 ∷ get_or w (4 * n + 2) 0 ∷ get_or w (4 * n + 3) 0 ∷ [] in
    omega (arith, length-append (rows letter w n) (line letter r), rows-most letter w n, line-most letter r)

pub state-most : (s : State) → length (state_line s) ≤ 233
unfolding state_line
state-most s =
    let l = take s.depth (places s) in
    omega (arith, line-most 100 (s.depth ∷ s.inputs ∷ s.temporaries ∷ l), length-take s.depth (places s))

refusal-most : (r : Option Refused) → length (refusal_line r) ≤ 44
unfolding refusal_line
refusal-most (Some r) = line-most 114 (r.number ∷ r.place ∷ [])
refusal-most None = omega arith

-- 107 bytes a row, 233 for the state and 44 for a refusal
pub longest : (nodes statements : List ℕ) (r : Stop)
    → length (text_of nodes statements r) ≤ 107 * r.state.nodes + 107 * r.state.statements + 277
unfolding text_of
longest nodes statements r =
    let n = rows 110 nodes r.state.nodes in
    let m = rows 115 statements r.state.statements in
    let d = state_line r.state in
    let x = refusal_line r.refused in
    omega (arith, length-append n (m ++ (d ++ x)), length-append m (d ++ x), length-append d x, rows-most 110 nodes r.state.nodes, rows-most 115 statements r.state.statements, state-most r.state, refusal-most r.refused)
