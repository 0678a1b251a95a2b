-- Lines that are written one number and one row after the other.
use Rattle.std.proofs.Common.{◌≡◌, refl, sym, List, [], ◌∷◌, ◌++◌, append_assoc, ℕ, ◌+◌, ◌*◌, ◌<◌, add-one, arith, length, get_or, take}
use Rattle.std.proofs.lemmas.List.{take_more}
use Rattle.writing.specs.Bytes.{decimal}
use Rattle.writing.specs.Sink.{SinkLaws}
use Rattle.lists.specs.declared.State.{State}
use Rattle.listing.specs.Listing.{places, state_line}
use Rattle.listing.specs.Text.{numbers, line, rows}

-- one number more
numbers-append : (l m : List ℕ) → numbers (l ++ m) ≡ numbers l ++ numbers m
unfolding numbers
numbers-append [] m = refl
numbers-append (v ∷ l) m = rw (numbers-append l m, append_assoc (decimal v) (numbers l) (numbers m))

pub numbers-take : (l : List ℕ) (i : ℕ) → i < length l → numbers (take i l) ++ numbers (get_or l i 0 ∷ []) ≡ numbers (take (i + 1) l)
numbers-take l i h = sym (rw (take_more l i 0 h) (numbers-append (take i l) (get_or l i 0 ∷ [])))

-- one row more
pub row_on : {S : Type 0} {took : List ℕ → S → S → Type 0} (laws : SinkLaws took) (c : ℕ) (w : List ℕ) (i x y z u : ℕ) {o a b : S} → x ≡ get_or w (4 * i) 0 → y ≡ get_or w (4 * i + 1) 0 → z ≡ get_or w (4 * i + 2) 0 → u ≡ get_or w (4 * i + 3) 0
    → took (rows c w i) o a → took (line c (i ∷ x ∷ y ∷ z ∷ u ∷ [])) a b → took (rows c w (i + 1)) o b
unfolding rows
row_on laws c w i x y z u ex ey ez eu a b = rw (add-one i, ← ex, ← ey, ← ez, ← eu) (laws.then a b)

-- a list of eight is its eight places
eight : (l : List ℕ) → length l ≡ 8
    → get_or l 0 0 ∷ get_or l 1 0 ∷ get_or l 2 0 ∷ get_or l 3 0 ∷ get_or l 4 0 ∷ get_or l 5 0 ∷ get_or l 6 0 ∷ get_or l 7 0 ∷ [] ≡ l
eight [] h = absurd (omega arith)
eight (a ∷ []) h = absurd (omega arith)
eight (a ∷ b ∷ []) h = absurd (omega arith)
eight (a ∷ b ∷ c ∷ []) h = absurd (omega arith)
eight (a ∷ b ∷ c ∷ d ∷ []) h = absurd (omega arith)
eight (a ∷ b ∷ c ∷ d ∷ e ∷ []) h = absurd (omega arith)
eight (a ∷ b ∷ c ∷ d ∷ e ∷ f ∷ []) h = absurd (omega arith)
eight (a ∷ b ∷ c ∷ d ∷ e ∷ f ∷ g ∷ []) h = absurd (omega arith)
eight (a ∷ b ∷ c ∷ d ∷ e ∷ f ∷ g ∷ i ∷ []) h = refl
eight (a ∷ b ∷ c ∷ d ∷ e ∷ f ∷ g ∷ i ∷ j ∷ l) h = absurd (omega arith)

-- the line of a state
pub state-is : (s : State) → length s.slots ≡ 8
    → (100 ∷ []) ++ (numbers (s.depth ∷ s.inputs ∷ s.temporaries ∷ []) ++ (numbers (take s.depth s.slots) ++ (10 ∷ []))) ≡ state_line s
unfolding state_line line
state-is s h =
    let x : take s.depth s.slots ≡ take s.depth (places s) = rw (eight s.slots h) refl in
    let d = s.depth ∷ s.inputs ∷ s.temporaries ∷ [] in
    rw (x, numbers-append d (take s.depth (places s)), append_assoc (numbers d) (numbers (take s.depth (places s))) (10 ∷ [])) refl
