-- What the check says of a list, and the numbers of the manual, section 7, for it.
use Rattle.std.specs.Prelude.{cond, List, [], ◌∷◌, ℕ, ◌+◌, leb, eqb, length, Result, Ok, Err}
use Rattle.lists.specs.Rows.{room_of}
use Rattle.sorts.specs.Lists.{sorts}
use Rattle.sorts.specs.declared.CheckError.{CheckError}
use Rattle.sorts.specs.declared.CheckError.TheVariants.{Fault, Room}

-- the first of the sorts, counted from i, that is none
unfoldable pub first_fault : ℕ → List ℕ → Result Unit CheckError
first_fault i [] = Ok tt
first_fault i (s ∷ l) = cond (eqb s 0) (Err (Fault i)) (first_fault (i + 1) l)

-- what the check of the first n nodes says: 10 where the list has no room for them, then 8
unfoldable pub check_of : List ℕ → ℕ → Result Unit CheckError
check_of w n = cond (leb n (room_of (length w))) (first_fault 0 (sorts w n)) (Err Room)

-- the number of the refusal, and the node beside it
abbrev pub number_of : CheckError → ℕ
number_of (Fault i) = 8
number_of Room = 10

abbrev pub node_of : CheckError → ℕ
node_of (Fault i) = i
node_of Room = 0
