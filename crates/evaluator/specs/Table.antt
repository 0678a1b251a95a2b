-- The sorts of a list's nodes, in a lent table.
use Rattle.std.specs.Prelude.{◌≡◌, cond, List, ◌++◌, ℕ, leb, length, drop, Result, Ok, Err}
use Rattle.sorts.specs.Lists.{sorts}
use Rattle.sorts.specs.Check.{check_of}
use Rattle.sorts.specs.declared.CheckError.{CheckError}
use Rattle.sorts.specs.declared.CheckError.TheVariants.{Fault, Room}

-- the table after it: the sorts of the n nodes, or of those before the fault, and what stood beyond them; as it was where there is no room
abbrev pub table_after : Result Unit CheckError → List ℕ → ℕ → List ℕ → List ℕ
table_after (Ok u) w n t = sorts w n ++ drop n t
table_after (Err (Fault i)) w n t = sorts w i ++ drop i t
table_after (Err Room) w n t = t

-- the check of n nodes; a table of fewer than n entries has no room
pub record Tables (w : List ℕ) (n : ℕ) (r : Result Unit CheckError) (old new : List ℕ) : Type 0 where
  pub verdict : r ≡ cond (leb n (length old)) (check_of w n) (Err Room)
  pub table : new ≡ table_after r w n old
