-- What an evaluation says, the column after it, and the numbers of the manual, section 7.
use Rattle.std.specs.Prelude.{cond, ◌&&◌, List, ◌++◌, ℕ, ◌*◌, ◌/◌, leb, length, drop, Result, Ok, Err}
use Rattle.sorts.specs.Check.{check_of}
use Rattle.sorts.specs.declared.CheckError.{CheckError}
use Rattle.sorts.specs.declared.CheckError.TheVariants as check
use Rattle.evaluator.specs.Lists.{vals, flat, wide_from}
use Rattle.evaluator.specs.declared.EvalError.{EvalError}
use Rattle.evaluator.specs.declared.EvalError.TheVariants.{Fault, TooWide, Room}

-- what the check says, and what follows where it passes
abbrev pub of_check : CheckError → EvalError
of_check (check.Fault i) = Fault i
of_check check.Room = Room

abbrev pub after : Result Unit CheckError → Result Unit EvalError → Result Unit EvalError
after (Ok u) r = r
after (Err e) r = Err (of_check e)

-- the evaluation of n nodes, with a column of m words: 10, then 8, then 9
unfoldable pub outcome_of : List ℕ → ℕ → List ℕ → ℕ → Result Unit EvalError
outcome_of w n g m = cond (leb n (length g / 2) && leb n (m / 2)) (after (check_of w n) (wide_from w g 0 n)) (Err Room)

-- the column after it: the values and what stood beyond them, or as it was
abbrev pub column_after : Result Unit EvalError → List ℕ → ℕ → List ℕ → List ℕ → List ℕ
column_after (Ok u) w n g l = flat (vals w g n) ++ drop (2 * n) l
column_after (Err e) w n g l = l

-- the number of the refusal, and the node beside it
abbrev pub number_of : EvalError → ℕ
number_of (Fault i) = 8
number_of (TooWide i) = 9
number_of Room = 10

abbrev pub node_of : EvalError → ℕ
node_of (Fault i) = i
node_of (TooWide i) = i
node_of Room = 0
