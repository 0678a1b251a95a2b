-- What the theorems say of values: each is below 2 to the width of its node.
use Rattle.std.specs.Prelude.{◌≡◌, true, List, ℕ, ◌*◌, ◌^◌, ◌<◌, get_or}
use Rattle.sorts.specs.Lists.{row_sort, sorts}
use Rattle.evaluator.specs.Value.{width_of, is_given}
use Rattle.evaluator.specs.Lists.{pair_at}

-- each value fits its sort
abbrev pub AllFit : List ℕ → List ℕ → Type 0
AllFit vs ss = (i : ℕ) → get_or vs i 0 < 2 ^ width_of (get_or ss i 0)

-- each given value that is taken fits the sort of its node
abbrev pub GivenFits : List ℕ → List ℕ → ℕ → Type 0
GivenFits w g n = (i : ℕ) → i < n → is_given (get_or w (4 * i) 0) ≡ true → pair_at g i < 2 ^ width_of (row_sort w i (sorts w i))
