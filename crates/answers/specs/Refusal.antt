-- What a call that can refuse tells: what is said of its refusal, and 0 where it does not refuse.
use Rattle.std.specs.Prelude.{ℕ, Result, Ok, Err}

abbrev pub told_of : {T E : Type 0} → (E → ℕ) → Result T E → ℕ
told_of said (Ok x) = 0
told_of said (Err e) = said e

-- .. and the count that it came to where it does not
abbrev pub count_or : {E : Type 0} → (E → ℕ) → Result ℕ E → ℕ
count_or said (Ok k) = k
count_or said (Err e) = said e
