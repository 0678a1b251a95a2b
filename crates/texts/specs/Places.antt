-- The place on the stack that a text names: `st(`, an optional `+`, one or more digits, `)`, of value 0 to 7.
use Rattle.std.specs.Prelude.{Bool, cond, ◌&&◌, List, [], ◌∷◌, ℕ, ◌+◌, ◌*◌, ◌-◌, leb, eqb, Option, Some, None}
use Rattle.texts.specs.Bytes.{bytes}
use Rattle.texts.specs.Letters.{lower_of, trim_of}

-- bytes 48 to 57
abbrev pub digit_is : ℕ → Bool
digit_is b = leb 48 b && leb b 57

-- `)` was the last byte, and the number is 0 to 7
abbrev pub closed : ℕ → List ℕ → Option ℕ
closed v [] = cond (leb v 7) (Some v) None
closed v (b ∷ s) = None

-- further digits, then `)`
abbrev pub digits : ℕ → List ℕ → Option ℕ
digits v [] = None
digits v (b ∷ s) = cond (digit_is b) (digits (v * 10 + (b - 48)) s) (cond (eqb b 41) (closed v s) None)

-- one digit at least
abbrev pub number : List ℕ → Option ℕ
number [] = None
number (b ∷ s) = cond (digit_is b) (digits (b - 48) s) None

-- an optional `+`
abbrev pub signed : List ℕ → Option ℕ
signed [] = None
signed (b ∷ s) = cond (eqb b 43) (number s) (number (b ∷ s))

-- the small letters p, in either case, and then what k reads
abbrev pub after : List ℕ → (List ℕ → Option ℕ) → List ℕ → Option ℕ
after [] k s = k s
after (b ∷ p) k [] = None
after (b ∷ p) k (x ∷ s) = cond (eqb (lower_of x) b) (after p k s) None

unfoldable pub place_of : List ℕ → Option ℕ
place_of s = after (bytes "st(") signed (trim_of s)
