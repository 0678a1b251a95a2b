-- Reading bytes from a place on, one at a time.
use Rattle.std.specs.Prelude.{Bool, cond, ◌||◌, List, ℕ, ◌+◌, leb, ltb, eqb, length, get_or, Result, Ok, Err}
use Rattle.words.specs.Bytes.{number_in}
use Rattle.records.specs.declared.Refusal.{Refusal}
use Rattle.records.specs.declared.Refusal.TheVariants.{BadMark, Short}

-- a value with the next place, or a refusal with the offending place
pub data Reading (A : Type 0) : Type 0 where
  got : A → ℕ → Reading A
  bad : Refusal → ℕ → Reading A

-- a reading in two parts: what was answered, and the next or the offending place
abbrev pub reading : {A : Type 0} → Result A Refusal → ℕ → Reading A
reading (Ok v) n = got v n
reading (Err r) n = bad r n

-- one reading, then what follows from its value at its next place; a refusal ends it
infixr 20 ◌▹◌
abbrev pub ◌▹◌ : {A B : Type 0} → Reading A → (A → ℕ → Reading B) → Reading B
got a n ▹ g = g a n
bad r p ▹ g = bad r p

-- the byte at a place; past the end, the input's length is the offending place
unfoldable pub byte_at : List ℕ → ℕ → Reading ℕ
byte_at s at = cond (ltb at (length s)) (got (get_or s at 0) (at + 1)) (bad Short (length s))

-- a byte that passes a test, or a refusal at its place
unfoldable pub tested_at : (ℕ → Bool) → Refusal → List ℕ → ℕ → Reading ℕ
tested_at f r s at = byte_at s at ▹ λ b next. cond (f b) (got b next) (bad r at)

-- a byte that is at most m
abbrev pub limited_at : ℕ → Refusal → List ℕ → ℕ → Reading ℕ
limited_at m r = tested_at (λ b. leb b m) r

-- a mark's byte, x or y
abbrev pub either_at : ℕ → ℕ → List ℕ → ℕ → Reading ℕ
either_at x y = tested_at (λ b. eqb b x || eqb b y) BadMark

-- the number of the n bytes at a place, low byte first; past the end as for one byte
unfoldable pub number_at : ℕ → List ℕ → ℕ → Reading ℕ
number_at n s at = cond (leb (at + n) (length s)) (got (number_in s at n) (at + n)) (bad Short (length s))
