-- How the code reads: with a cursor that moves.
use Rattle.std.specs.Prelude.{◌≡◌, List, ℕ, ◌+◌, cond, leb, length, Result}
use Rattle.words.specs.Bytes.{bytes_at}
use Rattle.records.specs.Reading.{Reading, got, bad, reading}
use Rattle.records.specs.declared.Cursor.{Cursor}
use Rattle.records.specs.declared.Refusal.{Refusal}
use Rattle.records.specs.declared.Refusal.TheVariants.{Short}

-- a cursor's reading: its answer, and where it leaves the cursor
pub record Reads {A : Type 0} (f : List ℕ → ℕ → Reading A) (old new : Cursor) (r : Result A Refusal) : Type 0 where
  pub comes : reading r new.at ≡ f old.input.now old.at
  pub input : new.input ≡ old.input

-- the n bytes at a place
unfoldable pub chunk_at : ℕ → List ℕ → ℕ → Reading (List ℕ)
chunk_at n s at = cond (leb (at + n) (length s)) (got (bytes_at s at n) (at + n)) (bad Short (length s))
