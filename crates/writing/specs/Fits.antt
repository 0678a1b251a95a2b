-- What is said of a text that is written whole or not at all.
use Rattle.std.specs.Prelude.{◌≡◌, cond, List, ℕ, leb, length, Option, Some, None}
use Rattle.std.proofs.lemmas.List.Edits.{sets}

-- its length, where it fits, and it stands in front; else the bytes are as they were
pub record Fits (text : List ℕ) (r : Option ℕ) (old new : List ℕ) : Type 0 where
  pub answer : r ≡ cond (leb (length text) (length old)) (Some (length text)) None
  pub bytes : new ≡ cond (leb (length text) (length old)) (sets old 0 text) old
