-- What a function that writes text promises.
use Rattle.std.specs.Prelude.{◌≡◌, List, ℕ, ◌+◌, ◌<◌, ◌≤◌, min, length}
use Rattle.std.proofs.lemmas.List.Edits.{sets}
use Rattle.writing.specs.declared.Length.{Length}
use Rattle.writing.specs.declared.Writer.{Writer}

-- the largest place
abbrev pub largest : ℕ
largest = 18446744073709551615

-- from a place on the text stands in the bytes, as far as they go, and the next place is behind it, or the largest one
pub record Put (text : List ℕ) (at r : ℕ) (old new : List ℕ) : Type 0 where
  pub place : r ≡ min (at + length text) largest
  pub bytes : new ≡ sets old at text
  pub room : length old < largest

-- so it is with a writer, and where there is no text its place and bytes are as they were; it is over the same bytes as before
pub record Wrote (text : List ℕ) (old new : Writer) : Type 0 where
  pub put : 0 < length text → Put text old.at new.at old.out.now new.out.now
  pub none : length text ≡ 0 → (new.at ≡ old.at) × (new.out.now ≡ old.out.now)
  pub same : new.out.ghost_name ≡ old.out.ghost_name

-- a count goes on by the text's length, up to the largest
abbrev pub Counted : List ℕ → Length → Length → Type 0
Counted text old new = old.bytes ≤ largest → new.bytes ≡ min (old.bytes + length text) largest
