-- What a sink's relation keeps to.
use Rattle.std.specs.Prelude.{◌≡◌, List, [], ◌++◌, ℕ}

-- a sink that stays as it is took no text, and one text and then another are one text
pub record SinkLaws {S : Type 0} (took : List ℕ → S → S → Type 0) : Type 0 where
  pub nothing : (s : S) → took [] s s
  pub then : {a b : List ℕ} {s t u : S} → took a s t → took b t u → took (a ++ b) s u

-- the same text by another name
module _ {S : Type 0} {took : List ℕ → S → S → Type 0} (laws : SinkLaws took) where
  pub also : {a b : List ℕ} {s t : S} → a ≡ b → took a s t → took b s t
  also e x = rw (← e) x
