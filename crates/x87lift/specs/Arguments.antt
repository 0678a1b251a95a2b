-- What the program is asked for, by how many words it was started with, its own name the first, and by the second.
use Rattle.std.specs.Prelude.{◌≡◌, List, ℕ, ◌<◌, ◌≤◌}
use Rattle.texts.specs.Bytes.{bytes}
use Rattle.x87lift.specs.declared.Asked.{Asked}
use Rattle.x87lift.specs.declared.Asked.TheVariants.{Run, Version, Help}

-- without arguments it lifts; `--version` is the version, any other argument is the help
pub record Asks (count : ℕ) (first : List ℕ) (r : Asked) : Type 0 where
  pub run : count ≤ 1 → r ≡ Run
  pub version : 1 < count → first ≡ bytes "--version" → r ≡ Version
  pub help : 1 < count → (first ≡ bytes "--version" → ⊥) → r ≡ Help
