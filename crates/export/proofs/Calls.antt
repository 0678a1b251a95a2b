-- A call that tells its words, and one that has no room to.
use mathlib.Core.Path.{◌≡◌}
use mathlib.Core.List.{List}
use Prim.Native.Nat.{ℕ, ◌<◌, ◌≤◌}
use lib.ListN.{length}
use borrow.Author.Tests.{le-leb, lt-leb}
use Rattle.export.specs.Flat.{laid}
use Rattle.export.specs.Answers.{Said, Tells}

module _ (k : ℕ) (x : Said) (out : List ℕ) where
  pub tells : {r : ℕ} {left : List ℕ} → k ≤ length out → r ≡ x.number → left ≡ laid out 0 x.words → Tells k x out r left
  tells h p q = record { answer = rw (le-leb _ _ h) p; told = rw (le-leb _ _ h) q }

  pub untold : length out < k → Tells k x out 10 out
  untold h = record { answer = rw (lt-leb _ _ h); told = rw (lt-leb _ _ h) }
