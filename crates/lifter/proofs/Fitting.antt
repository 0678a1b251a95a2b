-- The three ways that a fitting goes
use mathlib.Core.Path.{◌≡◌}
use mathlib.Core.List.{List}
use Prim.Native.Nat.{ℕ, ◌+◌, ◌≤◌, ◌<◌}
use native.Mathlib.Omega.{arith}
use borrow.Author.Tests.{le-leb, lt-leb}
use lib.ListN.{length}
use Rattle.lists.specs.Rows.{room_of}
use Rattle.lists.specs.Steps.{Built, gives}
use Rattle.lists.specs.declared.State.{State}
use Rattle.lists.proofs.Adds.{Adds, nodes-most, statements-most}
use Rattle.lifter.specs.Lift.{fitting_of}

module _ (b : Built) (s : State) (l m : List ℕ) where
  pub no-nodes : room_of (length l) < b.st.nodes → fitting_of b s l m ≡ gives s 6
  unfolding fitting_of
  no-nodes h = rw (lt-leb _ _ h)

  pub no-statements : b.st.nodes ≤ room_of (length l) → room_of (length m) < b.st.statements → fitting_of b s l m ≡ gives s 7
  unfolding fitting_of
  no-statements h k = rw (le-leb _ _ h, lt-leb _ _ k)

  pub all-fits : b.st.nodes ≤ room_of (length l) → b.st.statements ≤ room_of (length m) → fitting_of b s l m ≡ b
  unfolding fitting_of
  all-fits h k = rw (le-leb _ _ h, le-leb _ _ k)

  -- Where the room is ample for all that a step may add
  pub ample-fits : {n k : ℕ} → Adds s n k b → s.nodes + n ≤ room_of (length l) → s.statements + k ≤ room_of (length m) → fitting_of b s l m ≡ b
  ample-fits p h i = all-fits (omega (arith, nodes-most p)) (omega (arith, statements-most p))
