-- What it is for a run to be sorted, as theorem 1 (proofs/Sorted) states it.
use Rattle.std.specs.Prelude.{◌≡◌, true, List, ℕ, ◌<◌, length, get_or, Ok}
use Rattle.lists.specs.Rows.{room_of}
use Rattle.lists.specs.Valid.{valid_of}
use Rattle.sorts.specs.Lists.{sorts}
use Rattle.sorts.specs.Check.{check_of}
use Rattle.agreement.specs.Runs.{Held}
use Rattle.agreement.specs.Demands.{demanded_at}

-- The sorts of the nodes that a run has come to
abbrev pub sorts_of : Held → List ℕ
sorts_of h = sorts h.nodes h.st.nodes

pub record Sound (h : Held) : Type 0 where
  pub valid : valid_of h.st (room_of (length h.nodes)) (room_of (length h.statements)) ≡ true
  pub passes : check_of h.nodes h.st.nodes ≡ Ok tt
  pub places : (i : ℕ) → i < h.st.depth → get_or (sorts_of h) (get_or h.st.slots i 0) 0 ≡ 79
  pub said : (j : ℕ) → j < h.st.statements → demanded_at (sorts_of h) h.statements j ≡ true
