-- What it is for a run to evaluate, as theorem 2 (proofs/Evaluated) states it.
use Rattle.std.specs.Prelude.{◌≡◌, List, ℕ, ◌^◌, ◌<◌, get_or}
use Rattle.evaluator.specs.Lists.{vals}
use Rattle.evaluator.specs.Laws.{Evaluates}
use Rattle.agreement.specs.Runs.{Held}
use Rattle.agreement.specs.Demands.{kind_at, named_at, bits_at}

-- The value of a node
abbrev pub value_of : Held → List ℕ → ℕ → ℕ
value_of h g v = get_or (vals h.nodes g h.st.nodes) v 0

-- The given values g, and a column of m words for all values
pub record Evaluated (h : Held) (g : List ℕ) (m : ℕ) : Type 0 where
  pub ends : Evaluates h.nodes g h.st.nodes m
  pub places : (i : ℕ) → i < h.st.depth → value_of h g (get_or h.st.slots i 0) < 2 ^ 79
  pub said : (j : ℕ) → j < h.st.statements → (kind_at h.statements j ≡ 6 → ⊥)
      → value_of h g (named_at h.statements j) < 2 ^ bits_at h.statements j
