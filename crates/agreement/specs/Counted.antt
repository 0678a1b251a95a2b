-- What it is that counters count, as theorem 9 (proofs/Counted) states it.
use Rattle.std.specs.Prelude.{◌≡◌, ℕ, ◌*◌, ◌≤◌, ◌<◌, get_or}
use Rattle.sorts.specs.Lists.{field}
use Rattle.agreement.specs.Runs.{Held}
use Rattle.agreement.specs.Demands.{kind_at}
use Rattle.agreement.specs.Counted.Numbers.{numbered, below}
pub mod Numbers

-- Kind 1 is an input, kind 2 a temporary
pub record Counted (h : Held) : Type 0 where
  pub inputs : numbered 1 h.nodes h.st.nodes ≡ below h.st.inputs
  pub temporaries : numbered 2 h.nodes h.st.nodes ≡ below h.st.temporaries

-- From d to h no counter has fallen, what was added since has numbers that were not used before, and the rows that were there stand
pub record Since (d h : Held) : Type 0 where
  pub nodes : d.st.nodes ≤ h.st.nodes
  pub statements : d.st.statements ≤ h.st.statements
  pub inputs : d.st.inputs ≤ h.st.inputs
  pub temporaries : d.st.temporaries ≤ h.st.temporaries
  pub input : (v : ℕ) → d.st.nodes ≤ v → v < h.st.nodes → kind_at h.nodes v ≡ 1 → d.st.inputs ≤ field h.nodes v 1
  pub temporary : (v : ℕ) → d.st.nodes ≤ v → v < h.st.nodes → kind_at h.nodes v ≡ 2 → d.st.temporaries ≤ field h.nodes v 1
  pub kept : (x : ℕ) → x < 4 * d.st.nodes → get_or h.nodes x 0 ≡ get_or d.nodes x 0
  pub kept' : (x : ℕ) → x < 4 * d.st.statements → get_or h.statements x 0 ≡ get_or d.statements x 0
