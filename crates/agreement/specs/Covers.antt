-- What an effect says of a lift, as theorem 11 (proofs/Covers) states it.
use Rattle.std.proofs.Math.Path.{◌≡◌}
use Rattle.std.specs.Prelude.{true, false, ℕ, ◌≤◌, ◌<◌, get_or}
use Rattle.forms.specs.declared.Instruction.{Instruction}
use Rattle.forms.specs.declared.Effect.{Effect}
use Rattle.std.specs.Prelude.{Some, Ok}
use Rattle.forms.specs.Effects.{effect_of}
use Rattle.agreement.specs.Runs.{Held, called}
use Rattle.agreement.specs.Demands.{kind_at, named_at}
use Rattle.agreement.specs.Operands.{Each, operands_at}
use Rattle.agreement.specs.Makes.Lowered.{effect_said}

-- From h to d every place that was there names the node that it named, and each place below them an input that was added
pub record KeepsStack (h d : Held) : Type 0 where
  pub depth : h.st.depth ≤ d.st.depth
  pub places : (p : ℕ) → p < h.st.depth → get_or d.st.slots p 0 ≡ get_or h.st.slots p 0
  pub below : (p : ℕ) → h.st.depth ≤ p → p < d.st.depth → (kind_at d.nodes (get_or d.st.slots p 0) ≡ 1) × (h.st.nodes ≤ get_or d.st.slots p 0)

-- What was added from h to d names no node from before
pub record Anew (h d : Held) : Type 0 where
  pub nodes : (v : ℕ) → h.st.nodes ≤ v → v < d.st.nodes → Each (λ (u : ℕ). h.st.nodes ≤ u) (operands_at d.nodes v)
  pub statements : (j : ℕ) → h.st.statements ≤ j → j < d.st.statements → (kind_at d.statements j ≡ 6 → ⊥) → h.st.nodes ≤ named_at d.statements j

-- The effect e covers what was added from h to d
pub record Covers (e : Effect) (h d : Held) : Type 0 where
  pub status : (j : ℕ) → h.st.statements ≤ j → j < d.st.statements → kind_at d.statements j ≡ 3 → e.defines_status ≡ true
  pub flags : (j : ℕ) → h.st.statements ≤ j → j < d.st.statements → kind_at d.statements j ≡ 4 → e.defines_flags ≡ true
  pub ax : (j : ℕ) → h.st.statements ≤ j → j < d.st.statements → kind_at d.statements j ≡ 5 → e.writes_ax ≡ true
  pub uses : (v : ℕ) → h.st.nodes ≤ v → v < d.st.nodes → kind_at d.nodes v ≡ 4 → e.uses_status ≡ true
  pub reads : (v : ℕ) → h.st.nodes ≤ v → v < d.st.nodes → kind_at d.nodes v ≡ 5 → e.reads_flags ≡ true

-- THE THEOREM'S PARTS, for the call on i from h
pub record EffectHolds (i : Instruction) (h : Held) : Type 0 where
  pub rows : Covers (effect_said (effect_of i)) h (called h i)
  pub stack : (e : Effect) → effect_of i ≡ Ok (Some e) → e.defines_stack ≡ false → KeepsStack h (called h i)
  pub anew : (e : Effect) → effect_of i ≡ Ok (Some e) → e.uses_stack ≡ false → Anew h (called h i)
