-- What a decline forgets, as theorem 6 (proofs/Forgets) states it.
use Rattle.std.specs.Prelude.{◌≡◌, List, ℕ, ◌≤◌, ◌<◌, get_or}
use Rattle.lists.specs.Stack.{read_of}
use Rattle.forms.specs.declared.Instruction.{Instruction}
use Rattle.agreement.specs.Runs.{Held, ran}
use Rattle.agreement.specs.Demands.{kind_at, named_at}
use Rattle.agreement.specs.Operands.{Each, operands_at}
use Rattle.sorts.specs.Lists.{field}
use Rattle.agreement.specs.Counted.{Since}
use Rattle.agreement.specs.Forgets.Reads.{EndsInInput}
pub mod Reads

-- After the gap that d stands for, nothing in h reaches anything from before it
pub record Apart (d h : Held) : Type 0 where
  -- each used place of the stack names a later node
  pub places : (i : ℕ) → i < h.st.depth → d.st.nodes ≤ get_or h.st.slots i 0
  -- each later node has later operands only
  pub nodes : (v : ℕ) → d.st.nodes ≤ v → v < h.st.nodes → Each (λ (u : ℕ). d.st.nodes ≤ u) (operands_at h.nodes v)
  -- each later statement that names a node names a later one
  pub statements : (j : ℕ) → d.st.statements ≤ j → j < h.st.statements → (kind_at h.statements j ≡ 6 → ⊥) → d.st.nodes ≤ named_at h.statements j
  -- each later input has a number that was not used before, and each later temporary
  pub variables : Since d h
  -- a place that is not there is read as a later input, of 79 bits, that the read adds, with a number that was not used so far
  pub reads : (i : ℕ) → h.st.depth ≤ i → i ≤ 7 → EndsInInput d.st.nodes h.st.inputs (read_of h.st i).val (read_of h.st i).ns

pub record Forgets (d : Held) : Type 0 where
  pub empty : d.st.depth ≡ 0
  pub apart : (is : List Instruction) → Apart d (ran d is)

-- .. and of a run from the fresh state: there no node of the list has the number of an input that a read adds
pub record RunForgets (d : Held) : Type 0 where
  pub forgets : Forgets d
  pub unseen : (is : List Instruction) (i : ℕ) (a : (ran d is).st.depth ≤ i) (b : i ≤ 7) (v : ℕ) → v < (ran d is).st.nodes → kind_at (ran d is).nodes v ≡ 1
      → field (ran d is).nodes v 1 < ((forgets.apart is).reads i a b).number
