-- What a lift of `fld` or `fstp` at 80 loads and stores, as theorem 3 (proofs/Image) states it.
use Rattle.std.specs.Prelude.{◌≡◌, List, [], ◌∷◌, ℕ, ◌+◌}
use Rattle.std.proofs.Math.ListN.{get_or}
use Rattle.lists.specs.Rows.{row}
use Rattle.lists.specs.Steps.{Built}
use Rattle.lists.specs.Stack.{read_of}
use Rattle.lists.specs.declared.State.{State}
use Rattle.forms.specs.declared.Instruction.{Instruction}
use Rattle.memory.specs.Site.{site_of}
use Rattle.image.specs.Layout.{image_of, pattern_in}
use Rattle.evaluator.specs.Lists.{pair_at, vals}

-- A step that loads an image: the load names node n, and the node on top has the value that is read
pub record Loads (s : State) (i : Instruction) (d : Built) (w g : List ℕ) : Type 0 where
  pub load : d.ss ≡ row s.statements 1 s.nodes (site_of i).memory 80 ∷ []
  pub top : get_or (vals w g d.st.nodes) (get_or d.st.slots 0 0) 0 ≡ pattern_in (pair_at g s.nodes) (pair_at g (s.nodes + 1))

-- A step that stores an image: the store names a node whose value is the image of the old top's
pub record Stores (s : State) (i : Instruction) (d : Built) (w g : List ℕ) : Type 0 where
  pub node : ℕ
  pub store : d.ss ≡ row s.statements 2 (site_of i).memory node 80 ∷ []
  pub value : get_or (vals w g d.st.nodes) node 0 ≡ image_of (get_or (vals w g d.st.nodes) (read_of s 0).val 0)
