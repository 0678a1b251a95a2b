-- What it is for a statement to be of an operand, as theorem 10 (proofs/Widths) states it.
use Rattle.std.specs.Prelude.{◌≡◌, List, ℕ}
use Rattle.forms.specs.declared.Operand.{Operand}
use Rattle.sorts.specs.Lists.{field}
use Rattle.agreement.specs.Demands.{kind_at}

-- Statement j, a load or a store, is of this operand: a load has its address number second, a store first, and the third field is its width
pub record OfOperand (o : Operand) (w : List ℕ) (j : ℕ) : Type 0 where
  pub load : kind_at w j ≡ 1 → (o.kind ≡ 1) × (field w j 2 ≡ o.address) × (field w j 3 ≡ o.width)
  pub store : kind_at w j ≡ 2 → (o.kind ≡ 1) × (field w j 1 ≡ o.address) × (field w j 3 ≡ o.width)
