-- THE SUBSET: the texts of the marked nodes of a list that passes, where what a marked node needs is marked too; and the formula that such a text says.
use Rattle.std.specs.Prelude.{◌≡◌, cond, List, [], ◌∷◌, ◌++◌, ℕ, zero, suc, ◌+◌, ◌^◌, ◌<◌, leb, get_or, Ok}
use Rattle.sorts.specs.Lists.{field}
use Rattle.sorts.specs.Check.{check_of}
use Rattle.needs.specs.Needed.{arity, Operand}
use Rattle.smttext.specs.Names.{kind_at}
use Rattle.smttext.specs.Text.{on, text_by}

-- some node below n is marked, and so is each operand of a marked one
pub record Kept (w m : List ℕ) (n : ℕ) : Type 0 where
  pub root : ℕ
  pub inside : root < n
  pub marked : get_or m root 0 ≡ 1
  pub operands : (i a : ℕ) → i < n → get_or m i 0 ≡ 1 → Operand w i a → get_or m a 0 ≡ 1

-- t is the text of the marked nodes below n of the list w, whose words are words
pub record Says (t w m : List ℕ) (n : ℕ) : Type 0 where
  pub passed : check_of w n ≡ Ok tt
  pub words : (j : ℕ) → get_or w j 0 < 2 ^ 64
  pub kept : Kept w m n
  pub text : t ≡ text_by w m n

pub record InSubset (t : List ℕ) : Type 0 where
  pub words : List ℕ
  pub marks : List ℕ
  pub count : ℕ
  pub says : Says t words marks count

-- how many nodes below n are marked: the number of node n among them
unfoldable pub rank : List ℕ → ℕ → ℕ
rank m zero = 0
rank m (suc n) = rank m n + cond (on m n) 1 0

-- operand j of node i by its number among the marked ones; a field that is no operand as it is
abbrev pub field_by : List ℕ → List ℕ → ℕ → ℕ → ℕ
field_by w m i j = cond (leb j (arity (kind_at w i))) (rank m (field w i j)) (field w i j)

-- THE FORMULA: the marked rows below n in order, numbered from 0
unfoldable pub compact : List ℕ → List ℕ → ℕ → List ℕ
compact w m zero = []
compact w m (suc n) = compact w m n ++ cond (on m n) (kind_at w n ∷ field_by w m n 1 ∷ field_by w m n 2 ∷ field_by w m n 3 ∷ []) []
