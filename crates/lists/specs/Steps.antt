-- Steps: what a function adds to the lists and makes of the state, and how one step follows another
use Rattle.std.specs.Prelude.{◌≡◌, List, [], ◌++◌, ℕ}
use Rattle.lists.specs.Rows.{Row, wrote}
use Rattle.lists.specs.declared.State.{State}
use Rattle.lists.specs.declared.LiftCtx.{LiftCtx}

-- What a step gives: the next state, the number that it answers, and the rows that it adds to the nodes and to the statements
pub record Built : Type 0 where
  pub st : State
  pub val : ℕ
  pub ns : List Row
  pub ss : List Row

-- One step, and then what follows from its state and its number
infixr 20 ◌▸◌
unfoldable pub ◌▸◌ : Built → (State → ℕ → Built) → Built
b ▸ g = let r = g b.st b.val in record { st = r.st; val = r.val; ns = b.ns ++ r.ns; ss = b.ss ++ r.ss }

-- A step that adds nothing
unfoldable pub gives : State → ℕ → Built
gives s v = record { st = s; val = v; ns = []; ss = [] }

-- What a function promises of its step: what the lift works on before and after it, and the number that it answers. The lists are still those that were lent
pub record Does (b : Built) (old new : LiftCtx) (val : ℕ) : Type 0 where
  pub state : new.state ≡ b.st
  pub number : val ≡ b.val
  pub list : new.nodes.now ≡ wrote old.nodes.now b.ns
  pub said : new.statements.now ≡ wrote old.statements.now b.ss
  pub same-nodes : new.nodes.ghost_name ≡ old.nodes.ghost_name
  pub same-statements : new.statements.ghost_name ≡ old.statements.ghost_name
