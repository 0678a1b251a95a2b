-- A run: any number of lifts, one after the other, from the fresh state over two lists
use Rattle.std.specs.Prelude.{◌≡◌, refl, Bool, ◌||◌, List, [], ◌∷◌, ◌++◌, ℕ, eqb}
use Rattle.lists.specs.Rows.{wrote}
use Rattle.lists.specs.Steps.{Built, Does}
use Rattle.lists.specs.Stack.{fresh}
use Rattle.lists.specs.declared.State.{State}
use Rattle.lists.specs.declared.LiftCtx.{LiftCtx}
use Rattle.forms.specs.declared.Instruction.{Instruction}
use Rattle.lifter.specs.Lift.{lift_of}

-- What a run has come to: the state, the words of the nodes, the words of the statements
pub record Held : Type 0 where
  pub st : State
  pub nodes : List ℕ
  pub statements : List ℕ

-- The fresh state over any two lists
abbrev pub begun : List ℕ → List ℕ → Held
begun nodes statements = record { st = fresh; nodes = nodes; statements = statements }

-- What a step makes of it
unfoldable pub stepped : Held → Built → Held
stepped h b = record { st = b.st; nodes = wrote h.nodes b.ns; statements = wrote h.statements b.ss }

-- One call of lift
unfoldable pub called : Held → Instruction → Held
called h i = stepped h (lift_of h.st i h.nodes h.statements)

-- The number that it answers
abbrev pub answered : Held → Instruction → ℕ
answered h i = (lift_of h.st i h.nodes h.statements).val

-- Answers 1 and 2 are the declines
abbrev pub declines : ℕ → Bool
declines r = eqb r 1 || eqb r 2

-- Any number of calls, one after the other
unfoldable pub ran : Held → List Instruction → Held
ran h [] = h
ran h (i ∷ is) = ran (called h i) is

-- Some calls, and then one more, or any number
pub ran_on : (h : Held) (is : List Instruction) (i : Instruction) → ran h (is ++ (i ∷ [])) ≡ called (ran h is) i
unfolding ran
ran_on h [] i = refl
ran_on h (j ∷ is) i = ran_on (called h j) is i

pub ran_append : (h : Held) (is js : List Instruction) → ran h (is ++ js) ≡ ran (ran h is) js
unfolding ran
ran_append h [] js = refl
ran_append h (i ∷ is) js = ran_append (called h i) is js

-- What a lift works on is what a run holds
abbrev pub at_hand : LiftCtx → Held
at_hand l = record { st = l.state; nodes = l.nodes.now; statements = l.statements.now }

-- What lifter::lift promises of a call makes of the words and the state what `called` says
pub call-is : (l l' : LiftCtx) (i : Instruction) (r : ℕ) → Does (lift_of l.state i l.nodes.now l.statements.now) l l' r → called (at_hand l) i ≡ at_hand l'
unfolding called stepped
call-is l l' i r p = cc
