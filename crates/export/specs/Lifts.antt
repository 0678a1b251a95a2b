-- What a lift over lent words answers and leaves in them.
use Rattle.std.specs.Prelude.{◌≡◌, Bool, cond, ◌&&◌, List, [], ◌∷◌, ℕ, ◌%◌, leb, ltb, take, get_or, Result}
use Rattle.texts.specs.Bytes.{all}
use Rattle.lists.specs.Rows.{wrote}
use Rattle.lists.specs.Steps.{Built}
use Rattle.lists.specs.declared.State.{State}
use Rattle.forms.specs.declared.Instruction.{Instruction}
use Rattle.forms.specs.Classify.{Classified}
use Rattle.memory.specs.declared.Site.{Site}
use Rattle.details.specs.Why.{beside_of, detail_of}
use Rattle.lifter.specs.Lift.{placed_of, lift_of, number_of, detail_in}
use Rattle.lifter.specs.declared.Lifted as lifter
use Rattle.lifter.specs.declared.Refusal.{Refusal}
use Rattle.export.specs.Flat.{insn_of, laid, at_least}

-- a number of 32 bits
abbrev pub small_is : ℕ → Bool
small_is w = ltb w 4294967296

abbrev pub low32 : ℕ → ℕ
low32 w = w % 4294967296

-- eight slots, depth, nodes, statements, inputs, temporaries
unfoldable pub state_in : List ℕ → State
state_in w =
    record {
      slots = low32 (get_or w 0 0) ∷ low32 (get_or w 1 0) ∷ low32 (get_or w 2 0) ∷ low32 (get_or w 3 0) ∷ low32 (get_or w 4 0) ∷ low32 (get_or w 5 0) ∷ low32 (get_or w 6 0) ∷ low32 (get_or w 7 0) ∷ [];
      depth = low32 (get_or w 8 0);
      nodes = low32 (get_or w 9 0);
      statements = low32 (get_or w 10 0);
      inputs = low32 (get_or w 11 0);
      temporaries = low32 (get_or w 12 0);
    }

unfoldable pub state_words : State → List ℕ
state_words s =
    get_or s.slots 0 0 ∷ get_or s.slots 1 0 ∷ get_or s.slots 2 0 ∷ get_or s.slots 3 0 ∷ get_or s.slots 4 0 ∷ get_or s.slots 5 0 ∷ get_or s.slots 6 0 ∷ get_or s.slots 7 0
    ∷ s.depth ∷ s.nodes ∷ s.statements ∷ s.inputs ∷ s.temporaries ∷ []

-- the answer and its detail, and the state's words and both lists at exit
pub record Lifted : Type 0 where
  pub answer : ℕ
  pub detail : ℕ
  pub state : List ℕ
  pub nodes : List ℕ
  pub statements : List ℕ

-- a refusal changes nothing
abbrev pub unchanged : ℕ → List ℕ → List ℕ → List ℕ → Lifted
unchanged r s n t = record { answer = r; detail = 0; state = s; nodes = n; statements = t }

-- the state's words in front, unless the lift was refused
abbrev pub kept_if : Bool → State → List ℕ → List ℕ
kept_if b s w = cond b (laid w 0 (state_words s)) w

-- a lift's rows and its state, and the detail
abbrev pub told : ℕ → Built → List ℕ → List ℕ → List ℕ → Lifted
told d b s n t =
    record {
      answer = b.val;
      detail = d;
      state = kept_if (leb b.val 2) b.st s;
      nodes = wrote n b.ns;
      statements = wrote t b.ss;
    }

abbrev pub done : Instruction → Built → List ℕ → List ℕ → List ℕ → Lifted
done i b s n t = told (detail_of b.val i) b s n t

-- a lift over a state of 13 words: 5 where one of them is no number of 32 bits
unfoldable pub lifted_in : Instruction → List ℕ → List ℕ → List ℕ → Lifted
lifted_in i s n t = cond (all small_is (take 13 s)) (done i (lift_of (state_in s) i n t) s n t) (unchanged 5 s n t)

-- .. of what `classify` answered, with a detail
abbrev pub placed_in : Classified → ℕ → Site → List ℕ → List ℕ → List ℕ → Lifted
placed_in c d site s n t =
    cond (all small_is (take 13 s)) (told (beside_of (placed_of (state_in s) c d site n t).val d) (placed_of (state_in s) c d site n t) s n t) (unchanged 5 s n t)

-- .. of the instruction in the first 177 bytes: 10 where a slice is too short
unfoldable pub lifted_of : List ℕ → List ℕ → List ℕ → List ℕ → Lifted
lifted_of flat s n t = cond (at_least 177 flat && at_least 13 s) (lifted_in (insn_of flat) s n t) (unchanged 10 s n t)

-- the answer, and what is left in the lent slices
pub record Lifts (x : Lifted) (r : ℕ) (s n t : List ℕ) : Type 0 where
  pub answer : r ≡ x.answer
  pub state : s ≡ x.state
  pub nodes : n ≡ x.nodes
  pub statements : t ≡ x.statements

-- .. of a lift that tells what it came to
pub record Places (x : Lifted) (outcome : Result lifter.Lifted Refusal) (s n t : List ℕ) : Type 0 where
  pub lifts : Lifts x (number_of outcome) s n t
  pub detail-is : detail_in outcome ≡ x.detail
