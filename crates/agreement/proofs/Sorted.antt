-- THEOREM 1: WHAT IS LIFTED IS SORTED.
-- Whatever instructions are lifted, one after the other, from the fresh state over any two lists: the state is valid,
-- the sort check passes the nodes that it counts, each used place of the stack names a node of 79 bits,
-- and each statement names a node as wide as its place demands.
use Rattle.std.specs.Prelude.{◌≡◌, List, [], ℕ, length}
use Rattle.std.proofs.Common.{arith}
use Rattle.forms.specs.declared.Instruction.{Instruction}
use Rattle.agreement.specs.Runs.{Held, begun, ran}
use Rattle.agreement.proofs.Tracks.{Tracks, run-follows}
use Rattle.agreement.proofs.Tracks.Sorts.{tracked-sorts, tracked-valid, tracked-passes, run-tracked, passing-tracks}
use Rattle.agreement.specs.Sorted.{sorts_of, Sound}

tracked-sound : {Γ : List ℕ} {h : Held} → Tracks [] 0 Γ h → Sound h
tracked-sound t =
    record {
      valid = tracked-valid t;
      passes = tracked-passes t;
      places = rw (tracked-sorts t) t.placed.used;
      said = rw (tracked-sorts t) (λ j k. t.said j (omega arith) k);
    }

pub sorted : (nodes statements : List ℕ) (is : List Instruction) → Sound (ran (begun nodes statements) is)
sorted nodes statements is = tracked-sound (run-tracked nodes statements is).tracks

-- And a run goes on so from any state that is sound; eight slots has every state of the code
pub goes_on : (h : Held) → length h.st.slots ≡ 8 → Sound h → (is : List Instruction) → Sound (ran h is)
goes_on h e s is =
    tracked-sound (run-follows is (record { sorts = sorts_of h; tracks = passing-tracks h e s.valid s.passes s.places s.said })).tracks
