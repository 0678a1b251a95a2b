-- What a lift that answers 0 has done: the step of its form, from a valid state, in lists with room
use Rattle.std.specs.Prelude.{◌≡◌, List, ℕ, ◌+◌, ◌*◌, ◌≤◌, ◌<◌, length, get_or}
use Rattle.std.proofs.Common.{arith}
use Rattle.lists.specs.Rows.{wrote, room_of}
use Rattle.lists.specs.Steps.{Built, gives}
use Rattle.lists.specs.declared.State.{State}
use Rattle.forms.specs.Classify.{classify_of}
use Rattle.details.specs.Why.{why_of}
use Rattle.forms.specs.declared.Instruction.{Instruction}
use Rattle.forms.specs.declared.Form.{Form}
use Rattle.std.specs.Prelude.{Some, Ok}
use Rattle.memory.specs.Site.{site_of}
use Rattle.lifter.specs.Apply.{apply_x87_of}
use Rattle.lifter.specs.Lift.{lowered_of, lift_of}
use Rattle.lifter.proofs.Adds.{lowered-adds}
use Rattle.agreement.specs.Runs.{Held}
use Rattle.agreement.proofs.Fine.Valid.{is-valid, place_inside}
use Rattle.agreement.proofs.InWords.{InWords, laid}
use Rattle.agreement.proofs.Added.{room-words, lowered_at, by-lift}

-- What the lift gives is the step of its form; the nodes before it stay, and its own stand in the list
pub record Applied (s : State) (i : Instruction) (nodes : List ℕ) (form : Form) (b : Built) : Type 0 where
  pub same : b ≡ apply_x87_of s form (site_of i)
  pub few : s.nodes ≤ 65535
  pub top : 0 < s.depth → get_or s.slots 0 0 < s.nodes
  pub counts : b.st.nodes ≡ s.nodes + length b.ns
  pub keeps : (j : ℕ) → j < 4 * s.nodes → get_or (wrote nodes b.ns) j 0 ≡ get_or nodes j 0
  pub stands : InWords (wrote nodes b.ns) b.ns

module _ (s : State) (i : Instruction) (nodes statements : List ℕ) (form : Form) where
  abbrev from : Held
  from = record { st = s; nodes = nodes; statements = statements }

  -- Each refusal has another answer
  refused : (r : ℕ) → 5 ≤ r → (gives s r).val ≡ 0 → Applied s i nodes form (gives s r)
  unfolding gives
  refused r h e = absurd (omega arith)

  pub applied : classify_of i ≡ Ok (Some form) → (lift_of s i nodes statements).val ≡ 0 → Applied s i nodes form (lift_of s i nodes statements)
  unfolding lowered_of
  applied e =
      by-lift (λ (b : Built). b.val ≡ 0 → Applied s i nodes form b) from i (refused 5 (omega arith)) (refused 6 (omega arith)) (refused 7 (omega arith)) (λ v w _.
      let y = is-valid s (room_of (length nodes)) (room_of (length statements)) v in
      let n = room-words (length nodes) s.nodes y.nodes in
      let m = room-words (length nodes) (lowered_at from i).st.nodes w.room in
      let a = lowered-adds s (classify_of i) (why_of i) (site_of i) in
      record {
        same = rw e;
        few = n.1;
        top = place_inside s (room_of (length nodes)) (room_of (length statements)) y 0;
        counts = w.counts;
        keeps = w.keeps;
        stands = laid nodes s.nodes (lowered_at from i).ns a.in_order (omega (arith, a.most)) (omega (arith, a.nodes));
      })
