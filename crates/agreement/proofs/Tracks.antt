-- A run from any state whose places are known, over lists that hold anything: what the steps add stands in the words, with its sorts.
-- Γ₀ has the sorts that are known at the start, any numbers; Γ has in addition one for each node that the run adds
use Rattle.std.specs.Prelude.{◌≡◌, refl, true, List, [], ◌∷◌, ℕ, ◌+◌, ◌*◌, ◌≤◌, ◌<◌, length, take}
use Rattle.std.proofs.Common.{◌∙◌, arith}
use Rattle.std.proofs.Math.Seq.{take-length}
use Rattle.lists.specs.Rows.{room_of, wrote, length-wrote}
use Rattle.lists.specs.Steps.{Built, gives}
use Rattle.lists.proofs.Adds.{Adds}
use Rattle.forms.specs.declared.Instruction.{Instruction}
use Rattle.forms.specs.Classify.{classify_of}
use Rattle.details.specs.Why.{why_of}
use Rattle.memory.specs.Site.{site_of}
use Rattle.lifter.proofs.Adds.{lowered-adds}
use Rattle.agreement.specs.Runs.{Held, stepped, called, ran}
use Rattle.agreement.specs.Demands.{demanded_at}
use Rattle.agreement.proofs.Fine.{grown, Placed, Knows, grown-stays, length-grown, Given, Fine}
use Rattle.agreement.proofs.Stands.{Stands, take-grown, numbered-order, after-exact, nodes-step, statements-step}
use Rattle.agreement.proofs.Fine.Lifts.{lowered-fine}
use Rattle.agreement.proofs.Added.{room-words, lowered_at, by_call}
pub mod Sorts

-- What holds of h, where the run began over Γ₀ and m₀ statements
pub record Tracks (Γ₀ : List ℕ) (m₀ : ℕ) (Γ : List ℕ) (h : Held) : Type 0 where
  pub placed : Placed Γ h.st
  pub room : h.st.nodes ≤ room_of (length h.nodes)
  pub room' : h.st.statements ≤ room_of (length h.statements)
  pub starts : length Γ₀ ≤ length Γ
  pub start : take (length Γ₀) Γ ≡ Γ₀
  pub sorted : (n : ℕ) → length Γ₀ ≤ n → n < length Γ → Stands h.nodes Γ n
  pub said : (j : ℕ) → m₀ ≤ j → j < h.st.statements → demanded_at Γ h.statements j ≡ true

-- The run begins
pub tracks-from : (Γ₀ : List ℕ) (h : Held) → Placed Γ₀ h.st → h.st.nodes ≤ room_of (length h.nodes) → h.st.statements ≤ room_of (length h.statements)
    → Tracks Γ₀ h.st.statements Γ₀ h
tracks-from Γ₀ h p r r' =
    record {
      placed = p;
      room = r;
      room' = r';
      starts = omega arith;
      start = take-length Γ₀;
      sorted = λ n x y. absurd (none (length Γ₀) n x y);
      said = λ j x y. absurd (none h.st.statements j x y);
    }
  where
    none : (a n : ℕ) → a ≤ n → n < a → ⊥
    none a n x y = omega arith

-- One step that fits
step-tracks : {Γ₀ : List ℕ} {m₀ : ℕ} {Γ : List ℕ} {h : Held} (b : Built) → Tracks Γ₀ m₀ Γ h → Fine h.st [] 0 b → Adds h.st 46 5 b
    → b.st.nodes ≤ room_of (length h.nodes) → b.st.statements ≤ room_of (length h.statements) → Tracks Γ₀ m₀ (grown Γ b.ns) (stepped h b)
unfolding stepped Knows
step-tracks {Γ₀} {m₀} {Γ} {h} b t f a r r' =
    let n = length h.nodes in
    let m = length h.statements in
    let c = t.placed.count in
    let g : Given Γ 0 b = f.over Γ t.placed tt (omega (arith, a.most, room-words n h.st.nodes t.room)) in
    let e : h.st.statements + length b.ss ≤ 4294967295 = omega (arith, a.most', room-words m h.st.statements t.room') in
    let k : length (grown Γ b.ns) ≡ length Γ + length b.ns = length-grown Γ b.ns in
    let k' : b.st.statements ≡ h.st.statements + length b.ss = a.statements ∙ after-exact h.st.statements b.ss e in
    record {
      placed = g.placed;
      room = rw (length-wrote h.nodes b.ns) r;
      room' = rw (length-wrote h.statements b.ss) r';
      starts = omega (arith, t.starts);
      start = take-grown Γ b.ns (length Γ₀) t.starts ∙ t.start;
      sorted = λ i x y.
          nodes-step h.nodes Γ b.ns (length Γ₀) g.rows (omega (arith, g.placed.count, room-words n b.st.nodes r)) t.sorted i x (omega arith);
      said = λ j x y.
          statements-step h.statements Γ (grown Γ b.ns) b.ss h.st.statements m₀ (grown-stays Γ b.ns)
          (numbered-order h.st.statements b.ss e a.in-order') g.said (omega (arith, room-words m b.st.statements r')) t.said j x (omega arith);
    }

-- .. and one that does nothing
gives-tracks : {Γ₀ : List ℕ} {m₀ : ℕ} {Γ : List ℕ} {h : Held} (r : ℕ) → Tracks Γ₀ m₀ Γ h → Tracks Γ₀ m₀ Γ (stepped h (gives h.st r))
unfolding stepped gives wrote
gives-tracks r t =
    record { placed = t.placed; room = t.room; room' = t.room'; starts = t.starts; start = t.start; sorted = t.sorted; said = t.said }

-- What a run has come to, with some sorts
pub record Followed (Γ₀ : List ℕ) (m₀ : ℕ) (h : Held) : Type 0 where
  pub sorts : List ℕ
  pub tracks : Tracks Γ₀ m₀ sorts h

-- One call of lift
pub call-follows : {Γ₀ : List ℕ} {m₀ : ℕ} {h : Held} (i : Instruction) → Followed Γ₀ m₀ h → Followed Γ₀ m₀ (called h i)
call-follows {Γ₀} {m₀} {h} i f =
    by_call (Followed Γ₀ m₀) h i (λ r. record { sorts = f.sorts; tracks = gives-tracks r f.tracks }) (λ w.
    record {
      sorts = grown f.sorts (lowered_at h i).ns;
      tracks = step-tracks (lowered_at h i) f.tracks (lowered-fine i h.st) (lowered-adds h.st (classify_of i) (why_of i) (site_of i)) w.room w.room';
    })

-- Any number of calls
pub run-follows : {Γ₀ : List ℕ} {m₀ : ℕ} {h : Held} (is : List Instruction) → Followed Γ₀ m₀ h → Followed Γ₀ m₀ (ran h is)
unfolding ran
run-follows [] f = f
run-follows {h = h} (i ∷ is) f = run-follows {h = called h i} is (call-follows i f)
