-- What a call of lift writes: it is refused and leaves all as it was, or the rows of its instruction stand in the words, behind those that were there
use Rattle.std.specs.Prelude.{◌≡◌, refl, Bool, true, false, cond, List, ℕ, ◌+◌, ◌*◌, ◌≤◌, ◌<◌, leb, length, get_or, take}
use Rattle.std.proofs.Common.{sym, ap, ◌∙◌, arith, leb-true, get_or-take}
use Rattle.lists.specs.Rows.{room_of, wrote}
use Rattle.lists.specs.Steps.{Built, gives}
use Rattle.lists.specs.Valid.{valid_of}
use Rattle.lists.proofs.Adds.{Adds, nodes-kept, statements-kept}
use Rattle.forms.specs.Classify.{classify_of}
use Rattle.details.specs.Why.{why_of}
use Rattle.forms.specs.declared.Instruction.{Instruction}
use Rattle.memory.specs.Site.{site_of}
use Rattle.lifter.specs.Lift.{lowered_of, fitting_of, lift_of}
use Rattle.lifter.proofs.Adds.{lowered-adds}
use Rattle.agreement.specs.Runs.{Held, stepped, called}
use Rattle.agreement.specs.Laid.{Lies, lies}
use Rattle.agreement.proofs.Stands.{numbered-order, after-exact}
use Rattle.agreement.proofs.Fine.Valid.{is-valid}

-- What an instruction comes to from here, over lists of any length
abbrev pub lowered_at : Held → Instruction → Built
lowered_at h i = lowered_of h.st (classify_of i) (why_of i) (site_of i)

-- Its rows are counted, stand behind those that were there, and leave them
pub record Added (h : Held) (b : Built) : Type 0 where
  pub counts : b.st.nodes ≡ h.st.nodes + length b.ns
  pub counts' : b.st.statements ≡ h.st.statements + length b.ss
  pub rows : Lies (wrote h.nodes b.ns) h.st.nodes b.ns
  pub rows' : Lies (wrote h.statements b.ss) h.st.statements b.ss
  pub keeps : (j : ℕ) → j < 4 * h.st.nodes → get_or (wrote h.nodes b.ns) j 0 ≡ get_or h.nodes j 0
  pub keeps' : (j : ℕ) → j < 4 * h.st.statements → get_or (wrote h.statements b.ss) j 0 ≡ get_or h.statements j 0
  -- all that is counted has room
  pub room : b.st.nodes ≤ room_of (length h.nodes)
  pub room' : b.st.statements ≤ room_of (length h.statements)
  -- and no count is near its largest number
  pub few : h.st.inputs + h.st.temporaries + length b.ns ≤ 4294967295

-- A count within the room of some words
pub room-words : (words n : ℕ) → n ≤ room_of words → (4 * n ≤ words) × (n ≤ 65535)
unfolding room_of
room-words words n h = omega arith

kept_word : (n : ℕ) (l m : List ℕ) (j : ℕ) → j < n → take n l ≡ take n m → get_or l j 0 ≡ get_or m j 0
kept_word n l m j h e = sym (get_or-take n l j 0 h) ∙ ap (λ (w : List ℕ). get_or w j 0) e ∙ get_or-take n m j 0 h

module _ (h : Held) (b : Built) where
  written : Adds h.st 46 5 b → valid_of h.st (room_of (length h.nodes)) (room_of (length h.statements)) ≡ true
      → b.st.nodes ≤ room_of (length h.nodes) → b.st.statements ≤ room_of (length h.statements) → Added h b
  written a e r r' =
      let v = is-valid h.st (room_of (length h.nodes)) (room_of (length h.statements)) e in
      let n = room-words (length h.nodes) h.st.nodes v.nodes in
      let m = room-words (length h.statements) h.st.statements v.statements in
      let f : h.st.nodes + length b.ns ≤ 4294967295 = omega (arith, a.most) in
      let f' : h.st.statements + length b.ss ≤ 4294967295 = omega (arith, a.most') in
      let c : b.st.nodes ≡ h.st.nodes + length b.ns = a.nodes ∙ after-exact h.st.nodes b.ns f in
      let c' : b.st.statements ≡ h.st.statements + length b.ss = a.statements ∙ after-exact h.st.statements b.ss f' in
      let x = room-words (length h.nodes) b.st.nodes r in
      let x' = room-words (length h.statements) b.st.statements r' in
      record {
        counts = c;
        counts' = c';
        rows = lies h.nodes h.st.nodes b.ns (numbered-order h.st.nodes b.ns f a.in_order) (omega arith);
        rows' = lies h.statements h.st.statements b.ss (numbered-order h.st.statements b.ss f' a.in-order') (omega arith);
        keeps = λ j k. kept_word (4 * h.st.nodes) _ _ j k (nodes-kept a h.nodes (omega arith));
        keeps' = λ j k. kept_word (4 * h.st.statements) _ _ j k (statements-kept a h.statements (omega arith));
        room = r;
        room' = r';
        few = omega (arith, v.counted, a.most);
      }

-- EVERY LIFT: what holds of a refusal with 5, 6 and 7, and of the instruction's step where its rows stand in the words, holds of the lift
pub by-lift : (P : Built → Type 0) (h : Held) (i : Instruction) → P (gives h.st 5) → P (gives h.st 6) → P (gives h.st 7)
    → (valid_of h.st (room_of (length h.nodes)) (room_of (length h.statements)) ≡ true → Added h (lowered_at h i) → P (lowered_at h i))
    → P (lift_of h.st i h.nodes h.statements)
unfolding lift_of fitting_of
by-lift P h i p₅ p₆ p₇ f =
    way (valid_of h.st (room_of (length h.nodes)) (room_of (length h.statements)))
    (leb b.st.nodes (room_of (length h.nodes))) (leb b.st.statements (room_of (length h.statements))) refl refl refl
  where
    b : Built
    b = lowered_at h i

    way : (x y z : Bool) → valid_of h.st (room_of (length h.nodes)) (room_of (length h.statements)) ≡ x → leb b.st.nodes (room_of (length h.nodes)) ≡ y
        → leb b.st.statements (room_of (length h.statements)) ≡ z → P (cond x (cond y (cond z b (gives h.st 7)) (gives h.st 6)) (gives h.st 5))
    way true true true e p q = f e (written h b (lowered-adds h.st (classify_of i) (why_of i) (site_of i)) e (leb-true _ _ p) (leb-true _ _ q))
    way true true false e p q = p₇
    way true false z e p q = p₆
    way false y z e p q = p₅

-- .. and so of what a call leaves
pub by_call : (P : Held → Type 0) (h : Held) (i : Instruction) → ((r : ℕ) → P (stepped h (gives h.st r)))
    → (Added h (lowered_at h i) → P (stepped h (lowered_at h i))) → P (called h i)
unfolding called
by_call P h i f g = by-lift (λ (b : Built). P (stepped h b)) h i (f 5) (f 6) (f 7) (λ _ w. g w)
