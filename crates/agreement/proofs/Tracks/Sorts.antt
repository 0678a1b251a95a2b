-- A run that is tracked from nothing on: its words pass the check; and words that pass can be tracked
use Rattle.std.specs.Prelude.{◌≡◌, refl, true, List, [], ℕ, zero, suc, ◌+◌, ◌≤◌, ◌<◌, length, get_or, take, Ok}
use Rattle.std.proofs.Common.{sym, ap, ◌∙◌, arith, le-leb, take-suc, get_or-take}
use Rattle.std.proofs.Math.Seq.{take-length}
use Rattle.std.proofs.lemmas.List.{get_or_at}
use Rattle.lists.specs.Rows.{room_of}
use Rattle.lists.specs.Stack.{fresh, havoc_of}
use Rattle.lists.specs.Valid.{valid_of}
use Rattle.forms.specs.declared.Instruction.{Instruction}
use Rattle.sorts.specs.Lists.{row_sort, sorts}
use Rattle.sorts.specs.Check.{check_of}
use Rattle.sorts.specs.Laws.{Passes, sorts-suc, length-sorts, take-sorts, sorted-passes, passed-sorted, passed-room}
use Rattle.agreement.specs.Runs.{Held, begun, ran}
use Rattle.agreement.specs.Demands.{demanded_at}
use Rattle.agreement.proofs.Fine.{Placed}
use Rattle.agreement.proofs.Fine.Stack.{cleared}
use Rattle.agreement.proofs.Fine.Valid.{placed-valid, is-valid, valid-placed}
use Rattle.agreement.proofs.Stands.{Stands}
use Rattle.agreement.proofs.Tracks.{Tracks, Followed, tracks-from, run-follows}

-- What is tracked from nothing on are the sorts of the words
sorts-are : (w Γ : List ℕ) → ((n : ℕ) → n < length Γ → Stands w Γ n) → (n : ℕ) → n ≤ length Γ → sorts w n ≡ take n Γ
unfolding sorts
sorts-are w Γ f zero h = refl
sorts-are w Γ f (suc n) h = rw (sorts-are w Γ f n (omega arith), (f n (omega arith)).sort) (sym (take-suc Γ n 0 (omega arith)))

-- .. and the sorts of words that pass stand there
sorts-stand : (w : List ℕ) (n i : ℕ) → i < n → Passes w n → Stands w (sorts w n) i
sorts-stand w n i h p =
    let t : get_or (sorts w n) i 0 ≡ row_sort w i (sorts w i) =
    sym (get_or-take (i + 1) (sorts w n) i 0 (omega arith)) ∙ ap (λ (l : List ℕ). get_or l i 0) (take-sorts w (i + 1) n (omega arith) ∙ sorts-suc w i)
    ∙ get_or_at (sorts w i) (row_sort w i (sorts w i)) [] 0 i (length-sorts w i) in
    record { sort = rw (take-sorts w i n (omega arith)) (sym t); some = λ z. passed-sorted w n i h p (sym t ∙ z) }

module _ {Γ : List ℕ} {h : Held} (t : Tracks [] 0 Γ h) where
  stand : (n : ℕ) → n < length Γ → Stands h.nodes Γ n
  stand n k = t.sorted n (omega arith) k

  pub tracked-sorts : sorts h.nodes h.st.nodes ≡ Γ
  tracked-sorts =
      let c = t.placed.count in
      sorts-are h.nodes Γ stand h.st.nodes (omega arith) ∙ ap (λ (n : ℕ). take n Γ) c ∙ take-length Γ

  pub tracked-valid : valid_of h.st (room_of (length h.nodes)) (room_of (length h.statements)) ≡ true
  tracked-valid = placed-valid Γ h.st _ _ t.placed t.room t.room'

  pub tracked-passes : check_of h.nodes h.st.nodes ≡ Ok tt
  unfolding check_of
  tracked-passes =
      let c = t.placed.count in
      rw (le-leb _ _ t.room) (sorted-passes h.nodes h.st.nodes
      (λ i k z. (stand i (omega arith)).some (sym (stand i (omega arith)).sort ∙ rw (sorts-are h.nodes Γ stand i (omega arith)) at z)))

fresh-placed : Placed [] fresh
unfolding havoc_of
fresh-placed = cleared [] fresh refl (omega arith)

-- A run from the fresh state
pub run-tracked : (nodes statements : List ℕ) (is : List Instruction) → Followed [] 0 (ran (begun nodes statements) is)
run-tracked nodes statements is =
    run-follows is (record { sorts = []; tracks = tracks-from [] (begun nodes statements) fresh-placed (omega arith) (omega arith) })

-- A state and words that pass
pub passing-tracks : (h : Held) → length h.st.slots ≡ 8 → valid_of h.st (room_of (length h.nodes)) (room_of (length h.statements)) ≡ true
    → check_of h.nodes h.st.nodes ≡ Ok tt → let Γ = sorts h.nodes h.st.nodes in
    ((i : ℕ) → i < h.st.depth → get_or Γ (get_or h.st.slots i 0) 0 ≡ 79) → ((j : ℕ) → j < h.st.statements → demanded_at Γ h.statements j ≡ true)
    → Tracks [] 0 Γ h
passing-tracks h e p c f g =
    let w = h.nodes in
    let n = h.st.nodes in
    let v = is-valid h.st _ _ p in
    let l = length-sorts w n in
    record {
      placed = valid-placed h.st _ _ v (sorts w n) e (sym l) f;
      room = v.nodes;
      room' = v.statements;
      starts = omega arith;
      start = refl;
      sorted = λ i _ k. sorts-stand w n i (omega arith) (passed-room w n c).passes;
      said = λ j _ k. g j k;
    }
