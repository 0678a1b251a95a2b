-- THEOREM 6: A DECLINE FORGETS.
-- A lifter that carried the stack across an instruction that it did not know once had track tamped to a wrong figure:
-- its formulas went on from values that the unknown instruction may have changed.
-- Here a call that declines, with answer 1 or 2, leaves no place of the stack used. Whatever is lifted after it, no place names a node
-- from before it, no node that is added has an operand from before it, and no statement that is added names one:
-- no formula made after the gap says anything of a node made before it. A place that is read while it is not there
-- gives an input that the read itself adds, and no input or temporary made after the gap has the number of one made before it:
-- it is no variable from before. It holds of any state and lists, valid or not: a state of the code has eight slots.
use Rattle.std.specs.Prelude.{◌≡◌, true, List, ℕ, length, take, replicate}
use Rattle.std.proofs.Common.{sym, subst, ◌∙◌, arith, take-take}
use Rattle.std.proofs.lemmas.List.{length-replicate}
use Rattle.lists.specs.Rows.{room_of}
use Rattle.forms.specs.declared.Instruction.{Instruction}
use Rattle.agreement.specs.Runs.{Held, begun, answered, declines, stepped, called, ran}
use Rattle.agreement.proofs.Demands.Laws.{named-at}
use Rattle.agreement.specs.Operands.{operands_at}
use Rattle.agreement.proofs.Operands.{each_map, operands-at}
use Rattle.agreement.specs.Counted.{Since}
use Rattle.agreement.proofs.Counted.{since, counted, call-counted, counts-on, input-below}
use Rattle.agreement.proofs.Tracks.Sorts.{run-tracked}
use Rattle.agreement.proofs.Tracks.{Tracks, tracks-from, call-follows, run-follows}
use Rattle.agreement.specs.Forgets.Reads.{read-ends}
use Rattle.agreement.proofs.Forgets.Clears.{decline-clears, decline-valid}
use Rattle.agreement.proofs.Forgets.Gap.{gap-placed, any-tracks, later}
use Rattle.agreement.specs.Forgets.{Apart, Forgets, RunForgets}
pub mod Clears
pub mod Gap

-- A run that is followed from a state of which no node is known
followed-apart : (d : Held) (Γ : List ℕ) (h : Held) → Since d h → Tracks (replicate d.st.nodes 0) d.st.statements Γ h → Apart d h
unfolding room_of
followed-apart d Γ h s t =
    let n = d.st.nodes in
    let r : length (replicate {A = ℕ} n 0) ≡ n = length-replicate n 0 in
    let c = t.placed.count in
    let e : take n Γ ≡ replicate n 0 = subst (λ (k : ℕ). take k Γ ≡ replicate n 0) r t.start in
    record {
      places = λ i k. later n Γ _ e (λ z. let q = t.placed.used i k in omega arith);
      nodes = λ v a b.
          let s = t.sorted v (omega arith) (omega arith) in
          each_map (λ u p. later n (take v Γ) u (take-take n v Γ a ∙ e) p) (operands_at h.nodes v) (operands-at h.nodes (take v Γ) v (λ z. s.some (sym s.sort ∙ z)));
      statements = λ j a b k. let w = named-at Γ h.statements j k (t.said j a b) in later n Γ _ e (λ z. omega arith);
      variables = s;
      reads = λ i d k.
          let x = read-ends h.st i d k t.placed.eight (omega (arith, t.room)) (omega (arith, t.room, t.placed.counted)) in
          record { before = x.before; number = x.number; last = x.last; later = omega (arith, x.later, t.starts); unused = x.unused };
    }

pub forgets : (h : Held) (i : Instruction) → length h.st.slots ≡ 8 → declines (answered h i) ≡ true → Forgets (called h i)
unfolding called stepped
forgets h i l e =
    let d = called h i in
    let f = call-follows i (record { sorts = _; tracks = any-tracks h l (decline-valid i h e) }) in
    let t : Tracks _ _ f.sorts d = f.tracks in
    let z : d.st.depth ≡ 0 = decline-clears i h e in
    record {
      empty = z;
      apart = λ is.
          let g = run-follows is (record { sorts = _; tracks = tracks-from (replicate d.st.nodes 0) d (gap-placed f.sorts d.st z t.placed) t.room t.room' }) in
          followed-apart d g.sorts (ran d is) (since d is) g.tracks;
    }

pub run-forgets : (nodes statements : List ℕ) (is : List Instruction) (i : Instruction) → let h = ran (begun nodes statements) is in
    declines (answered h i) ≡ true → RunForgets (called h i)
run-forgets nodes statements is i e =
    let h = ran (begun nodes statements) is in
    let f = forgets h i (run-tracked nodes statements is).tracks.placed.eight e in
    record {
      forgets = f;
      unseen = λ js j a b v k z.
          let c = counts-on (called h i) js (call-counted h i (counted nodes statements is)) in
          omega (arith, input-below (ran (called h i) js) c v k z, ((f.apart js).reads j a b).unused);
    }
