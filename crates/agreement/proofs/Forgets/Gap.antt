-- The state before a decline, the state after it, and what a sort says of a node after it
use Rattle.std.specs.Prelude.{◌≡◌, true, List, ℕ, ◌≤◌, ◌<◌, length, get_or, take, replicate}
use Rattle.std.proofs.Common.{sym, ap, ◌∙◌, arith, get_or-take}
use Rattle.std.proofs.Math.Decide.{dec_lt}
use Rattle.std.proofs.lemmas.List.{length-replicate, get_or-replicate}
use Rattle.lists.specs.Rows.{room_of}
use Rattle.lists.specs.Valid.{valid_of}
use Rattle.lists.specs.declared.State.{State}
use Rattle.agreement.specs.Runs.{Held}
use Rattle.agreement.proofs.Fine.{Some, Placed}
use Rattle.agreement.proofs.Fine.Valid.{is-valid, place_inside, valid-placed}
use Rattle.agreement.proofs.Tracks.{Tracks, tracks-from}

-- The state after a decline: no place is used, and nothing is known of a node
pub gap-placed : (Γ : List ℕ) (s : State) → s.depth ≡ 0 → Placed Γ s → Placed (replicate s.nodes 0) s
gap-placed Γ s e p =
    record {
      count = sym (length-replicate s.nodes 0);
      eight = p.eight;
      deep = p.deep;
      used = λ i k. absurd (none i k);
      unused = p.unused;
      counted = p.counted;
    }
  where
    none : (i : ℕ) → i < s.depth → ⊥
    none i k = omega arith

-- Before it, any valid state: were all nodes 79 bits wide, its places would be known
pub any-tracks : (h : Held) → length h.st.slots ≡ 8 → valid_of h.st (room_of (length h.nodes)) (room_of (length h.statements)) ≡ true
    → Tracks (replicate h.st.nodes 79) h.st.statements (replicate h.st.nodes 79) h
any-tracks h l e =
    let v = is-valid h.st _ _ e in
    let p = valid-placed h.st _ _ v (replicate h.st.nodes 79) l (sym (length-replicate h.st.nodes 79))
    (λ i k. get_or-replicate h.st.nodes _ 79 0 (place_inside h.st _ _ v i k)) in
    tracks-from (replicate h.st.nodes 79) h p v.nodes v.statements

-- A node that has a sort where nothing was known of the first n is none of them
pub later : (n : ℕ) (Γ : List ℕ) (v : ℕ) → take n Γ ≡ replicate n 0 → Some (get_or Γ v 0) → n ≤ v
later n Γ v e s = way (dec_lt v n)
  where
    way : Dec (v < n) → n ≤ v
    way (yes d) = absurd (s (sym (get_or-take n Γ v 0 d) ∙ ap (λ (l : List ℕ). get_or l v 0) e ∙ get_or-replicate n v 0 0 d))
    way (no d) = omega arith
