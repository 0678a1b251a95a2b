-- A read of a place that is not there gives an input that the read itself adds
use Rattle.std.specs.Prelude.{◌≡◌, refl, List, [], ◌∷◌, ◌++◌, ℕ, zero, suc, ◌+◌, ◌-◌, ◌≤◌, ◌<◌, length, get_or}
use Rattle.std.proofs.Common.{sym, ap, ◌∙◌, append_assoc, append-nil, arith, le-leb, lt-ltb, length-set, get_or-set_same}
use Rattle.lists.specs.Rows.{Row, row, up}
use Rattle.lists.specs.Steps.{◌▸◌, gives}
use Rattle.lists.specs.Nodes.{node_of, fresh_of, input_counted}
use Rattle.lists.specs.Stack.{grown, bottom_of, lowered, ensure_of, slot_of, read_of}
use Rattle.lists.specs.declared.State.{State}

-- These rows end in the row of node v, an input of 79 bits: its node number is n or more, and its number among the inputs is m or more
pub record EndsInInput (n m v : ℕ) (rows : List Row) : Type 0 where
  pub before : List Row
  pub number : ℕ
  pub last : rows ≡ before ++ (row v 1 number 79 0 ∷ [])
  pub later : n ≤ v
  pub unused : m ≤ number

ends_more : (more : List Row) {rows : List Row} {n n' m m' v : ℕ} → n ≤ n' → m ≤ m' → EndsInInput n' m' v rows → EndsInInput n m v (more ++ rows)
ends_more more {rows} {v = v} h k r =
    record {
      before = more ++ r.before;
      number = r.number;
      last = ap (λ (rs : List Row). more ++ rs) r.last ∙ sym (append_assoc more r.before (row v 1 r.number 79 0 ∷ []));
      later = omega (arith, r.later);
      unused = omega (arith, r.unused);
    }

-- One more input at the bottom: the row, and the place that names it
bottom-place : (s : State) → s.depth < 8 → length s.slots ≡ 8 → get_or (bottom_of s).st.slots s.depth 0 ≡ s.nodes
unfolding bottom_of fresh_of node_of input_counted grown gives ◌▸◌
bottom-place s h e = rw (lt-ltb s.depth 8 h) (get_or-set_same s.slots s.depth s.nodes 0 (omega arith))

bottom-state : (s : State) → s.depth < 8 → s.nodes < 4294967295 → s.inputs < 4294967295
    → ((bottom_of s).st.depth ≡ s.depth + 1) × (length (bottom_of s).st.slots ≡ length s.slots) × ((bottom_of s).st.nodes ≡ s.nodes + 1) × ((bottom_of s).st.inputs ≡ s.inputs + 1)
unfolding bottom_of fresh_of node_of input_counted grown gives up ◌▸◌
bottom-state s h k l = rw (lt-ltb s.depth 8 h) (refl, length-set s.slots s.depth s.nodes, omega arith, omega arith)

bottom-rows : (s : State) → (bottom_of s).ns ≡ row s.nodes 1 s.inputs 79 0 ∷ []
unfolding bottom_of fresh_of node_of gives ◌▸◌
bottom-rows s = refl

-- So many inputs: the last of them is at the lowest place
lowered-ends : (k : ℕ) (s : State) (i : ℕ) → i ≡ s.depth + k → i ≤ 7 → length s.slots ≡ 8 → s.nodes + k < 4294967295 → s.inputs + k < 4294967295
    → EndsInInput s.nodes s.inputs (get_or (lowered (suc k) s).st.slots i 0) (lowered (suc k) s).ns
unfolding lowered gives ◌▸◌
lowered-ends zero s i e h l m o =
    let z : i ≡ s.depth = omega arith in
    let p = bottom-place s (omega arith) l in
    rw (z, p, bottom-rows s) (record { before = []; number = s.inputs; last = refl; later = omega arith; unused = omega arith })
lowered-ends (suc k) s i e h l m o =
    let b = bottom-state s (omega arith) (omega arith) (omega arith) in
    ends_more (bottom_of s).ns (omega arith) (omega arith) (lowered-ends k (bottom_of s).st i (omega arith) h (b.1 ∙ l) (omega arith) (omega arith))

-- THE READ
pub read-ends : (s : State) (i : ℕ) → s.depth ≤ i → i ≤ 7 → length s.slots ≡ 8 → s.nodes + 8 ≤ 4294967295 → s.inputs + 8 ≤ 4294967295
    → EndsInInput s.nodes s.inputs (read_of s i).val (read_of s i).ns
unfolding read_of ensure_of slot_of gives ◌▸◌
read-ends s i d h l m o =
    let e : i + 1 - s.depth ≡ suc (i - s.depth) = omega arith in
    rw (le-leb i 7 h, e, append-nil) (lowered-ends (i - s.depth) s i (omega arith) h l (omega arith) (omega arith))
