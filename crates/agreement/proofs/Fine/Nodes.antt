-- A step that adds one node, and one that adds a statement
use Rattle.std.specs.Prelude.{◌≡◌, refl, true, List, [], ◌∷◌, ◌++◌, ℕ, ◌+◌, ◌≤◌, length, get_or}
use Rattle.std.proofs.Common.{sym, ap, ◌∙◌, arith, length-append}
use Rattle.std.proofs.Math.Seq.{get_or-append_seam}
use Rattle.lists.specs.Rows.{row, up}
use Rattle.lists.specs.Steps.{◌▸◌, gives}
use Rattle.lists.specs.Nodes.{node_of, statement_of, input_counted, temporary_counted, fresh_of, temporary_of}
use Rattle.lists.specs.declared.State.{State}
use Rattle.sorts.specs.Sorts.{sort_row}
use Rattle.agreement.specs.Demands.{demanded}
use Rattle.agreement.proofs.Fine.{Some, sort_in, grown, Sorted, Demanded, Placed, Fact, ◌has◌, Known, Knows, stays, Given, Fine, chosen, by}

-- What is known settles the sort of a row: σ, which is one
pub record Typed (ks : List Fact) (k a b c σ : ℕ) : Type 0 where
  pub sort : (Γ : List ℕ) → Knows Γ ks → sort_row k a b c (get_or Γ a 0) (get_or Γ b 0) (get_or Γ c 0) ≡ σ
  pub some : Some σ

-- The state t is s with one more node: the same places, and at most one more input or temporary
pub record More (s t : State) : Type 0 where
  pub slots : t.slots ≡ s.slots
  pub depth : t.depth ≡ s.depth
  pub nodes : t.nodes ≡ up s.nodes
  pub counted : t.inputs + t.temporaries ≤ s.inputs + s.temporaries + 1

placed-more : (Γ : List ℕ) (s t : State) (σ : ℕ) → More s t → length Γ + 1 ≤ 4294967295 → Placed Γ s → Placed (Γ ++ (σ ∷ [])) t
unfolding up
placed-more Γ s t σ m h p =
    let l = length-append Γ (σ ∷ []) in
    record {
      count = omega (arith, m.nodes, p.count);
      eight = ap length m.slots ∙ p.eight;
      deep = omega (arith, m.depth, p.deep);
      used = λ i j. rw m.slots ((stays Γ (σ ∷ [])).keeps _ 79 (λ z. omega arith) (p.used i (omega (arith, m.depth))));
      unused = λ i j. rw m.slots (p.unused i (omega (arith, m.depth)));
      counted = omega (arith, m.nodes, m.counted, p.counted, p.count);
    }

-- One more node: it has the sort that is known, and the step names it
pub one-row : (s t : State) (k a b c σ : ℕ) (ks : List Fact) → Typed ks k a b c σ → More s t
    → Fine s ks σ (record { st = t; val = s.nodes; ns = row s.nodes k a b c ∷ []; ss = [] })
unfolding grown Sorted Demanded Known sort_in
one-row s t k a b c σ ks f m = record { over = over }
  where
    over : (Γ : List ℕ) → Placed Γ s → Knows Γ ks → length Γ + 1 ≤ 4294967295
        → Given Γ σ (record { st = t; val = s.nodes; ns = row s.nodes k a b c ∷ []; ss = [] })
    over Γ p h l =
        let e = f.sort Γ h in
        record {
          rows = (p.count, λ z. f.some (sym e ∙ z), tt);
          placed = placed-more Γ s t _ m l p;
          said = tt;
          node = λ _. rw p.count (get_or-append_seam Γ _ [] 0 ∙ e);
        }

pub node : {s : State} {k a b c σ : ℕ} {ks : List Fact} (is : List ℕ) → Typed (chosen ks is) k a b c σ → Fine s ks σ (node_of s k a b c)
unfolding node_of
node {s} {k} {a} {b} {c} {σ} {ks} is f =
    by is (one-row s _ k a b c σ (chosen ks is) f (record { slots = refl; depth = refl; nodes = refl; counted = omega arith }))

-- .. which is an input or a temporary
pub fresh-node : {s : State} {bits : ℕ} {ks : List Fact} → Typed ks 1 s.inputs bits 0 bits → Fine s ks bits (fresh_of s bits)
unfolding fresh_of node_of input_counted ◌▸◌ gives up
fresh-node {s} {bits} {ks} f = one-row s _ 1 s.inputs bits 0 bits ks f (record { slots = refl; depth = refl; nodes = refl; counted = omega arith })

pub temporary-node : {s : State} {bits : ℕ} {ks : List Fact} → Typed ks 2 s.temporaries bits 0 bits → Fine s ks bits (temporary_of s bits)
unfolding temporary_of node_of temporary_counted ◌▸◌ gives up
temporary-node {s} {bits} {ks} f = one-row s _ 2 s.temporaries bits 0 bits ks f (record { slots = refl; depth = refl; nodes = refl; counted = omega arith })

-- What is known meets the demand of a statement
pub record Says (ks : List Fact) (k a b c : ℕ) : Type 0 where
  pub met : (Γ : List ℕ) → Knows Γ ks → demanded Γ k a b c ≡ true

-- One more statement
pub statement : {s : State} {k a b c : ℕ} {ks : List Fact} (is : List ℕ) → Says (chosen ks is) k a b c → Fine s ks 0 (statement_of s k a b c)
unfolding statement_of grown Sorted Demanded Known
statement {s} {k} {a} {b} {c} is f =
    by is (record {
      over = λ Γ p h l.
          record {
            rows = tt;
            placed = record { count = p.count; eight = p.eight; deep = p.deep; used = p.used; unused = p.unused; counted = p.counted };
            said = (f.met Γ h, tt);
            node = λ z. absurd (z refl);
          };
    })

-- From s to t the nodes stay, and what is known gives t its places and v its sort
pub record Moves (ks : List Fact) (s t : State) (v σ : ℕ) : Type 0 where
  pub placed : (Γ : List ℕ) → Placed Γ s → Knows Γ ks → Placed Γ t
  pub node : (Γ : List ℕ) → Placed Γ s → Knows Γ ks → Known Γ (v has σ)

-- A step that adds nothing
pub quiet : {s t : State} {v σ : ℕ} {ks : List Fact} (is : List ℕ) → Moves (chosen ks is) s t v σ → Fine s ks σ (gives t v)
unfolding gives grown Sorted Demanded
quiet is f = by is (record { over = λ Γ p h l. record { rows = tt; placed = f.placed Γ p h; said = tt; node = f.node Γ p h } })

-- .. and names no node
pub still : {s t : State} {ks : List Fact} (v : ℕ) (is : List ℕ) → ((Γ : List ℕ) → Placed Γ s → Knows Γ (chosen ks is) → Placed Γ t) → Fine s ks 0 (gives t v)
unfolding Known
still v is f = quiet is (record { placed = f; node = λ Γ p h z. absurd (z refl) })
