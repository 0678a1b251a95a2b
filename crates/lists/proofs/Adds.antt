-- A step numbers its rows one after the other from the state's counts on, and adds no more than so many
use mathlib.Core.Path.{◌≡◌, refl, sym, ap, subst, ◌∙◌}
use mathlib.Core.Bool.{Bool, true, false, cond}
use mathlib.Core.List.{List, [], ◌∷◌, ◌++◌}
use Prim.Native.Nat.{ℕ, zero, suc, ◌+◌, ◌-◌, ◌*◌, ◌≤◌}
use native.Mathlib.Omega.{arith}
use borrow.Author.Tests.{leb-true}
use lib.Dec.{leb, ltb}
use lib.ListN.{length, take, length-append}
use Rattle.lists.specs.Rows.{Row, row, up, wrote}
use Rattle.lists.proofs.Frame.{From, wrote-keeps}
use Rattle.lists.specs.Steps.{Built, ◌▸◌, gives}
use Rattle.lists.specs.Nodes.{node_of, statement_of, input_counted, temporary_counted, fresh_of, temporary_of}
use Rattle.lists.specs.Stack.{havoc_of, grown, bottom_of, lowered, ensure_of, kept, read_of, write_of, push_of, overflows, drop_top_of, pop_of, exchange_of}
use Rattle.lists.specs.declared.State.{State}

-- The count after these rows
abbrev pub after : ℕ → List Row → ℕ
after n [] = n
after n (r ∷ rs) = after (up n) rs

-- The rows are numbered one after the other, n first
abbrev pub Numbered : ℕ → List Row → Type 0
Numbered n [] = Unit {0}
Numbered n (row k _ _ _ _ ∷ rs) = (k ≡ n) × Numbered (up n) rs

-- From s on, b adds at most n nodes and m statements, and its state counts them
pub record Adds (s : State) (n m : ℕ) (b : Built) : Type 0 where
  pub nodes : b.st.nodes ≡ after s.nodes b.ns
  pub statements : b.st.statements ≡ after s.statements b.ss
  pub in_order : Numbered s.nodes b.ns
  pub in-order' : Numbered s.statements b.ss
  pub most : length b.ns ≤ n
  pub most' : length b.ss ≤ m

after-append : (n : ℕ) (a b : List Row) → after n (a ++ b) ≡ after (after n a) b
after-append n [] b = refl
after-append n (r ∷ a) b = after-append (up n) a b

numbered-append : (n : ℕ) (a b : List Row) → Numbered n a → Numbered (after n a) b → Numbered n (a ++ b)
numbered-append n [] b p q = q
numbered-append n (row _ _ _ _ _ ∷ a) b p q = (p.0, numbered-append (up n) a b p.1 q)

after-most : (n : ℕ) (rs : List Row) → after n rs ≤ n + length rs
unfolding up
after-most n [] = omega arith
after-most n (r ∷ rs) = let h = after-most (up n) rs in omega arith

module _ {s : State} {n m : ℕ} {b : Built} where
  -- The counts are at most so many more
  pub nodes-most : Adds s n m b → b.st.nodes ≤ s.nodes + n
  nodes-most p = omega (arith, p.nodes, p.most, after-most s.nodes b.ns)

  pub statements-most : Adds s n m b → b.st.statements ≤ s.statements + m
  statements-most p = omega (arith, p.statements, p.most', after-most s.statements b.ss)

  pub more : {n' m' : ℕ} → Adds s n m b → n ≤ n' → m ≤ m' → Adds s n' m' b
  more p h k =
      record { nodes = p.nodes; statements = p.statements; in_order = p.in_order; in-order' = p.in-order'; most = omega (arith, p.most); most' = omega (arith, p.most') }

  -- One step, and then another
  pub next : {n' m' : ℕ} (g : State → ℕ → Built) → Adds s n m b → ((t : State) (v : ℕ) → Adds t n' m' (g t v)) → Adds s (n + n') (m + m') (b ▸ g)
  unfolding ◌▸◌
  next g p f =
      let r = g b.st b.val in
      let q = f b.st b.val in
      record {
        nodes = q.nodes ∙ ap (λ (k : ℕ). after k r.ns) p.nodes ∙ sym (after-append s.nodes b.ns r.ns);
        statements = q.statements ∙ ap (λ (k : ℕ). after k r.ss) p.statements ∙ sym (after-append s.statements b.ss r.ss);
        in_order = numbered-append s.nodes b.ns r.ns p.in_order (subst (λ (k : ℕ). Numbered k r.ns) p.nodes q.in_order);
        in-order' = numbered-append s.statements b.ss r.ss p.in-order' (subst (λ (k : ℕ). Numbered k r.ss) p.statements q.in-order');
        most = simp length-append (omega (arith, p.most, q.most));
        most' = simp length-append (omega (arith, p.most', q.most'));
      }

-- Either of two steps
pub either : (t : Bool) {s : State} {n m : ℕ} {a b : Built} → Adds s n m a → Adds s n m b → Adds s n m (cond t a b)
either true p q = p
either false p q = q

-- The same counts of nodes and statements
pub record Counts (s t : State) : Type 0 where
  pub nodes : t.nodes ≡ s.nodes
  pub statements : t.statements ≡ s.statements

pub same : (s : State) → Counts s s
same s = record { nodes = refl; statements = refl }

-- What is added depends on no more of a state than these counts
pub from-alike : {s t : State} {n m : ℕ} {b : Built} → Counts s t → Adds t n m b → Adds s n m b
from-alike {b = b} q p =
    record {
      nodes = p.nodes ∙ ap (λ (k : ℕ). after k b.ns) q.nodes;
      statements = p.statements ∙ ap (λ (k : ℕ). after k b.ss) q.statements;
      in_order = subst (λ (k : ℕ). Numbered k b.ns) q.nodes p.in_order;
      in-order' = subst (λ (k : ℕ). Numbered k b.ss) q.statements p.in-order';
      most = p.most;
      most' = p.most';
    }

either-counts : (t : Bool) {s a b : State} → Counts s a → Counts s b → Counts s (cond t a b)
either-counts true p q = p
either-counts false p q = q

pub gives-adds : (s t : State) (v : ℕ) → Counts s t → Adds s 0 0 (gives t v)
unfolding gives
gives-adds s t v p = record { nodes = p.nodes; statements = p.statements; in_order = tt; in-order' = tt; most = omega arith; most' = omega arith }

pub node-adds : (s : State) (k a b c : ℕ) → Adds s 1 0 (node_of s k a b c)
unfolding node_of
node-adds s k a b c = record { nodes = refl; statements = refl; in_order = (refl, tt); in-order' = tt; most = omega arith; most' = omega arith }

pub statement-adds : (s : State) (k a b c : ℕ) → Adds s 0 1 (statement_of s k a b c)
unfolding statement_of
statement-adds s k a b c = record { nodes = refl; statements = refl; in_order = tt; in-order' = (refl, tt); most = omega arith; most' = omega arith }

pub fresh-adds : (s : State) (bits : ℕ) → Adds s 1 0 (fresh_of s bits)
unfolding fresh_of input_counted
fresh-adds s bits = next _ (node-adds s 1 s.inputs bits 0) (λ t v. gives-adds t _ v (record { nodes = refl; statements = refl }))

pub temporary-adds : (s : State) (bits : ℕ) → Adds s 1 0 (temporary_of s bits)
unfolding temporary_of temporary_counted
temporary-adds s bits = next _ (node-adds s 2 s.temporaries bits 0) (λ t v. gives-adds t _ v (record { nodes = refl; statements = refl }))

-- The stack's moves keep both counts
pub havoc-counts : (s : State) → Counts s (havoc_of s)
unfolding havoc_of
havoc-counts s = record { nodes = refl; statements = refl }

pub push-counts : (s : State) (v : ℕ) → Counts s (push_of s v)
unfolding push_of
push-counts s v = either-counts (overflows s) (havoc-counts s) (record { nodes = refl; statements = refl })

pub drop-top-counts : (s : State) → Counts s (drop_top_of s)
unfolding drop_top_of
drop-top-counts s = record { nodes = refl; statements = refl }

grown-counts : (s : State) (v : ℕ) → Counts s (grown s v)
unfolding grown
grown-counts s v = either-counts (ltb s.depth 8) (record { nodes = refl; statements = refl }) (record { nodes = refl; statements = refl })

kept-counts : (s : State) (i v : ℕ) → Counts s (kept s i v)
unfolding kept
kept-counts s i v = either-counts (leb i 7) (record { nodes = refl; statements = refl }) (record { nodes = refl; statements = refl })

-- Reads and writes add at most eight inputs
bottom-adds : (s : State) → Adds s 1 0 (bottom_of s)
unfolding bottom_of
bottom-adds s = next _ (fresh-adds s 79) (λ t v. gives-adds t _ 0 (grown-counts t v))

lowered-adds : (k : ℕ) (s : State) → Adds s k 0 (lowered k s)
unfolding lowered
lowered-adds zero s = gives-adds s s 0 (same s)
lowered-adds (suc k) s = more (next _ (bottom-adds s) (λ t v. lowered-adds k t)) (omega arith) (omega arith)

ensure-adds : (s : State) (i : ℕ) → Adds s 8 0 (ensure_of s i)
unfolding ensure_of
ensure-adds s i = by (leb i 7) refl
  where
    by : (t : Bool) → leb i 7 ≡ t → Adds s 8 0 (cond t (lowered (i + 1 - s.depth) s) (gives s 0))
    by true e = more (lowered-adds (i + 1 - s.depth) s) (omega (arith, leb-true i 7 e)) (omega arith)
    by false e = more (gives-adds s s 0 (same s)) (omega arith) (omega arith)

pub read-adds : (s : State) (i : ℕ) → Adds s 8 0 (read_of s i)
unfolding read_of
read-adds s i = next _ (ensure-adds s i) (λ t v. gives-adds t t _ (same t))

pub write-adds : (s : State) (i v : ℕ) → Adds s 8 0 (write_of s i v)
unfolding write_of
write-adds s i v = next _ (ensure-adds s i) (λ t _. gives-adds t _ 0 (kept-counts t i v))

pub pop-adds : (s : State) → Adds s 8 0 (pop_of s)
unfolding pop_of
pop-adds s = next _ (read-adds s 0) (λ t v. gives-adds t _ v (drop-top-counts t))

pub exchange-adds : (s : State) (i : ℕ) → Adds s 32 0 (exchange_of s i)
unfolding exchange_of
exchange-adds s i =
    next _ (read-adds s 0) (λ s top. next _ (read-adds s i) (λ s other. next _ (write-adds s 0 other) (λ s _. write-adds s i top)))

numbered-from : (n k : ℕ) (rs : List Row) → n ≤ k → k ≤ 4294967295 → Numbered k rs → From n rs
unfolding up
numbered-from n k [] h g p = tt
numbered-from n k (row _ _ _ _ _ ∷ rs) h g p = (omega (arith, p.0), numbered-from n (up k) rs (omega arith) (omega arith) p.1)

-- What a step adds leaves the rows that were counted before it
module _ {s : State} {n m : ℕ} {b : Built} (p : Adds s n m b) (l : List ℕ) where
  pub nodes-kept : s.nodes ≤ 4294967295 → take (4 * s.nodes) (wrote l b.ns) ≡ take (4 * s.nodes) l
  nodes-kept h = wrote-keeps l b.ns s.nodes (numbered-from _ s.nodes b.ns (omega arith) h p.in_order)

  pub statements-kept : s.statements ≤ 4294967295 → take (4 * s.statements) (wrote l b.ss) ≡ take (4 * s.statements) l
  statements-kept h = wrote-keeps l b.ss s.statements (numbered-from _ s.statements b.ss (omega arith) h p.in-order')
