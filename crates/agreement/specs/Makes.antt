-- The judgement on what a step makes: how its inputs and temporaries are numbered, which nodes and statements it adds beside an effect,
-- and which operand its loads and stores have. It holds of any state, over lists that hold anything
use Rattle.std.specs.Prelude.{◌≡◌, Bool, true, false, cond, ◌&&◌, List, [], ◌∷◌, ◌++◌, ℕ, eqb}
use Rattle.std.proofs.Math.Path.{refl}
use Rattle.std.proofs.Common.{subst}
use Rattle.words.specs.Tests.{and_l, and_r, and_i}
use Rattle.texts.specs.Bytes.{all}
use Rattle.lists.specs.Rows.{Row, row, up}
use Rattle.lists.specs.Steps.{Built, ◌▸◌, gives}
use Rattle.lists.specs.Nodes.{node_of, statement_of, input_counted, temporary_counted, fresh_of, temporary_of}
use Rattle.lists.specs.declared.State.{State}
use Rattle.forms.specs.declared.Operand.{Operand}
use Rattle.forms.specs.declared.Effect.{Effect}
use Rattle.agreement.specs.Fits.{is_memory}
use Rattle.agreement.specs.Laid.{over}
pub mod Forms
pub mod Lowered

-- The rows of kind k have the numbers from i on, one after the other, and the next number is j
unfoldable pub Once : ℕ → ℕ → List Row → ℕ → Type 0
Once k i [] j = j ≡ i
Once k i (row n x a b c ∷ rs) j = cond (eqb x k) ((a ≡ i) × Once k (up i) rs j) (Once k i rs j)

-- A node that names the status word is of an effect that uses it, one that names a flag of an effect that reads flags
unfoldable pub covered_node : Effect → ℕ → ℕ → ℕ → ℕ → Bool
covered_node e k a b c = cond (eqb k 4) e.uses_status (cond (eqb k 5) e.reads_flags true)

-- A statement that sets the status word, a flag or `ax` is of an effect that says so
unfoldable pub covered_statement : Effect → ℕ → ℕ → ℕ → ℕ → Bool
covered_statement e k a b c =
    cond (eqb k 3) e.defines_status
    (cond (eqb k 4) e.defines_flags
    (cond (eqb k 5) e.writes_ax true))

-- A load or a store is of this operand: memory of its width, at its address number
unfoldable pub of_operand : Operand → ℕ → ℕ → ℕ → ℕ → Bool
of_operand o k a b c =
    cond (eqb k 1) (is_memory o c && eqb b o.address)
    (cond (eqb k 2) (is_memory o c && eqb a o.address) true)

pub record Makes (e : Effect) (o : Operand) (s : State) (b : Built) : Type 0 where
  pub inputs : Once 1 s.inputs b.ns b.st.inputs
  pub temporaries : Once 2 s.temporaries b.ns b.st.temporaries
  pub nodes : all (over (covered_node e)) b.ns ≡ true
  pub said : all (over (covered_statement e)) b.ss ≡ true
  pub operand : all (over (of_operand o)) b.ss ≡ true

once-append : (k i j l : ℕ) (a b : List Row) → Once k i a j → Once k j b l → Once k i (a ++ b) l
unfolding Once
once-append k i j l [] b p q = subst (λ (n : ℕ). Once k n b l) p q
once-append k i j l (row n x u v w ∷ a) b p q = way (eqb x k) (λ r. once-append k (up i) j l a b r q) (λ r. once-append k i j l a b r q) p
  where
    way : (t : Bool) → (Once k (up i) a j → Once k (up i) (a ++ b) l) → (Once k i a j → Once k i (a ++ b) l)
        → cond t ((u ≡ i) × Once k (up i) a j) (Once k i a j) → cond t ((u ≡ i) × Once k (up i) (a ++ b) l) (Once k i (a ++ b) l)
    way true f g p = (p.0, f p.1)
    way false f g p = g p

all_append : (f : Row → Bool) (a b : List Row) → all f a ≡ true → all f b ≡ true → all f (a ++ b) ≡ true
all_append f [] b p q = q
all_append f (r ∷ a) b p q = and_i (f r) (all f (a ++ b)) (and_l (f r) (all f a) p) (all_append f a b (and_r (f r) (all f a) p) q)

-- A state with the same counts of inputs and temporaries
pub record Same (s t : State) : Type 0 where
  pub inputs : t.inputs ≡ s.inputs
  pub temporaries : t.temporaries ≡ s.temporaries

pub self : {s : State} → Same s s
self = record { inputs = refl; temporaries = refl }

pub same-either : (t : Bool) {s a b : State} → Same s a → Same s b → Same s (cond t a b)
same-either true p q = p
same-either false p q = q

module _ {e : Effect} {o : Operand} where
  -- One step, and then another; either of two
  pub next : {s : State} {b : Built} (g : State → ℕ → Built) → Makes e o s b → ((t : State) (v : ℕ) → Makes e o t (g t v)) → Makes e o s (b ▸ g)
  unfolding ◌▸◌
  next {s} {b} g p f =
      let q = f b.st b.val in
      let r = g b.st b.val in
      record {
        inputs = once-append 1 s.inputs b.st.inputs r.st.inputs b.ns r.ns p.inputs q.inputs;
        temporaries = once-append 2 s.temporaries b.st.temporaries r.st.temporaries b.ns r.ns p.temporaries q.temporaries;
        nodes = all_append (over (covered_node e)) b.ns r.ns p.nodes q.nodes;
        said = all_append (over (covered_statement e)) b.ss r.ss p.said q.said;
        operand = all_append (over (of_operand o)) b.ss r.ss p.operand q.operand;
      }

  pub either : (t : Bool) {s : State} {a b : Built} → Makes e o s a → Makes e o s b → Makes e o s (cond t a b)
  either true p q = p
  either false p q = q

  -- A step from a state with the same counts
  pub from-same : {s t : State} {b : Built} → Same s t → Makes e o t b → Makes e o s b
  from-same {b = b} p q =
      record {
        inputs = subst (λ (n : ℕ). Once 1 n b.ns b.st.inputs) p.inputs q.inputs;
        temporaries = subst (λ (n : ℕ). Once 2 n b.ns b.st.temporaries) p.temporaries q.temporaries;
        nodes = q.nodes;
        said = q.said;
        operand = q.operand;
      }

  -- Nodes alone
  pub expression : {s : State} {b : Built} → Once 1 s.inputs b.ns b.st.inputs → Once 2 s.temporaries b.ns b.st.temporaries
      → all (over (covered_node e)) b.ns ≡ true → b.ss ≡ [] → Makes e o s b
  expression i t n z = record { inputs = i; temporaries = t; nodes = n; said = rw z; operand = rw z }

  pub nothing : {s t : State} (v : ℕ) → Same s t → Makes e o s (gives t v)
  unfolding gives Once
  nothing v p = expression p.inputs p.temporaries refl refl

  pub fresh-makes : (s : State) (bits : ℕ) → Makes e o s (fresh_of s bits)
  unfolding fresh_of node_of input_counted ◌▸◌ gives Once over covered_node
  fresh-makes s bits = expression (refl, refl) refl refl refl

  pub temporary-makes : (s : State) (bits : ℕ) → Makes e o s (temporary_of s bits)
  unfolding temporary_of node_of temporary_counted ◌▸◌ gives Once over covered_node
  temporary-makes s bits = expression refl (refl, refl) refl refl

  -- A node of a kind that is no input and no temporary
  pub node : {s : State} (k a b c : ℕ) → eqb k 1 ≡ false → eqb k 2 ≡ false → covered_node e k a b c ≡ true → Makes e o s (node_of s k a b c)
  unfolding node_of Once over
  node k a b c x y h = expression (rw x refl) (rw y refl) (rw h) refl

  -- A statement of the effect and of the operand
  pub statement : {s : State} (k a b c : ℕ) → covered_statement e k a b c ≡ true → of_operand o k a b c ≡ true
      → Makes e o s (statement_of s k a b c)
  unfolding statement_of Once over
  statement k a b c h g = record { inputs = refl; temporaries = refl; nodes = refl; said = rw h; operand = rw g }
