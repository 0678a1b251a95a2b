-- The judgement on a step: from what is known of the sorts of some nodes, each row that it adds has a sort, each statement its demand,
-- the stack keeps its sorts, and the node that the step names has a sort
use Rattle.std.specs.Prelude.{◌≡◌, refl, Bool, true, false, cond, ◌&&◌, List, [], ◌∷◌, ◌++◌, ℕ, zero, suc, ◌+◌, ◌≤◌, ◌<◌, leb, eqb, length, get_or}
use Rattle.std.proofs.Common.{sym, ◌∙◌, arith, eqb-true, eq-eqb, length-append}
use Rattle.std.proofs.Math.Decide.{dec_lt}
use Rattle.std.proofs.Math.ListN.{get_or-append, get_or-eq_default}
use Rattle.lists.specs.Rows.{Row, row}
use Rattle.lists.specs.Steps.{Built, ◌▸◌}
use Rattle.lists.specs.declared.State.{State}
use Rattle.sorts.specs.Sorts.{is_bits, sort_row}
use Rattle.sorts.specs.Good.{bits-lo}
use Rattle.words.specs.Tests.{and_l, and_r, and_i}
use Rattle.agreement.specs.Demands.{is_wide, demanded}
pub mod Nodes
pub mod Kinds
pub mod Stack
pub mod Exprs
pub mod Lifts
pub mod Valid

-- The sort of a row's node, where Γ has the sorts of the nodes before it: any numbers, and 0 where nothing is known
unfoldable pub sort_in : List ℕ → Row → ℕ
sort_in Γ (row n k a b c) = sort_row k a b c (get_or Γ a 0) (get_or Γ b 0) (get_or Γ c 0)

-- Γ with one more entry for each of these rows
unfoldable pub grown : List ℕ → List Row → List ℕ
grown Γ [] = Γ
grown Γ (r ∷ rs) = grown (Γ ++ (sort_in Γ r ∷ [])) rs

-- A number that is a sort: 0 is none
abbrev pub Some : ℕ → Type 0
Some σ = σ ≡ 0 → ⊥

-- Each row stands at the end of what is before it, and has a sort there
unfoldable pub Sorted : List ℕ → List Row → Type 0
Sorted Γ [] = Unit {0}
Sorted Γ (row n k a b c ∷ rs) =
    (n ≡ length Γ) × Some (sort_in Γ (row n k a b c)) × Sorted (Γ ++ (sort_in Γ (row n k a b c) ∷ [])) rs

-- Each statement has its demand
unfoldable pub Demanded : List ℕ → List Row → Type 0
Demanded Γ [] = Unit {0}
Demanded Γ (row n k a b c ∷ rs) = (demanded Γ k a b c ≡ true) × Demanded Γ rs

-- The state counts the nodes, and its used places name nodes of 79 bits
pub record Placed (Γ : List ℕ) (s : State) : Type 0 where
  pub count : s.nodes ≡ length Γ
  pub eight : length s.slots ≡ 8
  pub deep : s.depth ≤ 8
  pub used : (i : ℕ) → i < s.depth → get_or Γ (get_or s.slots i 0) 0 ≡ 79
  pub unused : (i : ℕ) → s.depth ≤ i → get_or s.slots i 0 ≡ 0
  pub counted : s.inputs + s.temporaries ≤ s.nodes

-- A fact: a node has a sort, or with 0 nothing is said of it
infix 68 ◌has◌
pub data Fact : Type 0 where
  ◌has◌ : ℕ → ℕ → Fact

unfoldable pub Known : List ℕ → Fact → Type 0
Known Γ (v has σ) = Some σ → get_or Γ v 0 ≡ σ

unfoldable pub Knows : List ℕ → List Fact → Type 0
Knows Γ [] = Unit {0}
Knows Γ (k ∷ ks) = Known Γ k × Knows Γ ks

-- What is known of the sorts in Γ holds in Γ'
pub record Extends (Γ Γ' : List ℕ) : Type 0 where
  pub keeps : (v σ : ℕ) → Some σ → get_or Γ v 0 ≡ σ → get_or Γ' v 0 ≡ σ

-- What was known stays so when entries are added
pub stays : (Γ Δ : List ℕ) → Extends Γ (Γ ++ Δ)
stays Γ Δ = record { keeps = λ v σ h e. by v σ h e (dec_lt v (length Γ)) }
  where
    by : (v σ : ℕ) → Some σ → get_or Γ v 0 ≡ σ → Dec (v < length Γ) → get_or (Γ ++ Δ) v 0 ≡ σ
    by v σ h e (yes d) = get_or-append Γ Δ 0 v d ∙ e
    by v σ h e (no d) = absurd (h (sym e ∙ get_or-eq_default Γ 0 (omega arith)))

extends-self : (Γ : List ℕ) → Extends Γ Γ
extends-self Γ = record { keeps = λ v σ h e. e }

extends-both : {Γ Γ' Γ'' : List ℕ} → Extends Γ Γ' → Extends Γ' Γ'' → Extends Γ Γ''
extends-both f g = record { keeps = λ v σ h e. g.keeps v σ h (f.keeps v σ h e) }

pub grown-stays : (Γ : List ℕ) (rs : List Row) → Extends Γ (grown Γ rs)
unfolding grown
grown-stays Γ [] = extends-self Γ
grown-stays Γ (r ∷ rs) = extends-both (stays Γ (sort_in Γ r ∷ [])) (grown-stays (Γ ++ (sort_in Γ r ∷ [])) rs)

pub grown-append : (Γ : List ℕ) (a b : List Row) → grown Γ (a ++ b) ≡ grown (grown Γ a) b
unfolding grown
grown-append Γ [] b = refl
grown-append Γ (r ∷ a) b = grown-append (Γ ++ (sort_in Γ r ∷ [])) a b

pub length-grown : (Γ : List ℕ) (rs : List Row) → length (grown Γ rs) ≡ length Γ + length rs
unfolding grown
length-grown Γ [] = omega arith
length-grown Γ (r ∷ rs) = omega (arith, length-grown (Γ ++ (sort_in Γ r ∷ [])) rs, length-append Γ (sort_in Γ r ∷ []))

sorted-append : (Γ : List ℕ) (a b : List Row) → Sorted Γ a → Sorted (grown Γ a) b → Sorted Γ (a ++ b)
unfolding grown Sorted
sorted-append Γ [] b p q = q
sorted-append Γ (row n k x y z ∷ a) b p q = (p.0, p.1, sorted-append (Γ ++ (sort_in Γ (row n k x y z) ∷ [])) a b p.2 q)

-- A demand that is met stays so
wide-stays : {Γ Γ' : List ℕ} → Extends Γ Γ' → (v bits : ℕ) → is_wide Γ v bits ≡ true → is_wide Γ' v bits ≡ true
unfolding is_wide
wide-stays {Γ} {Γ'} f v bits e =
    let b : is_bits bits ≡ true = and_l (is_bits bits) (eqb (get_or Γ v 0) bits) e in
    let l = bits-lo bits b in
    and_i (is_bits bits) (eqb (get_or Γ' v 0) bits) b
    (eq-eqb _ bits (f.keeps v bits (λ z. omega arith) (eqb-true (get_or Γ v 0) bits (and_r (is_bits bits) (eqb (get_or Γ v 0) bits) e))))

also : (x x' y : Bool) → (x ≡ true → x' ≡ true) → x && y ≡ true → x' && y ≡ true
also x x' y f e = and_i x' y (f (and_l x y e)) (and_r x y e)

either_way : (t x x' y y' : Bool) → (x ≡ true → x' ≡ true) → (y ≡ true → y' ≡ true) → cond t x y ≡ true → cond t x' y' ≡ true
either_way true x x' y y' f g e = f e
either_way false x x' y y' f g e = g e

pub demanded-stays : {Γ Γ' : List ℕ} → Extends Γ Γ' → (k a b c : ℕ) → demanded Γ k a b c ≡ true → demanded Γ' k a b c ≡ true
unfolding demanded
demanded-stays f k a b c =
    either_way (eqb k 1) _ _ _ _ (wide-stays f a c)
    (either_way (eqb k 2) _ _ _ _ (wide-stays f b c)
    (either_way (eqb k 3) _ _ _ _ (also _ _ (eqb b 0 && eqb c 0) (wide-stays f a 16))
    (either_way (eqb k 4) _ _ _ _ (also _ _ (leb a 4 && eqb c 0) (wide-stays f b 1))
    (either_way (eqb k 5) _ _ _ _ (also _ _ (eqb b 0 && eqb c 0) (wide-stays f a 16))
    (λ e. e)))))

pub all_stay : {Γ Γ' : List ℕ} → Extends Γ Γ' → (rs : List Row) → Demanded Γ rs → Demanded Γ' rs
unfolding Demanded
all_stay f [] p = tt
all_stay f (row n k a b c ∷ rs) p = (demanded-stays f k a b c p.0, all_stay f rs p.1)

demanded-append : (Γ : List ℕ) (a b : List Row) → Demanded Γ a → Demanded Γ b → Demanded Γ (a ++ b)
unfolding Demanded
demanded-append Γ [] b p q = q
demanded-append Γ (row n k x y z ∷ a) b p q = (p.0, demanded-append Γ a b p.1 q)

known-stays : {Γ Γ' : List ℕ} → Extends Γ Γ' → (k : Fact) → Known Γ k → Known Γ' k
unfolding Known
known-stays f (v has σ) p = λ h. f.keeps v σ h (p h)

all_known : {Γ Γ' : List ℕ} → Extends Γ Γ' → (ks : List Fact) → Knows Γ ks → Knows Γ' ks
unfolding Knows
all_known f [] p = tt
all_known f (k ∷ ks) p = (known-stays f k p.0, all_known f ks p.1)

one_more : (Γ : List ℕ) (ks : List Fact) (k : Fact) → Knows Γ ks → Known Γ k → Knows Γ (ks ++ (k ∷ []))
unfolding Knows
one_more Γ [] k p q = (q, tt)
one_more Γ (x ∷ ks) k p q = (p.0, one_more Γ ks k p.1 q)

-- What a step gives over Γ
pub record Given (Γ : List ℕ) (σ : ℕ) (b : Built) : Type 0 where
  pub rows : Sorted Γ b.ns
  pub placed : Placed (grown Γ b.ns) b.st
  pub said : Demanded (grown Γ b.ns) b.ss
  pub node : Known (grown Γ b.ns) (b.val has σ)

-- THE JUDGEMENT: from state s and these facts, the step b names a node of sort σ (with 0: none), whatever else the list holds.
-- The count is a u32 that stops at its largest number: below it, rows have numbers of their own
pub record Fine (s : State) (ks : List Fact) (σ : ℕ) (b : Built) : Type 0 where
  pub over : (Γ : List ℕ) → Placed Γ s → Knows Γ ks → length Γ + length b.ns ≤ 4294967295 → Given Γ σ b

-- One step, and then another that starts at the state and the node of the first
pub next-at : {s : State} {ks : List Fact} {σ τ : ℕ} {b : Built} (g : State → ℕ → Built)
    → Fine s ks σ b → Fine b.st (ks ++ (b.val has σ ∷ [])) τ (g b.st b.val) → Fine s ks τ (b ▸ g)
unfolding ◌▸◌
next-at {s} {ks} {σ} {τ} {b} g p q = record { over = over }
  where
    over : (Γ : List ℕ) → Placed Γ s → Knows Γ ks → length Γ + length (b ▸ g).ns ≤ 4294967295 → Given Γ τ (b ▸ g)
    over Γ h k m =
        let r = g b.st b.val in
        let l = length-append b.ns r.ns in
        let x : Given Γ σ b = p.over Γ h k (omega arith) in
        let Δ = grown Γ b.ns in
        let e : grown Γ (b.ns ++ r.ns) ≡ grown Δ r.ns = grown-append Γ b.ns r.ns in
        let y : Given Δ τ r =
        q.over Δ x.placed (one_more Δ ks (b.val has σ) (all_known (grown-stays Γ b.ns) ks k) x.node) (omega (arith, length-grown Γ b.ns)) in
        record {
          rows = sorted-append Γ b.ns r.ns x.rows y.rows;
          placed = rw e y.placed;
          said = rw e (demanded-append (grown Δ r.ns) b.ss r.ss (all_stay (grown-stays Δ r.ns) b.ss x.said) y.said);
          node = rw e y.node;
        }

-- .. or at any state and node
pub next : {s : State} {ks : List Fact} {σ τ : ℕ} {b : Built} (g : State → ℕ → Built)
    → Fine s ks σ b → ((t : State) (v : ℕ) → Fine t (ks ++ (v has σ ∷ [])) τ (g t v)) → Fine s ks τ (b ▸ g)
next {b = b} g p q = next-at g p (q b.st b.val)

-- A step from a state that has its places as s has
pub moved : {s t : State} {ks : List Fact} {σ : ℕ} {b : Built} → ((Γ : List ℕ) → Placed Γ s → Knows Γ ks → Placed Γ t) → Fine t ks σ b → Fine s ks σ b
moved f p = record { over = λ Γ h k m. p.over Γ (f Γ h k) k m }

-- Either of two steps
pub either : (t : Bool) {s : State} {ks : List Fact} {σ : ℕ} {a b : Built} → Fine s ks σ a → Fine s ks σ b → Fine s ks σ (cond t a b)
either true p q = p
either false p q = q

-- The facts by their places, 0 first
abbrev pub fact_at : List Fact → ℕ → Fact
fact_at [] i = 0 has 0
fact_at (k ∷ ks) zero = k
fact_at (k ∷ ks) (suc i) = fact_at ks i

abbrev pub chosen : List Fact → List ℕ → List Fact
chosen ks [] = []
chosen ks (i ∷ is) = fact_at ks i ∷ chosen ks is

known_at : (Γ : List ℕ) (ks : List Fact) (i : ℕ) → Knows Γ ks → Known Γ (fact_at ks i)
unfolding Knows Known
known_at Γ [] i p = λ h. absurd (h refl)
known_at Γ (k ∷ ks) zero p = p.0
known_at Γ (k ∷ ks) (suc i) p = known_at Γ ks i p.1

all-chosen : (Γ : List ℕ) (ks : List Fact) (is : List ℕ) → Knows Γ ks → Knows Γ (chosen ks is)
unfolding Knows
all-chosen Γ ks [] p = tt
all-chosen Γ ks (i ∷ is) p = (known_at Γ ks i p, all-chosen Γ ks is p)

-- A step that needs only some of the facts
pub by : {s : State} {ks : List Fact} {σ : ℕ} {b : Built} (is : List ℕ) → Fine s (chosen ks is) σ b → Fine s ks σ b
by {ks = ks} is p = record { over = λ Γ h k m. p.over Γ h (all-chosen Γ ks is k) m }
