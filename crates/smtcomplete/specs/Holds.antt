-- What the tables hold in the middle of a text: the rows of the nodes that are there.
use Rattle.std.specs.Prelude.{◌≡◌, Bool, cond, List, length, set, replicate}
use Rattle.std.proofs.Math.Path.{refl}
use Rattle.std.proofs.Common.{sym, ◌∙◌, get_or-set_same, get_or-set_other}
use Rattle.std.proofs.Math.Bool.{true, false}
use Prim.Native.Nat.{ℕ, zero, suc, ◌≤◌, ◌<◌, min}
use native.Mathlib.Omega.{arith}
use borrow.Author.Tests.{eqb-true, eqb-false}
use Rattle.std.proofs.Math.Dec.{eqb}
use Rattle.std.proofs.Math.ListN.{get_or, length-set}
use Rattle.std.proofs.lemmas.List.{length-replicate}
use Rattle.viable.specs.Grammar.{clash}
use Rattle.sorts.specs.Sorts.{is_float}
use Rattle.sorts.specs.Lists.{field}
use Rattle.smttext.specs.Names.{kind_at}
use Rattle.smtgrammar.specs.State.{limit, Tables, empty}
use Rattle.smtgrammar.specs.Next.{entered, obliged}
use Rattle.smtcomplete.specs.Facts.{sort_at}

-- each table has its length
pub record Sized (t : Tables) : Type 0 where
  pub kinds : length t.kinds ≡ 65536
  pub field_a : length t.field_a ≡ 65536
  pub field_b : length t.field_b ≡ 65536
  pub field_c : length t.field_c ≡ 65536
  pub sorts : length t.sorts ≡ 65536
  pub lowest : length t.lowest ≡ 3905

-- node i comes to those of P
pub record Adds (P Q : ℕ → Bool) (i : ℕ) : Type 0 where
  pub new : Q i ≡ true
  pub old : (j : ℕ) → (j ≡ i → ⊥) → Q j ≡ P j

-- what is there after a node came
pub still : (P Q : ℕ → Bool) (i j : ℕ) → Adds P Q i → P j ≡ true → Q j ≡ true
still P Q i j a e = go (eqb j i) refl
  where
    go : (b : Bool) → eqb j i ≡ b → Q j ≡ true
    go true z = rw (eqb-true j i z) a.new
    go false z = a.old j (eqb-false j i z) ∙ e

-- what is not there is another one, and was not there before
pub other : (P Q : ℕ → Bool) (i j : ℕ) → Adds P Q i → Q j ≡ false → j ≡ i → ⊥
other P Q i j a e z = let q : ◌≡◌ {A = Bool} false true = sym (rw z at e) ∙ a.new in clash q

-- a table of a field, or 0 where the node is not there, after node i came
set-adds : (l : List ℕ) (f : ℕ → ℕ) (P Q : ℕ → Bool) (i v : ℕ) → i < length l → v ≡ f i → Adds P Q i
    → ((j : ℕ) → get_or l j 0 ≡ cond (P j) (f j) 0) → (j : ℕ) → get_or (set l i v) j 0 ≡ cond (Q j) (f j) 0
set-adds l f P Q i v h e a g j = go (eqb j i) refl
  where
    go : (b : Bool) → eqb j i ≡ b → get_or (set l i v) j 0 ≡ cond (Q j) (f j) 0
    go true q = rw (eqb-true j i q, a.new) (get_or-set_same l i v 0 h ∙ e)
    go false q = rw (a.old j (eqb-false j i q)) (get_or-set_other l i j v 0 (eqb-false j i q) ∙ g j)

-- what holds of the entry i and of the others
pub by-entry : (X : ℕ → ℕ → Type 0) (l : List ℕ) (d i v j : ℕ) → i < length l → (j ≡ i → X j v) → ((j ≡ i → ⊥) → X j (get_or l j d)) → X j (get_or (set l i v) j d)
by-entry X l d i v j h f g = go (eqb j i) refl
  where
    go : (b : Bool) → eqb j i ≡ b → X j (get_or (set l i v) j d)
    go true q = let e = eqb-true j i q in rw (e, get_or-set_same l i v d h) (rw e at (f e))
    go false q = rw (get_or-set_other l i j v d (eqb-false j i q)) (g (eqb-false j i q))

module _ (w m : List ℕ) (n : ℕ) where
  -- a number that is obliged to be a float: v is its sort
  pub record Owes (j v : ℕ) : Type 0 where
    pub is : v ≡ sort_at w n j
    pub inside : j < n
    pub marked : get_or m j 0 ≡ 1
    pub float : is_float (sort_at w n j) ≡ true

  pub record Holds (P : ℕ → Bool) (t : Tables) : Type 0 where
    pub sized : Sized t
    pub kinds : (j : ℕ) → get_or t.kinds j 0 ≡ cond (P j) (kind_at w j) 0
    pub field_a : (j : ℕ) → get_or t.field_a j 0 ≡ cond (P j) (field w j 1) 0
    pub field_b : (j : ℕ) → get_or t.field_b j 0 ≡ cond (P j) (field w j 2) 0
    pub field_c : (j : ℕ) → get_or t.field_c j 0 ≡ cond (P j) (field w j 3) 0
    pub sorts : (j : ℕ) → P j ≡ true → get_or t.sorts j 0 ≡ sort_at w n j
    pub owing : (j : ℕ) → P j ≡ false → (get_or t.sorts j 0 ≡ 0 → ⊥) → Owes j (get_or t.sorts j 0)
    pub lowest : (j : ℕ) → P j ≡ true → get_or t.lowest (sort_at w n j) limit ≤ j

  -- a node comes with its row
  pub enter : (P Q : ℕ → Bool) (t : Tables) (i k a b c s : ℕ) → i < 65536 → sort_at w n i ≤ 3904 → Adds P Q i
      → k ≡ kind_at w i → a ≡ field w i 1 → b ≡ field w i 2 → c ≡ field w i 3 → s ≡ sort_at w n i
      → Holds P t → Holds Q (entered t i k a b c s)
  unfolding entered
  enter P Q t i k a b c s h low new ek ea eb ec es o =
      record {
        sized =
            record {
              kinds = length-set t.kinds i k ∙ o.sized.kinds;
              field_a = length-set t.field_a i a ∙ o.sized.field_a;
              field_b = length-set t.field_b i b ∙ o.sized.field_b;
              field_c = length-set t.field_c i c ∙ o.sized.field_c;
              sorts = length-set t.sorts i s ∙ o.sized.sorts;
              lowest = length-set t.lowest s _ ∙ o.sized.lowest;
            };
        kinds = set-adds t.kinds (kind_at w) P Q i k (omega (arith, o.sized.kinds)) ek new o.kinds;
        field_a = set-adds t.field_a (λ j. field w j 1) P Q i a (omega (arith, o.sized.field_a)) ea new o.field_a;
        field_b = set-adds t.field_b (λ j. field w j 2) P Q i b (omega (arith, o.sized.field_b)) eb new o.field_b;
        field_c = set-adds t.field_c (λ j. field w j 3) P Q i c (omega (arith, o.sized.field_c)) ec new o.field_c;
        sorts = λ j.
            by-entry (λ j v. Q j ≡ true → v ≡ sort_at w n j) t.sorts 0 i s j (omega (arith, o.sized.sorts))
            (λ e _. rw e es)
            (λ e q. o.sorts j (sym (new.old j e) ∙ q));
        owing = λ j.
            by-entry (λ j v. Q j ≡ false → (v ≡ 0 → ⊥) → Owes j v) t.sorts 0 i s j (omega (arith, o.sized.sorts))
            (λ e q _. clash (sym (rw e at q) ∙ new.new))
            (λ e q. o.owing j (sym (new.old j e) ∙ q));
        lowest = lowest;
      }
    where
      lowest : (j : ℕ) → Q j ≡ true → get_or (set t.lowest s (min (get_or t.lowest s limit) i)) (sort_at w n j) limit ≤ j
      lowest j q =
          by-entry (λ x v. x ≡ sort_at w n j → v ≤ j) t.lowest limit s (min (get_or t.lowest s limit) i) (sort_at w n j) (omega (arith, o.sized.lowest))
          (λ e _. under e (eqb j i) refl)
          (λ e _. o.lowest j (sym (new.old j (λ z. e (rw z (sym es)))) ∙ q))
          refl
        where
          under : sort_at w n j ≡ s → (b : Bool) → eqb j i ≡ b → min (get_or t.lowest s limit) i ≤ j
          under e true z = omega (arith, eqb-true j i z)
          under e false z =
              let h = rw e at (o.lowest j (sym (new.old j (eqb-false j i z)) ∙ q)) in
              omega arith

  -- a number becomes obliged
  pub oblige : (P : ℕ → Bool) (t : Tables) (q s : ℕ) → q < 65536 → P q ≡ false → Owes q s → Holds P t → Holds P (obliged true q s t)
  unfolding obliged
  oblige P t q s h not owes o =
      record {
        sized =
            record {
              kinds = o.sized.kinds;
              field_a = o.sized.field_a;
              field_b = o.sized.field_b;
              field_c = o.sized.field_c;
              sorts = length-set t.sorts q s ∙ o.sized.sorts;
              lowest = o.sized.lowest;
            };
        kinds = o.kinds;
        field_a = o.field_a;
        field_b = o.field_b;
        field_c = o.field_c;
        sorts = λ j.
            by-entry (λ j v. P j ≡ true → v ≡ sort_at w n j) t.sorts 0 q s j (omega (arith, o.sized.sorts))
            (λ e p. clash (sym not ∙ (rw e at p)))
            (λ _. o.sorts j);
        owing = λ j.
            by-entry (λ j v. P j ≡ false → (v ≡ 0 → ⊥) → Owes j v) t.sorts 0 q s j (omega (arith, o.sized.sorts))
            (λ e _ _. rw e owes)
            (λ _. o.owing j);
        lowest = o.lowest;
      }

  -- the same nodes, said otherwise
  pub again : (P Q : ℕ → Bool) (t : Tables) → ((j : ℕ) → Q j ≡ P j) → Holds P t → Holds Q t
  again P Q t e o =
      record {
        sized = o.sized;
        kinds = λ j. rw (e j) (o.kinds j);
        field_a = λ j. rw (e j) (o.field_a j);
        field_b = λ j. rw (e j) (o.field_b j);
        field_c = λ j. rw (e j) (o.field_c j);
        sorts = λ j q. o.sorts j (sym (e j) ∙ q);
        owing = λ j q. o.owing j (sym (e j) ∙ q);
        lowest = λ j q. o.lowest j (sym (e j) ∙ q);
      }

  zeros : (k j : ℕ) → ◌≡◌ {A = ℕ} (get_or (replicate k 0) j 0) 0
  zeros zero j = refl
  zeros (suc k) zero = refl
  zeros (suc k) (suc j) = zeros k j

  -- nothing is there at first
  nothing : (P : ℕ → Bool) → ((j : ℕ) → P j ≡ false) → (k l : ℕ) → k ≡ 65536 → l ≡ 3905
      → Holds P (record { kinds = replicate k 0; field_a = replicate k 0; field_b = replicate k 0; field_c = replicate k 0; sorts = replicate k 0; lowest = replicate l limit })
  nothing P not k l ek el =
      record {
        sized =
            record {
              kinds = length-replicate {A = ℕ} k 0 ∙ ek;
              field_a = length-replicate {A = ℕ} k 0 ∙ ek;
              field_b = length-replicate {A = ℕ} k 0 ∙ ek;
              field_c = length-replicate {A = ℕ} k 0 ∙ ek;
              sorts = length-replicate {A = ℕ} k 0 ∙ ek;
              lowest = length-replicate {A = ℕ} l limit ∙ el;
            };
        kinds = λ j. rw (not j) (zeros k j);
        field_a = λ j. rw (not j) (zeros k j);
        field_b = λ j. rw (not j) (zeros k j);
        field_c = λ j. rw (not j) (zeros k j);
        sorts = λ j q. clash (sym (not j) ∙ q);
        owing = λ j q z. absurd (z (zeros k j));
        lowest = λ j q. clash (sym (not j) ∙ q);
      }

  pub at_first : (P : ℕ → Bool) → ((j : ℕ) → P j ≡ false) → Holds P empty
  at_first P not = nothing P not 65536 3905 refl refl
