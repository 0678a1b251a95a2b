-- What a list that passes says of each row: its test, kind by kind, over the sorts of its operands.
use Rattle.std.specs.Prelude.{◌≡◌, Bool, true, false, cond, ◌&&◌, ◌||◌, ℕ, suc, ◌+◌, ◌-◌, ◌*◌, ◌^◌, ◌≤◌, ◌<◌, leb, ltb, eqb, get_or}
use Rattle.std.proofs.Math.Path.{refl}
use Rattle.std.proofs.Common.{sym, ap, ◌∙◌, arith, eqb-true, leb-true, leb-false, get_or-take}
use mathlib.Core.List.{List, []}
use Rattle.std.proofs.Math.Seq.{get_or_at}
use Rattle.sorts.specs.Sorts.{when, is_bits, is_float, is_stored, is_word, pattern_width, sort_row}
use Rattle.sorts.specs.Lists.{field, sorts, row_sort}
use Rattle.sorts.specs.Laws.{Passes, length-sorts, take-sorts, passed-sorted, row_small}
use Rattle.needs.specs.Needed.{arity, Operand}
use Rattle.needs.specs.Laws.{word}
use Rattle.needs.specs.Passing.{operand}
use Rattle.smttext.specs.Names.{kind_at}

-- two choices by one test
choose : (t : Bool) {x x' y y' : ℕ} → (t ≡ true → x ≡ x') → (t ≡ false → y ≡ y') → cond t x y ≡ cond t x' y'
choose true f g = f refl
choose false f g = g refl

-- field j of a row of kind k where it is no operand, and its sort where it is one; else 0
abbrev other_field : ℕ → ℕ → ℕ → ℕ
other_field k j v = cond (leb j (arity k)) 0 v

abbrev operand_sort : ℕ → ℕ → ℕ → ℕ
operand_sort k j s = cond (leb j (arity k)) s 0

-- a row of the table, where the kind is its own
pick : (k j : ℕ) {x x' y y' : ℕ} → (k ≡ j → x ≡ x') → y ≡ y' → cond (eqb k j) x y ≡ cond (eqb k j) x' y'
pick k j f e = choose (eqb k j) (λ q. f (eqb-true k j q)) (λ _. e)

-- the table looks at the sorts of operands, and at the fields that are none
table : (k a b c sa sb sc : ℕ) → sort_row k a b c sa sb sc ≡ sort_row k (other_field k 1 a) (other_field k 2 b) (other_field k 3 c) (operand_sort k 1 sa) (operand_sort k 2 sb) (operand_sort k 3 sc)
unfolding sort_row arity
table k a b c sa sb sc =
    pick k 1 (λ e. rw e) (pick k 2 (λ e. rw e) (pick k 3 (λ e. rw e) (pick k 4 (λ e. rw e) (pick k 5 (λ e. rw e)
    (pick k 6 (λ e. rw e) (pick k 7 (λ e. rw e) (pick k 8 (λ e. rw e) (pick k 9 (λ e. rw e) (pick k 10 (λ e. rw e)
    (pick k 11 (λ e. rw e) (pick k 12 (λ e. rw e) (pick k 13 (λ e. rw e) (pick k 14 (λ e. rw e) (pick k 15 (λ e. rw e)
    (pick k 16 (λ e. rw e) (pick k 17 (λ e. rw e) (pick k 18 (λ e. rw e) (pick k 19 (λ e. rw e) (pick k 20 (λ e. rw e)
    (pick k 21 (λ e. rw e) (pick k 22 (λ e. rw e) (pick k 23 (λ e. rw e) (pick k 24 (λ e. rw e) (pick k 25 (λ e. rw e)
    (pick k 26 (λ e. rw e) (pick k 27 (λ e. rw e) (pick k 28 (λ e. rw e) (pick k 29 (λ e. rw e)
    refl))))))))))))))))))))))))))))

-- place j of two rows of kind k: operands of one sort, or one field
pub record Alike (k j v s v' s' : ℕ) : Type 0 where
  pub operand : j ≤ arity k → s ≡ s'
  pub other : arity k < j → v ≡ v'

pub alike-rows : {k a b c sa sb sc a' b' c' sa' sb' sc' : ℕ} → Alike k 1 a sa a' sa' → Alike k 2 b sb b' sb' → Alike k 3 c sc c' sc'
    → sort_row k a b c sa sb sc ≡ sort_row k a' b' c' sa' sb' sc'
alike-rows {k} {a} {b} {c} {sa} {sb} {sc} {a'} {b'} {c'} {sa'} {sb'} {sc'} p q r =
    table k a b c sa sb sc ∙ rw (field p, field q, field r, sort p, sort q, sort r) (sym (table k a' b' c' sa' sb' sc'))
  where
    field : {j v s v' s' : ℕ} → Alike k j v s v' s' → other_field k j v ≡ other_field k j v'
    field {j} h = choose (leb j (arity k)) (λ _. refl) (λ e. h.other (leb-false j (arity k) e))

    sort : {j v s v' s' : ℕ} → Alike k j v s v' s' → operand_sort k j s ≡ operand_sort k j s'
    sort {j} h = choose (leb j (arity k)) (λ e. h.operand (leb-true j (arity k) e)) (λ _. refl)

-- of a row of the table: its test holds where the kind is its own
row : (P : ℕ → ℕ → Type 0) (k j : ℕ) (ok : Bool) (s rest : ℕ) → (ok ≡ true → P j s) → ((rest ≡ 0 → ⊥) → P k rest)
    → (cond (eqb k j) (when ok s) rest ≡ 0 → ⊥) → P k (cond (eqb k j) (when ok s) rest)
row P k j ok s rest f g = go (eqb k j) ok refl refl
  where
    go : (t o : Bool) → eqb k j ≡ t → ok ≡ o → (cond t (when o s) rest ≡ 0 → ⊥) → P k (cond t (when o s) rest)
    go true true e q h = rw (eqb-true k j e) (f q)
    go true false e q h = absurd (h refl)
    go false o e q h = g h

-- FAdd, FSub, FMul, FDiv
pub data Sum : ℕ → Type 0 where
  add : Sum 16
  sub : Sum 17
  mul : Sum 18
  div : Sum 19

-- a property of a kind and its sort, by the rows of the table
module _ (P : ℕ → ℕ → Type 0) (k a b c sa sb sc : ℕ) where
  pub by_row : (((eqb b 79 || eqb b 16) && eqb c 0) ≡ true → P 1 b)
      → ((is_stored b && eqb c 0) ≡ true → P 2 b)
      → ((is_stored b && eqb c 0) ≡ true → P 3 b)
      → (((eqb a 0 && eqb b 0) && eqb c 0) ≡ true → P 4 16)
      → (((leb a 2 && eqb b 0) && eqb c 0) ≡ true → P 5 1)
      → ((is_bits c && ltb (b * 2 ^ 64 + a) (2 ^ c)) ≡ true → P 6 c)
      → (((is_bits sa && eqb sa sb) && eqb c 0) ≡ true → P 7 sb)
      → (((is_bits sa && eqb sa sb) && eqb c 0) ≡ true → P 8 sb)
      → (((is_bits sa && eqb sa sb) && eqb c 0) ≡ true → P 9 1)
      → (((eqb sa 1 && eqb sb 1) && eqb c 0) ≡ true → P 10 1)
      → (((eqb sa 1 && eqb sb 1) && eqb c 0) ≡ true → P 11 1)
      → (((eqb sa 1 && eqb b 0) && eqb c 0) ≡ true → P 12 1)
      → (((eqb sa 1 && is_bits sb) && eqb sb sc) ≡ true → P 13 sc)
      → (((leb c b && ltb b sa) && is_bits sa) ≡ true → P 14 (b - c + 1))
      → ((((is_bits sa && is_bits sb) && leb (sa + sb) 80) && eqb c 0) ≡ true → P 15 (sa + sb))
      → ((j : ℕ) → Sum j → ((is_float sa && eqb sa sb) && leb c 1) ≡ true → P j sb)
      → (((is_float sa && eqb sa sb) && eqb c 0) ≡ true → P 20 1)
      → (((is_float sa && eqb sa sb) && eqb c 0) ≡ true → P 21 1)
      → (((is_float sa && eqb b 0) && eqb c 0) ≡ true → P 22 1)
      → (((is_float sa && leb b 1) && eqb c 0) ≡ true → P 23 sa)
      → (((is_float sa && leb b 1) && eqb c 0) ≡ true → P 24 sa)
      → (((is_float c && eqb sa (pattern_width c)) && eqb b 0) ≡ true → P 25 c)
      → (((is_float sa && eqb b 0) && eqb c 0) ≡ true → P 26 (pattern_width sa))
      → (((is_float sa && leb b 1) && is_word c) ≡ true → P 27 c)
      → (((is_word sa && leb b 1) && eqb c 3904) ≡ true → P 28 c)
      → (((is_float sa && leb b 1) && is_float c) ≡ true → P 29 c)
      → (sort_row k a b c sa sb sc ≡ 0 → ⊥) → P k (sort_row k a b c sa sb sc)
  unfolding sort_row
  by_row f₁ f₂ f₃ f₄ f₅ f₆ f₇ f₈ f₉ f₁₀ f₁₁ f₁₂ f₁₃ f₁₄ f₁₅ f₁₆ f₂₀ f₂₁ f₂₂ f₂₃ f₂₄ f₂₅ f₂₆ f₂₇ f₂₈ f₂₉ =
      row P k 1 _ _ _ f₁ (row P k 2 _ _ _ f₂ (row P k 3 _ _ _ f₃ (row P k 4 _ _ _ f₄ (row P k 5 _ _ _ f₅
      (row P k 6 _ _ _ f₆ (row P k 7 _ _ _ f₇ (row P k 8 _ _ _ f₈ (row P k 9 _ _ _ f₉ (row P k 10 _ _ _ f₁₀
      (row P k 11 _ _ _ f₁₁ (row P k 12 _ _ _ f₁₂ (row P k 13 _ _ _ f₁₃ (row P k 14 _ _ _ f₁₄ (row P k 15 _ _ _ f₁₅
      (row P k 16 _ _ _ (f₁₆ 16 add) (row P k 17 _ _ _ (f₁₆ 17 sub)
      (row P k 18 _ _ _ (f₁₆ 18 mul) (row P k 19 _ _ _ (f₁₆ 19 div)
      (row P k 20 _ _ _ f₂₀ (row P k 21 _ _ _ f₂₁ (row P k 22 _ _ _ f₂₂ (row P k 23 _ _ _ f₂₃ (row P k 24 _ _ _ f₂₄
      (row P k 25 _ _ _ f₂₅ (row P k 26 _ _ _ f₂₆ (row P k 27 _ _ _ f₂₇ (row P k 28 _ _ _ f₂₈ (row P k 29 _ _ _ f₂₉
      (λ h. absurd (h refl))))))))))))))))))))))))))))))

-- the sort of node j among those of n
abbrev pub sort_at : List ℕ → ℕ → ℕ → ℕ
sort_at w n j = get_or (sorts w n) j 0

module _ (w : List ℕ) (n : ℕ) (passes : Passes w n) where
  -- the sorts of the nodes before are those of the whole list
  before : (j a : ℕ) → j ≤ n → a < j → get_or (sorts w j) a 0 ≡ sort_at w n a
  before j a h l = sym (ap (λ (z : List ℕ). get_or z a 0) (take-sorts w j n h)) ∙ get_or-take j (sorts w n) a 0 l

  last : (j : ℕ) → get_or (sorts w (suc j)) j 0 ≡ row_sort w j (sorts w j)
  unfolding sorts
  last j = get_or_at (sorts w j) (row_sort w j (sorts w j)) [] 0 j (length-sorts w j)

  own : (j : ℕ) → j < n → sort_at w n j ≡ row_sort w j (sorts w j)
  own j h = sym (before (suc j) j h (omega arith)) ∙ last j

  sorted : (j : ℕ) → j < n → row_sort w j (sorts w j) ≡ 0 → ⊥
  sorted j h = passed-sorted w n j h passes

  -- operand p of node j
  pub operand-of : (j p : ℕ) → j < n → p < arity (kind_at w j) → Operand w j (field w j (suc p))
  operand-of j p h l =
      let o = operand w j (sorted j h) p l in
      record { place = p; has = l; is = word w _ _ (omega arith); earlier = rw (word w (4 * j + suc p) (4 * j + 1 + p) (omega arith)) o.earlier }

  -- the sort of a node is that of its row over the sorts of its operands
  pub own_row : (j : ℕ) → j < n
      → sort_at w n j ≡ sort_row (kind_at w j) (field w j 1) (field w j 2) (field w j 3) (sort_at w n (field w j 1)) (sort_at w n (field w j 2)) (sort_at w n (field w j 3))
  unfolding row_sort
  own_row j h =
      own j h
      ∙ alike-rows (place 0) (place 1) (place 2)
    where
      place : (p : ℕ) → Alike (kind_at w j) (suc p) (field w j (suc p)) (get_or (sorts w j) (field w j (suc p)) 0) (field w j (suc p)) (sort_at w n (field w j (suc p)))
      place p = record { operand = λ l. before j _ (omega arith) (operand-of j p h l).earlier; other = λ _. refl }

  pub has-sort : (j : ℕ) → j < n → sort_at w n j ≡ 0 → ⊥
  has-sort j h e = sorted j h (sym (own j h) ∙ e)

  pub sort-small : (j : ℕ) → j < n → sort_at w n j ≤ 3904
  sort-small j h = rw (own j h) (row_small w (sorts w j) j)
