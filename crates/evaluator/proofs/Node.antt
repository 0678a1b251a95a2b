-- A node's value out of the table and the column: its operands are earlier nodes, and have what its kind looks at.
use mathlib.Core.Bool.{Bool, true, false, cond, ◌&&◌, ◌||◌}
use mathlib.Core.Logic.{◌⊎◌, inl, inr, ⊎_elim}
use mathlib.Core.Path.{◌≡◌, refl, sym, subst, ◌∙◌, ap}
use mathlib.Core.List.{List, []}
use Prim.Native.Nat.{ℕ, ◌+◌, ◌*◌, ◌^◌, ◌≤◌, ◌<◌}
use native.Mathlib.Omega.{arith}
use native.Mathlib.Decide.{dec_lt}
use lib.Dec.{leb, eqb}
use lib.ListN.{length, get_or, take}
use lib.Seq.{get_or-take, take-take, get_or_at}
use borrow.Author.Tests.{lt-ltb, le-leb, leb-true, eqb-true, ne_eqb}
use Rattle.words.specs.Tests.{and_l, and_r}
use Rattle.words.specs.Wide.{concat_of}
use Rattle.sorts.specs.Sorts.{when, is_bits, is_float, sort_row}
use Rattle.sorts.specs.Lists.{field, row_sort, sorts}
use Rattle.sorts.specs.Laws.{Passes, take-sorts, sorts-suc, length-sorts, passed-sorted, passes-less}
use Rattle.needs.specs.Needed.{arity}
use Rattle.needs.specs.Passing.{earlier}
use Rattle.evaluator.specs.Formats.{sign_place}
use Rattle.evaluator.specs.Value.{width_of, is_given, computed}
use Rattle.evaluator.specs.Lists.{pair_at, row_value, vals, flat}
use Rattle.evaluator.specs.Inside.{Patterns, ComputeReady, NamesEntry, Entry, operand_of, OperandsReady, NodeReady, RunReady, Kinds}
use Rattle.evaluator.specs.Fits.{float-case, concat-inside}
use Rattle.evaluator.specs.Laws.{length-vals, all_fit}
use Rattle.evaluator.proofs.Column.{operand}
use Rattle.evaluator.proofs.Filled.{skip}

-- bits of a width are no float
pub not_float : (s : ℕ) → s ≤ 80 → is_float s ≡ false
not_float s h =
    let e₁ : s ≡ 2072 → ⊥ = λ e. omega arith in
    let e₂ : s ≡ 2869 → ⊥ = λ e. omega arith in
    let e₃ : s ≡ 3904 → ⊥ = λ e. omega arith in
    simp (ne_eqb s 2072 e₁, ne_eqb s 2869 e₂, ne_eqb s 3904 e₃)

-- an entry of the table is the sort of its node
pub sort-at : (w t : List ℕ) (n i : ℕ) → i < n → take n t ≡ sorts w n → get_or t i 0 ≡ row_sort w i (sorts w i)
sort-at w t n i h e =
    let m = take-take (i + 1) n t (omega arith) in
    let q : take (i + 1) t ≡ sorts w (i + 1) = sym m ∙ ap (take (i + 1)) e ∙ take-sorts w (i + 1) n (omega arith) in
    sym (get_or-take (i + 1) t i 0 (omega arith))
    ∙ ap (λ (l : List ℕ). get_or l i 0) (q ∙ sorts-suc w i)
    ∙ get_or_at (sorts w i) (row_sort w i (sorts w i)) [] 0 i (length-sorts w i)

-- node i of a run
pub node_of : (w g t col₀ col : List ℕ) (n i : ℕ) → RunReady w g t col₀ n → i < n → length col ≡ length col₀ → take (2 * i) col ≡ flat (vals w g i)
    → NodeReady w g t col i
node_of w g t col₀ col n i r h k e =
    let s = r.scan in
    record {
      words = omega (arith, s.words);
      gave = omega (arith, s.gave);
      room = omega (arith, r.room);
      few = omega (arith, s.few);
      long = omega (arith, s.long);
      own = sort-at w t n i h s.table;
      table = sym (take-take i n t (omega arith)) ∙ ap (take i) s.table ∙ take-sorts w i n (omega arith);
      column = e;
      fits = all_fit w g i (passes-less w i n (omega arith) r.passes) (λ j q. r.given j (omega arith));
      sorted = passed-sorted w n i h r.passes;
    }

-- a kind that looks at nothing but the values
abbrev looks : ℕ → Bool
looks k = (((eqb k 10 || eqb k 11) || (eqb k 12 || eqb k 13)) || (eqb k 15 || (eqb k 20 || eqb k 21)))

unlike : (n m : ℕ) → looks n ≡ false → looks m ≡ true → n ≡ m → ⊥
unlike n m e f q = let z : true ≡ false = sym f ∙ ap looks (sym q) ∙ e in absurd (let o : ◌≡◌ {A = ℕ} 1 0 = ap (λ (b : Bool). cond b 1 0) z in omega arith)

pub plain : (n sa sb va vb : ℕ) → looks n ≡ false → ComputeReady n sa sb va vb
plain n sa sb va vb e = record {
  flag = one;
  flags = two;
  joined = λ q. absurd (unlike n 15 e refl q);
  equal = λ q. absurd (unlike n 20 e refl q);
  less = λ q. absurd (unlike n 21 e refl q);
}
  where
    one : (n ≡ 12) ⊎ (n ≡ 13) → va < 2
    one (inl q) = absurd (unlike n 12 e refl q)
    one (inr q) = absurd (unlike n 13 e refl q)

    two : (n ≡ 10) ⊎ (n ≡ 11) → (va < 2) × (vb < 2)
    two (inl q) = absurd (unlike n 10 e refl q)
    two (inr q) = absurd (unlike n 11 e refl q)

-- what the other kinds look at
bools : (n va vb : ℕ) → n < 12 → va < 2 → vb < 2 → ComputeReady n 0 0 va vb
bools n va vb l h k = record {
  flag = ⊎_elim (λ q. absurd (omega arith)) (λ q. absurd (omega arith));
  flags = λ _. (h, k);
  joined = λ q. absurd (omega arith);
  equal = λ q. absurd (omega arith);
  less = λ q. absurd (omega arith);
}

pub bool : (n va vb : ℕ) → 12 ≤ n → n < 14 → va < 2 → ComputeReady n 0 0 va vb
bool n va vb l m h = record {
  flag = λ _. h;
  flags = ⊎_elim (λ q. absurd (omega arith)) (λ q. absurd (omega arith));
  joined = λ q. absurd (omega arith);
  equal = λ q. absurd (omega arith);
  less = λ q. absurd (omega arith);
}

joins : (sb va vb : ℕ) → concat_of va vb sb < 2 ^ 128 → ComputeReady 15 0 sb va vb
joins sb va vb h = record {
  flag = ⊎_elim (λ q. absurd (omega arith)) (λ q. absurd (omega arith));
  flags = ⊎_elim (λ q. absurd (omega arith)) (λ q. absurd (omega arith));
  joined = λ _. h;
  equal = λ q. absurd (omega arith);
  less = λ q. absurd (omega arith);
}

compares : (n sa va vb : ℕ) → 20 ≤ n → Patterns sa va vb → ComputeReady n sa 0 va vb
compares n sa va vb l p = record {
  flag = ⊎_elim (λ q. absurd (omega arith)) (λ q. absurd (omega arith));
  flags = ⊎_elim (λ q. absurd (omega arith)) (λ q. absurd (omega arith));
  joined = λ q. absurd (omega arith);
  equal = λ _. p;
  less = λ _. p;
}

-- a kind that has a sort is at most 29
pub kind-most : (k a b c sa sb sc : ℕ) → (sort_row k a b c sa sb sc ≡ 0 → ⊥) → k < 30
unfolding sort_row
kind-most k a b c sa sb sc h = go (dec_lt k 30)
  where
    none : 30 ≤ k → 0 ≡ sort_row k a b c sa sb sc
    none l =
        skip k 1 _ _ (λ q. omega arith)
        (skip k 2 _ _ (λ q. omega arith)
        (skip k 3 _ _ (λ q. omega arith)
        (skip k 4 _ _ (λ q. omega arith)
        (skip k 5 _ _ (λ q. omega arith)
        (skip k 6 _ _ (λ q. omega arith)
        (skip k 7 _ _ (λ q. omega arith)
        (skip k 8 _ _ (λ q. omega arith)
        (skip k 9 _ _ (λ q. omega arith)
        (skip k 10 _ _ (λ q. omega arith)
        (skip k 11 _ _ (λ q. omega arith)
        (skip k 12 _ _ (λ q. omega arith)
        (skip k 13 _ _ (λ q. omega arith)
        (skip k 14 _ _ (λ q. omega arith)
        (skip k 15 _ _ (λ q. omega arith)
        (skip k 16 _ _ (λ q. omega arith)
        (skip k 17 _ _ (λ q. omega arith)
        (skip k 18 _ _ (λ q. omega arith)
        (skip k 19 _ _ (λ q. omega arith)
        (skip k 20 _ _ (λ q. omega arith)
        (skip k 21 _ _ (λ q. omega arith)
        (skip k 22 _ _ (λ q. omega arith)
        (skip k 23 _ _ (λ q. omega arith)
        (skip k 24 _ _ (λ q. omega arith)
        (skip k 25 _ _ (λ q. omega arith)
        (skip k 26 _ _ (λ q. omega arith)
        (skip k 27 _ _ (λ q. omega arith)
        (skip k 28 _ _ (λ q. omega arith)
        (skip k 29 _ _ (λ q. omega arith)
        refl))))))))))))))))))))))))))))

    go : Dec (k < 30) → k < 30
    go (yes l) = l
    go (no l) = absurd (h (sym (none (omega arith))))

-- the kinds of a list that passes
pub kinds : (w : List ℕ) (n : ℕ) → Passes w n → Kinds w n
unfolding row_sort
kinds w n p i h = let k = kind-most _ _ _ _ _ _ _ (passed-sorted w n i h p) in omega arith

-- each kind but these is given its value, where it has a sort
pub given-else : (k a b c sa sb sc : ℕ) → (k ≡ 6 → ⊥) → (k ≡ 7 → ⊥) → (k ≡ 8 → ⊥) → (k ≡ 9 → ⊥) → (k ≡ 10 → ⊥) → (k ≡ 11 → ⊥) → (k ≡ 12 → ⊥) → (k ≡ 13 → ⊥) → (k ≡ 14 → ⊥) → (k ≡ 15 → ⊥) → (k ≡ 20 → ⊥) → (k ≡ 21 → ⊥) → (k ≡ 22 → ⊥) → (k ≡ 25 → ⊥) → (k ≡ 26 → ⊥)
    → (sort_row k a b c sa sb sc ≡ 0 → ⊥) → is_given k ≡ true
unfolding sort_row
given-else k a b c sa sb sc n6 n7 n8 n9 n10 n11 n12 n13 n14 n15 n20 n21 n22 n25 n26 h = go (is_given k) refl
  where
    go : (b : Bool) → is_given k ≡ b → is_given k ≡ true
    go true e = e
    go false e = absurd (h (sym none))
      where
        other : (n : ℕ) → is_given n ≡ true → k ≡ n → ⊥
        other n f q = let z : true ≡ false = sym f ∙ ap is_given (sym q) ∙ e in let o : ◌≡◌ {A = ℕ} 1 0 = ap (λ (b : Bool). cond b 1 0) z in omega arith

        none : 0 ≡ sort_row k a b c sa sb sc
        none =
            skip k 1 _ _ (other 1 refl)
            (skip k 2 _ _ (other 2 refl)
            (skip k 3 _ _ (other 3 refl)
            (skip k 4 _ _ (other 4 refl)
            (skip k 5 _ _ (other 5 refl)
            (skip k 6 _ _ n6
            (skip k 7 _ _ n7
            (skip k 8 _ _ n8
            (skip k 9 _ _ n9
            (skip k 10 _ _ n10
            (skip k 11 _ _ n11
            (skip k 12 _ _ n12
            (skip k 13 _ _ n13
            (skip k 14 _ _ n14
            (skip k 15 _ _ n15
            (skip k 16 _ _ (other 16 refl)
            (skip k 17 _ _ (other 17 refl)
            (skip k 18 _ _ (other 18 refl)
            (skip k 19 _ _ (other 19 refl)
            (skip k 20 _ _ n20
            (skip k 21 _ _ n21
            (skip k 22 _ _ n22
            (skip k 23 _ _ (other 23 refl)
            (skip k 24 _ _ (other 24 refl)
            (skip k 25 _ _ n25
            (skip k 26 _ _ n26
            (skip k 27 _ _ (other 27 refl)
            (skip k 28 _ _ (other 28 refl)
            (skip k 29 _ _ (other 29 refl)
            refl))))))))))))))))))))))))))))

-- a row of the table that gives a sort passed its test
tested : (ok : Bool) (s : ℕ) → (when ok s ≡ 0 → ⊥) → ok ≡ true
tested true s n = refl
tested false s n = absurd (n refl)

-- a pattern's width is its sign's place and one more
pattern-fits : (f v : ℕ) → is_float f ≡ true → v < 2 ^ width_of f → v < 2 ^ (sign_place f + 1)
pattern-fits f v e h = float-case (λ (x : ℕ). v < 2 ^ width_of x → v < 2 ^ (sign_place x + 1)) f e (λ q. q) (λ q. q) (λ q. q) h

module _ (w g t col : List ℕ) (i : ℕ) (r : NodeReady w g t col i) where
  abbrev S : ℕ → ℕ
  S p = get_or (sorts w i) (field w i p) 0

  abbrev X : ℕ → ℕ
  X p = get_or (vals w g i) (field w i p) 0

  module _ (n : ℕ) (k : get_or w (4 * i) 0 ≡ n) where
    before : (p q : ℕ) → 4 * i + 1 + p ≡ q → leb (p + 1) (arity n) ≡ true → get_or w q 0 < i
    before p q e h =
        subst (λ (x : ℕ). get_or w x 0 < i) e (earlier w i r.sorted p (let l : p + 1 ≤ arity (get_or w (4 * i) 0) = rw k (leb-true (p + 1) (arity n) h) in omega arith))

    pub first : leb 1 (arity n) ≡ true → field w i 1 < i
    first h = before 0 (4 * i + 1) (omega arith) h

    pub second : leb 2 (arity n) ≡ true → field w i 2 < i
    second h = before 1 (4 * i + 2) (omega arith) h

    pub third : leb 3 (arity n) ≡ true → field w i 3 < i
    third h = before 2 (4 * i + 3) (omega arith) h

    pub row-sorted : sort_row n (field w i 1) (field w i 2) (field w i 3) (S 1) (S 2) (S 3) ≡ 0 → ⊥
    unfolding row_sort
    row-sorted = rw k at r.sorted

    pub as-value : (v : ℕ) → is_given n ≡ false → v ≡ computed n (field w i 1) (field w i 2) (field w i 3) (S 1) (S 2) (X 1) (X 2) (X 3)
        → v ≡ row_value w g i (sorts w i) (vals w g i)
    unfolding row_value
    as-value v e q = rw (k, e) q

  pub entry : (a : ℕ) → a < i → Entry col a
  entry a h = let l = r.room in let f = r.few in record { room = omega arith; few = omega arith }

  pub names : (p : ℕ) → p ≤ 3 → field w i p < i → NamesEntry w (4 * i + p) t
  names p l h =
      let k = r.words in
      let f = r.few in
      let m = r.long in
      record { word = omega arith; names = omega arith; few = (omega arith, omega arith) }

  pub value_of : (a : ℕ) → a < i → pair_at col a ≡ get_or (vals w g i) a 0
  value_of a h = rw (lt-ltb a i h) at (operand col (vals w g i) i a r.column (length-vals w g i))

  pub sort-of : (a : ℕ) → a < i → get_or t a 0 ≡ get_or (sorts w i) a 0
  sort-of a h = sym (get_or-take i t a 0 h) ∙ ap (λ (l : List ℕ). get_or l a 0) r.table

  -- what the kinds look at besides: flags are one bit wide, a Concat fits two words, and compared patterns are of one format
  bit-wide : (p : ℕ) → field w i p < i → S p ≡ 1 → pair_at col (field w i p) < 2
  bit-wide p h e = rw (value_of (field w i p) h) (rw e at (r.fits (field w i p)))

  pub and-ready : get_or w (4 * i) 0 ≡ 10 → ComputeReady 10 0 0 (pair_at col (field w i 1)) (pair_at col (field w i 2))
  unfolding sort_row arity
  and-ready k =
      let e = tested ((eqb (S 1) 1 && eqb (S 2) 1) && eqb (field w i 3) 0) 1 (row-sorted 10 k) in
      let b = and_l (eqb (S 1) 1 && eqb (S 2) 1) (eqb (field w i 3) 0) e in
      bools 10 _ _ (omega arith) (bit-wide 1 (first 10 k refl) (eqb-true _ _ (and_l (eqb (S 1) 1) (eqb (S 2) 1) b))) (bit-wide 2 (second 10 k refl) (eqb-true _ _ (and_r (eqb (S 1) 1) (eqb (S 2) 1) b)))

  pub or-ready : get_or w (4 * i) 0 ≡ 11 → ComputeReady 11 0 0 (pair_at col (field w i 1)) (pair_at col (field w i 2))
  unfolding sort_row arity
  or-ready k =
      let e = tested ((eqb (S 1) 1 && eqb (S 2) 1) && eqb (field w i 3) 0) 1 (row-sorted 11 k) in
      let b = and_l (eqb (S 1) 1 && eqb (S 2) 1) (eqb (field w i 3) 0) e in
      bools 11 _ _ (omega arith) (bit-wide 1 (first 11 k refl) (eqb-true _ _ (and_l (eqb (S 1) 1) (eqb (S 2) 1) b))) (bit-wide 2 (second 11 k refl) (eqb-true _ _ (and_r (eqb (S 1) 1) (eqb (S 2) 1) b)))

  pub not-ready : get_or w (4 * i) 0 ≡ 12 → ComputeReady 12 0 0 (pair_at col (field w i 1)) 0
  unfolding sort_row arity
  not-ready k =
      let e = tested ((eqb (S 1) 1 && eqb (field w i 2) 0) && eqb (field w i 3) 0) 1 (row-sorted 12 k) in
      bool 12 _ _ (omega arith) (omega arith)
      (bit-wide 1 (first 12 k refl) (eqb-true _ _ (and_l (eqb (S 1) 1) (eqb (field w i 2) 0) (and_l (eqb (S 1) 1 && eqb (field w i 2) 0) (eqb (field w i 3) 0) e))))

  pub ite-ready : get_or w (4 * i) 0 ≡ 13 → ComputeReady 13 0 0 (pair_at col (field w i 1)) (pair_at col (field w i 2))
  unfolding sort_row arity
  ite-ready k =
      let e = tested ((eqb (S 1) 1 && is_bits (S 2)) && eqb (S 2) (S 3)) (S 3) (row-sorted 13 k) in
      bool 13 _ _ (omega arith) (omega arith) (bit-wide 1 (first 13 k refl) (eqb-true _ _ (and_l (eqb (S 1) 1) (is_bits (S 2)) (and_l (eqb (S 1) 1 && is_bits (S 2)) (eqb (S 2) (S 3)) e))))

  pub concat-ready : (sb : ℕ) → get_or w (4 * i) 0 ≡ 15 → sb ≡ S 2 → ComputeReady 15 0 sb (pair_at col (field w i 1)) (pair_at col (field w i 2))
  unfolding arity
  concat-ready sb k e =
      joins sb _ _
      (rw (e, value_of (field w i 1) (first 15 k refl), value_of (field w i 2) (second 15 k refl))
      (concat-inside (field w i 1) (field w i 2) (field w i 3) (S 1) (S 2) (S 3) (X 1) (X 2) (X 3) (r.fits _) (r.fits _) (r.fits _) (row-sorted 15 k)))

  compared : (u : Bool) (sa : ℕ) → field w i 1 < i → field w i 2 < i → sa ≡ S 1 → (is_float (S 1) && eqb (S 1) (S 2)) && u ≡ true
      → Patterns sa (pair_at col (field w i 1)) (pair_at col (field w i 2))
  compared u sa h k e q =
      let b = and_l (is_float (S 1) && eqb (S 1) (S 2)) u q in
      let f = and_l (is_float (S 1)) (eqb (S 1) (S 2)) b in
      let s = eqb-true (S 1) (S 2) (and_r (is_float (S 1)) (eqb (S 1) (S 2)) b) in
      rw (e, value_of (field w i 1) h, value_of (field w i 2) k)
      (record { left = pattern-fits (S 1) (X 1) f (r.fits _); right = pattern-fits (S 1) (X 2) f (rw (sym s) at (r.fits (field w i 2))) })

  pub equal-ready : (sa : ℕ) → get_or w (4 * i) 0 ≡ 20 → sa ≡ S 1 → ComputeReady 20 sa 0 (pair_at col (field w i 1)) (pair_at col (field w i 2))
  unfolding sort_row arity
  equal-ready sa k e =
      compares 20 sa _ _ (omega arith)
      (compared (eqb (field w i 3) 0) sa (first 20 k refl) (second 20 k refl) e (tested ((is_float (S 1) && eqb (S 1) (S 2)) && eqb (field w i 3) 0) 1 (row-sorted 20 k)))

  pub less-ready : (sa : ℕ) → get_or w (4 * i) 0 ≡ 21 → sa ≡ S 1 → ComputeReady 21 sa 0 (pair_at col (field w i 1)) (pair_at col (field w i 2))
  unfolding sort_row arity
  less-ready sa k e =
      compares 21 sa _ _ (omega arith)
      (compared (eqb (field w i 3) 0) sa (first 21 k refl) (second 21 k refl) e (tested ((is_float (S 1) && eqb (S 1) (S 2)) && eqb (field w i 3) 0) 1 (row-sorted 21 k)))

  -- the call for a kind with m operands is ready, and gives the node's value
  module _ (n : ℕ) (k : get_or w (4 * i) 0 ≡ n) where
    pub operands-ready : (m sa sb : ℕ) → m ≡ arity n → ComputeReady n sa sb (operand_of m w i col 1) (operand_of m w i col 2) → OperandsReady m n sa sb w i col
    operands-ready m sa sb e q = record {
      words = r.words;
      few = r.few;
      first = λ h. entry (field w i 1) (first n k (le-leb 1 (arity n) (omega arith)));
      second = λ h. entry (field w i 2) (second n k (le-leb 2 (arity n) (omega arith)));
      third = λ h. entry (field w i 3) (third n k (le-leb 3 (arity n) (omega arith)));
      ready = q;
    }

    -- operand p of m, out of the column
    given-by : (m p : ℕ) → (p ≤ m → field w i p < i) → operand_of m w i col p ≡ cond (leb p m) (X p) 0
    given-by m p h = by (leb p m) refl
      where
        by : (b : Bool) → leb p m ≡ b → cond b (pair_at col (field w i p)) 0 ≡ cond b (X p) 0
        by true e = value_of (field w i p) (h (leb-true p m e))
        by false e = refl

    pub value-by : (m v sa sb : ℕ) → is_given n ≡ false → m ≡ arity n
        → v ≡ computed n (field w i 1) (field w i 2) (field w i 3) sa sb (operand_of m w i col 1) (operand_of m w i col 2) (operand_of m w i col 3)
        → computed n (field w i 1) (field w i 2) (field w i 3) sa sb (cond (leb 1 m) (X 1) 0) (cond (leb 2 m) (X 2) 0) (cond (leb 3 m) (X 3) 0)
        ≡ computed n (field w i 1) (field w i 2) (field w i 3) (S 1) (S 2) (X 1) (X 2) (X 3)
        → v ≡ row_value w g i (sorts w i) (vals w g i)
    value-by m v sa sb g e q s =
        as-value n k v g
        (q ∙ rw (given-by m 1 (λ h. first n k (le-leb 1 (arity n) (omega arith))), given-by m 2 (λ h. second n k (le-leb 2 (arity n) (omega arith))), given-by m 3 (λ h. third n k (le-leb 3 (arity n) (omega arith)))) s)
