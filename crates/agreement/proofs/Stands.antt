-- Rows that are added to a list: their sorts stand in the words, those of the rows before stay, and so it is with the statements' demands
use Rattle.std.specs.Prelude.{◌≡◌, refl, true, List, [], ◌∷◌, ◌++◌, ℕ, ◌+◌, ◌*◌, ◌≤◌, ◌<◌, min, length, get_or, take}
use Rattle.std.proofs.Common.{sym, ap, subst, ◌∙◌, arith, length-append, get_or-take}
use Rattle.std.proofs.Math.Decide.{dec_lt}
use Rattle.std.proofs.lemmas.List.{take-append-le}
use Rattle.std.proofs.Math.Seq.{get_or-append_seam, take-append_seam}
use Rattle.lists.specs.Rows.{Row, row, up, wrote}
use Rattle.lists.proofs.Frame.{word_kept}
use Rattle.lists.proofs.Adds.{Numbered, after}
use Rattle.sorts.specs.Lists.{row_sort}
use Rattle.agreement.specs.Demands.{demanded_at}
use Rattle.agreement.specs.Laid.{InOrder, Reads, Lies, order_from, lies}
use Rattle.agreement.proofs.Fine.{Some, sort_in, grown, Sorted, Demanded, Extends, demanded-stays}

-- Node n has in Γ the sort that the words give it, from those before it
pub record Stands (w Γ : List ℕ) (n : ℕ) : Type 0 where
  pub sort : row_sort w n (take n Γ) ≡ get_or Γ n 0
  pub some : Some (get_or Γ n 0)

-- Entries that are added leave those before
pub take-grown : (Γ : List ℕ) (rs : List Row) (n : ℕ) → n ≤ length Γ → take n (grown Γ rs) ≡ take n Γ
unfolding grown
take-grown Γ [] n h = refl
take-grown Γ (r ∷ rs) n h =
    take-grown (Γ ++ (sort_in Γ r ∷ [])) rs n (omega (arith, length-append Γ (sort_in Γ r ∷ []))) ∙ take-append-le n Γ (sort_in Γ r ∷ []) h

at-grown : (Γ : List ℕ) (rs : List Row) (n : ℕ) → n < length Γ → get_or (grown Γ rs) n 0 ≡ get_or Γ n 0
at-grown Γ rs n h =
    sym (get_or-take (n + 1) (grown Γ rs) n 0 (omega arith)) ∙ ap (λ (l : List ℕ). get_or l n 0) (take-grown Γ rs (n + 1) (omega arith)) ∙ get_or-take (n + 1) Γ n 0 (omega arith)

-- The numbers of rows that have sorts, and of rows that a step counts
sorted-order : (Γ : List ℕ) (rs : List Row) (n : ℕ) → n ≡ length Γ → Sorted Γ rs → InOrder n rs
unfolding Sorted InOrder
sorted-order Γ [] n e p = tt
sorted-order Γ (row k x a b c ∷ rs) n e p =
    (p.0 ∙ sym e, sorted-order (Γ ++ (sort_in Γ (row k x a b c) ∷ [])) rs (n + 1) (omega (arith, length-append Γ (sort_in Γ (row k x a b c) ∷ []))) p.2)

pub numbered-order : (n : ℕ) (rs : List Row) → n + length rs ≤ 4294967295 → Numbered n rs → InOrder n rs
unfolding InOrder up
numbered-order n [] h p = tt
numbered-order n (row k _ _ _ _ ∷ rs) h p =
    let e : min (n + 1) 4294967295 ≡ n + 1 = omega arith in
    (p.0, numbered-order (n + 1) rs (omega arith) (subst (λ (m : ℕ). Numbered m rs) e p.1))

pub after-exact : (n : ℕ) (rs : List Row) → n + length rs ≤ 4294967295 → after n rs ≡ n + length rs
unfolding up
after-exact n [] h = omega arith
after-exact n (r ∷ rs) h =
    let e : min (n + 1) 4294967295 ≡ n + 1 = omega arith in
    ap (λ (m : ℕ). after m rs) e ∙ after-exact (n + 1) rs (omega arith) ∙ omega arith

-- Rows that lie in the words have their sorts
row-stands : (w Γ : List ℕ) (rs : List Row) (n k a b c : ℕ) → Reads w (length Γ) k a b c → n ≡ length Γ → Some (sort_in Γ (row n k a b c))
    → Stands w (grown Γ (row n k a b c ∷ rs)) (length Γ)
unfolding grown sort_in row_sort
row-stands w Γ rs n k a b c r e s =
    let σ = sort_in Γ (row n k a b c) in
    let Γ₁ = Γ ++ (σ ∷ []) in
    let l = length-append Γ (σ ∷ []) in
    let t : take (length Γ) (grown Γ₁ rs) ≡ Γ = take-grown Γ₁ rs (length Γ) (omega arith) ∙ take-append_seam Γ (σ ∷ []) in
    let g : get_or (grown Γ₁ rs) (length Γ) 0 ≡ σ = at-grown Γ₁ rs (length Γ) (omega arith) ∙ get_or-append_seam Γ σ [] 0 in
    record { sort = rw (t, g, r.kind, r.first, r.second, r.third); some = λ z. s (sym g ∙ z) }

rows-stand : (w Γ : List ℕ) (rs : List Row) → Lies w (length Γ) rs → Sorted Γ rs → (n : ℕ) → length Γ ≤ n → n < length Γ + length rs → Stands w (grown Γ rs) n
unfolding Lies Sorted grown
rows-stand w Γ [] p q n h k = absurd (none h k)
  where
    none : length Γ ≤ n → n < length Γ + 0 → ⊥
    none h k = omega arith
rows-stand w Γ (row m x a b c ∷ rs) p q n h k =
    way (λ d. rows-stand w (Γ ++ (sort_in Γ (row m x a b c) ∷ [])) rs
    (subst (λ (i : ℕ). Lies w i rs) (sym l) p.1) q.2 n (omega (arith, l)) (omega (arith, l))) (dec_lt (length Γ) n)
  where
    l : length (Γ ++ (sort_in Γ (row m x a b c) ∷ [])) ≡ length Γ + 1
    l = length-append Γ (sort_in Γ (row m x a b c) ∷ [])

    way : (length Γ < n → Stands w (grown Γ (row m x a b c ∷ rs)) n) → Dec (length Γ < n) → Stands w (grown Γ (row m x a b c ∷ rs)) n
    way f (yes d) = f d
    way f (no d) = let e : length Γ ≡ n = omega arith in subst (λ (i : ℕ). Stands w (grown Γ (row m x a b c ∷ rs)) i) e (row-stands w Γ rs m x a b c p.0 q.0 q.1)

rows-said : (Γ w : List ℕ) (m : ℕ) (rs : List Row) → Lies w m rs → Demanded Γ rs → (j : ℕ) → m ≤ j → j < m + length rs → demanded_at Γ w j ≡ true
unfolding Lies Demanded demanded_at
rows-said Γ w m [] p q j h k = absurd (none h k)
  where
    none : m ≤ j → j < m + 0 → ⊥
    none h k = omega arith
rows-said Γ w m (row n x a b c ∷ rs) p q j h k = way (λ d. rows-said Γ w (m + 1) rs p.1 q.1 j (omega arith) (omega arith)) (dec_lt m j)
  where
    here : demanded_at Γ w m ≡ true
    here = rw (p.0.kind, p.0.first, p.0.second, p.0.third) q.0

    way : (m < j → demanded_at Γ w j ≡ true) → Dec (m < j) → demanded_at Γ w j ≡ true
    way f (yes d) = f d
    way f (no d) = let e : m ≡ j = omega arith in subst (λ (i : ℕ). demanded_at Γ w i ≡ true) e here

-- Rows that stood before stand
stands-still : (w w' Γ : List ℕ) (rs : List Row) (n : ℕ) → n < length Γ → ((j : ℕ) → j < 4 * length Γ → get_or w' j 0 ≡ get_or w j 0) → Stands w Γ n → Stands w' (grown Γ rs) n
unfolding row_sort
stands-still w w' Γ rs n h f s =
    let g = at-grown Γ rs n h in
    record {
      sort = rw (take-grown Γ rs n (omega arith), g, f (4 * n) (omega arith), f (4 * n + 1) (omega arith), f (4 * n + 2) (omega arith), f (4 * n + 3) (omega arith)) s.sort;
      some = λ z. s.some (sym g ∙ z);
    }

said-still : (Γ Γ' w w' : List ℕ) (m j : ℕ) → j < m → Extends Γ Γ' → ((i : ℕ) → i < 4 * m → get_or w' i 0 ≡ get_or w i 0) → demanded_at Γ w j ≡ true → demanded_at Γ' w' j ≡ true
unfolding demanded_at
said-still Γ Γ' w w' m j h x f e =
    rw (f (4 * j) (omega arith), f (4 * j + 1) (omega arith), f (4 * j + 2) (omega arith), f (4 * j + 3) (omega arith))
    (demanded-stays x _ _ _ _ e)

-- The nodes and the statements, those from before and those that are added
pub nodes-step : (l Γ : List ℕ) (rs : List Row) (n₀ : ℕ) → Sorted Γ rs → 4 * (length Γ + length rs) ≤ length l → ((n : ℕ) → n₀ ≤ n → n < length Γ → Stands l Γ n)
    → (n : ℕ) → n₀ ≤ n → n < length Γ + length rs → Stands (wrote l rs) (grown Γ rs) n
nodes-step l Γ rs n₀ p r f n h k = way (dec_lt n (length Γ))
  where
    o : InOrder (length Γ) rs
    o = sorted-order Γ rs (length Γ) refl p

    way : Dec (n < length Γ) → Stands (wrote l rs) (grown Γ rs) n
    way (yes d) = stands-still l (wrote l rs) Γ rs n d (λ j x. word_kept l rs (length Γ) j (order_from (length Γ) (length Γ) rs (omega arith) o) x) (f n h d)
    way (no d) = rows-stand (wrote l rs) Γ rs (lies l (length Γ) rs o r) p n (omega arith) k

pub statements-step : (l Γ Γ' : List ℕ) (rs : List Row) (m m₀ : ℕ) → Extends Γ Γ' → InOrder m rs → Demanded Γ' rs → 4 * (m + length rs) ≤ length l
    → ((j : ℕ) → m₀ ≤ j → j < m → demanded_at Γ l j ≡ true) → (j : ℕ) → m₀ ≤ j → j < m + length rs → demanded_at Γ' (wrote l rs) j ≡ true
statements-step l Γ Γ' rs m m₀ x o p r f j h k = way (dec_lt j m)
  where
    way : Dec (j < m) → demanded_at Γ' (wrote l rs) j ≡ true
    way (yes d) = said-still Γ Γ' l (wrote l rs) m j d x (λ i y. word_kept l rs m i (order_from m m rs (omega arith) o) y) (f j h d)
    way (no d) = rows-said Γ' (wrote l rs) m rs (lies l m rs o r) p j (omega arith) k
