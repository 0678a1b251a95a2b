-- What holds of the sorts of a list: fewer rows have a prefix of them, and rows that are added leave them as they were.
use Rattle.std.specs.Prelude.{Bool, true, false, cond, ◌≡◌, refl, List, [], ◌∷◌, ◌++◌, ℕ, zero, suc, ◌+◌, ◌*◌, ◌≤◌, ◌<◌, leb, length, get_or, take, drop, Result, Ok, Err}
use Rattle.std.proofs.Common.{sym, subst, ◌∙◌, ap, append_assoc, add-zero, add-one, arith, length-append, take-append-drop, take_all, ne_eqb, leb-true}
use Rattle.std.proofs.Math.Decide.{le_ind, dec_lt}
use Rattle.std.proofs.Math.Dec.{eqb-suc-zero}
use Rattle.std.proofs.lemmas.List.{take-append-le}
use Rattle.lists.specs.Rows.{room_of}
use Rattle.sorts.specs.Lists.{row_sort, sorts}
use Rattle.sorts.specs.Good.{row-good, good-small}
use Rattle.sorts.specs.Check.{first_fault, check_of}
use Rattle.sorts.specs.declared.CheckError.{CheckError}
use Rattle.sorts.specs.declared.CheckError.TheVariants.{Fault, Room}

pub sorts-suc : (w : List ℕ) (n : ℕ) → sorts w (n + 1) ≡ sorts w n ++ (row_sort w n (sorts w n) ∷ [])
unfolding sorts
sorts-suc w n = rw add-one

pub length-sorts : (w : List ℕ) (n : ℕ) → length (sorts w n) ≡ n
unfolding sorts
length-sorts w zero = refl
length-sorts w (suc n) = simp (length-append, length-sorts w n, add-one)

-- the sorts of fewer nodes are a prefix
pub take-sorts : (w : List ℕ) (i n : ℕ) → i ≤ n → take i (sorts w n) ≡ sorts w i
unfolding sorts
take-sorts w i n h =
    le_ind (λ (m : ℕ). take i (sorts w m) ≡ sorts w i)
    (take_all i (sorts w i) (omega (arith, length-sorts w i)))
    (λ m k e. step m k e)
    n h
  where
    step : (m : ℕ) → i ≤ m → take i (sorts w m) ≡ sorts w i → take i (sorts w (suc m)) ≡ sorts w i
    step m k e = take-append-le i (sorts w m) (row_sort w m (sorts w m) ∷ []) (omega (arith, length-sorts w m)) ∙ e

-- a list without fault goes on with what follows it
pub fault-append : (l m : List ℕ) (i : ℕ) → first_fault i l ≡ Ok tt → first_fault i (l ++ m) ≡ first_fault (i + length l) m
unfolding first_fault
fault-append [] m i e = rw add-zero
fault-append (zero ∷ l) m i e = let z : ◌≡◌ {A = Result Unit CheckError} (Err (Fault i)) (Ok tt) = e in cc
fault-append (suc s ∷ l) m i e =
    rw (eqb-suc-zero, fault-append l m (i + 1) (rw (eqb-suc-zero) at e))
    (ap (λ (k : ℕ). first_fault k m) (omega (arith)))

pub passed-suc : (w : List ℕ) (i : ℕ) → first_fault 0 (sorts w i) ≡ Ok tt → (row_sort w i (sorts w i) ≡ 0 → ⊥)
    → first_fault 0 (sorts w (i + 1)) ≡ Ok tt
unfolding first_fault
passed-suc w i e h =
    rw (sorts-suc, fault-append (sorts w i) (row_sort w i (sorts w i) ∷ []) 0 e, ne_eqb (row_sort w i (sorts w i)) 0 h)

pub fault-at : (w : List ℕ) (n i : ℕ) → i < n → first_fault 0 (sorts w i) ≡ Ok tt → row_sort w i (sorts w i) ≡ 0
    → first_fault 0 (sorts w n) ≡ Err (Fault i)
unfolding first_fault
fault-at w n i h e z =
    let rest = drop (i + 1) (sorts w n) in
    let s : sorts w n ≡ sorts w i ++ (row_sort w i (sorts w i) ∷ rest) =
    sym (take-append-drop (i + 1) (sorts w n))
    ∙ ap (λ (l : List ℕ). l ++ rest) (take-sorts w (i + 1) n (omega arith) ∙ sorts-suc w i)
    ∙ append_assoc (sorts w i) (row_sort w i (sorts w i) ∷ []) rest in
    rw (s, fault-append (sorts w i) (row_sort w i (sorts w i) ∷ rest) 0 e, z)
    (ap (λ k. Err (Fault k)) (omega (arith, length-sorts w i)))

pub row_small : (w l : List ℕ) (n : ℕ) → row_sort w n l ≤ 3904
unfolding row_sort
row_small w l n = good-small _ (row-good _ _ _ _ _ _ _)

-- the words pass: each of the first n nodes has a sort
abbrev pub Passes : List ℕ → ℕ → Type 0
Passes w n = first_fault 0 (sorts w n) ≡ Ok tt

fault-front : (l m : List ℕ) (i : ℕ) → first_fault i (l ++ m) ≡ Ok tt → first_fault i l ≡ Ok tt
unfolding first_fault
fault-front [] m i e = refl
fault-front (zero ∷ l) m i e = e
fault-front (suc s ∷ l) m i e = rw (eqb-suc-zero) (fault-front l m (i + 1) (rw (eqb-suc-zero) at e))

pub passes-less : (w : List ℕ) (i n : ℕ) → i ≤ n → Passes w n → Passes w i
passes-less w i n h e =
    fault-front (sorts w i) (drop i (sorts w n)) 0
    (subst (λ (l : List ℕ). first_fault 0 l ≡ Ok tt)
    (sym (take-append-drop i (sorts w n)) ∙ ap (λ (l : List ℕ). l ++ drop i (sorts w n)) (take-sorts w i n h)) e)

-- a list that passes has a sort at each node
pub passed-sorted : (w : List ℕ) (n i : ℕ) → i < n → Passes w n → row_sort w i (sorts w i) ≡ 0 → ⊥
passed-sorted w n i h e z =
    let f : ◌≡◌ {A = Result Unit CheckError} (Err (Fault i)) (Ok tt) = sym (fault-at w n i h (passes-less w i n (omega arith) e) z) ∙ e in
    let t : ◌≡◌ {A = ℕ} 0 1 = cc in omega arith

-- and one with a sort at each node passes
pub sorted-passes : (w : List ℕ) (n : ℕ) → ((i : ℕ) → i < n → row_sort w i (sorts w i) ≡ 0 → ⊥) → Passes w n
unfolding sorts first_fault
sorted-passes w zero f = refl
sorted-passes w (suc n) f =
    subst (λ (k : ℕ). Passes w k) (add-one n)
    (passed-suc w n (sorted-passes w n (λ i h. f i (omega arith))) (f n (omega arith)))

-- THE EXTENSION: words that agree on n nodes have the same sorts there
pub agree : (w w' : List ℕ) (n : ℕ) → ((j : ℕ) → j < 4 * n → get_or w j 0 ≡ get_or w' j 0) → sorts w n ≡ sorts w' n
unfolding sorts row_sort
agree w w' zero f = refl
agree w w' (suc n) f =
    rw (agree w w' n (λ j h. f j (omega arith)), f (4 * n) (omega arith), f (4 * n + 1) (omega arith), f (4 * n + 2) (omega arith), f (4 * n + 3) (omega arith))

-- and a list that passes still passes with m more nodes that have sorts
pub extend : (w w' : List ℕ) (n m : ℕ) → Passes w n → ((j : ℕ) → j < 4 * n → get_or w j 0 ≡ get_or w' j 0)
    → ((i : ℕ) → n ≤ i → i < n + m → row_sort w' i (sorts w' i) ≡ 0 → ⊥) → Passes w' (n + m)
extend w w' n m e f g =
    let p : Passes w' n = subst (λ (l : List ℕ). first_fault 0 l ≡ Ok tt) (agree w w' n f) e in
    sorted-passes w' (n + m) (λ i h. by i h p (dec_lt i n))
  where
    by : (i : ℕ) → i < n + m → Passes w' n → Dec (i < n) → row_sort w' i (sorts w' i) ≡ 0 → ⊥
    by i h p (yes d) = passed-sorted w' n i d p
    by i h p (no d) = g i (omega arith) h

never : ◌≡◌ {A = ℕ} 0 1 → ⊥
never t = omega arith

-- what the check of a list that passes says
pub record Checked (w : List ℕ) (n : ℕ) : Type 0 where
  pub room : n ≤ room_of (length w)
  pub passes : Passes w n

pub passed-room : (w : List ℕ) (n : ℕ) → check_of w n ≡ Ok tt → Checked w n
unfolding check_of
passed-room w n e = by (leb n (room_of (length w))) refl e
  where
    by : (x : Bool) → leb n (room_of (length w)) ≡ x → cond x (first_fault 0 (sorts w n)) (Err Room) ≡ Ok tt → Checked w n
    by true p q = record { room = leb-true n (room_of (length w)) p; passes = q }
    by false p q = let z : ◌≡◌ {A = Result Unit CheckError} (Err Room) (Ok tt) = q in let t : ◌≡◌ {A = ℕ} 0 1 = cc in absurd (never t)
