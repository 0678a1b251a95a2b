-- What holds of the values of a list: each fits its sort, rows that are added leave them as they were, and a list that passes evaluates to its end; what a table of sorts says.
use Rattle.std.specs.Prelude.{Bool, ◌≡◌, List, [], ◌∷◌, ◌++◌, ℕ, zero, suc, ◌+◌, ◌-◌, ◌*◌, ◌/◌, ◌^◌, ◌≤◌, ◌<◌, min, length, get_or, take, drop, Result, Ok, Err}
use Rattle.std.proofs.Math.Bool.{true, false, cond}
use Rattle.std.proofs.Math.Path.{refl}
use Rattle.std.proofs.Common.{sym, subst, ◌∙◌, add-one, arith, lit<, length-append, take_at}
use Rattle.std.proofs.Math.Decide.{dec_lt}
use Rattle.std.proofs.Math.Dec.{leb}
use borrow.Author.Tests.{lt-ltb, ltb-true, le-leb, lt-leb, leb-false}
use Rattle.lists.specs.Rows.{room_of}
use Rattle.sorts.specs.Lists.{field, row_sort, sorts}
use Rattle.sorts.specs.Laws.{length-sorts, Passes, passed-sorted, passes-less, passed-room, agree}
use Rattle.sorts.specs.Check.{check_of}
use Rattle.sorts.specs.declared.CheckError.{CheckError}
use Rattle.sorts.specs.declared.CheckError.TheVariants as check
use Rattle.evaluator.specs.Value.{width_of, is_given, held, computed}
use Rattle.evaluator.specs.Lists.{pair_at, row_value, vals, fits_at, wide_from}
use Rattle.evaluator.specs.Outcome.{outcome_of}
use Rattle.evaluator.specs.Within.{AllFit, GivenFits}
use Rattle.evaluator.specs.Fits.{held_fits, computed_fits}
use Rattle.evaluator.specs.Table.{Tables}
use Rattle.evaluator.specs.declared.EvalError.{EvalError}
use Rattle.evaluator.specs.declared.EvalError.TheVariants.{TooWide}

pub vals-suc : (w g : List ℕ) (n : ℕ) → vals w g (n + 1) ≡ vals w g n ++ (row_value w g n (sorts w n) (vals w g n) ∷ [])
unfolding vals
vals-suc w g n = rw add-one

pub length-vals : (w g : List ℕ) (n : ℕ) → length (vals w g n) ≡ n
unfolding vals
length-vals w g zero = refl
length-vals w g (suc n) = simp (length-append, length-vals w g n, add-one)

-- what holds of the entries of two lists, and of one more of each
snoc-both : (P : ℕ → ℕ → Type 0) → P 0 0 → (l m : List ℕ) (x y : ℕ) → length l ≡ length m → ((i : ℕ) → P (get_or l i 0) (get_or m i 0)) → P x y
    → (i : ℕ) → P (get_or (l ++ (x ∷ [])) i 0) (get_or (m ++ (y ∷ [])) i 0)
snoc-both P z [] [] x y e f p zero = p
snoc-both P z [] [] x y e f p (suc i) = z
snoc-both P z [] (b ∷ m) x y e f p i = absurd (none e)
  where
    none : 0 ≡ suc (length m) → ⊥
    none q = omega arith
snoc-both P z (a ∷ l) [] x y e f p i = absurd (none e)
  where
    none : suc (length l) ≡ 0 → ⊥
    none q = omega arith
snoc-both P z (a ∷ l) (b ∷ m) x y e f p zero = f 0
snoc-both P z (a ∷ l) (b ∷ m) x y e f p (suc i) = snoc-both P z l m x y (omega arith) (λ j. f (suc j)) p i

row_fits : (w g : List ℕ) (n : ℕ) (ss vs : List ℕ) → AllFit vs ss → (row_sort w n ss ≡ 0 → ⊥)
    → (is_given (get_or w (4 * n) 0) ≡ true → pair_at g n < 2 ^ width_of (row_sort w n ss))
    → row_value w g n ss vs < 2 ^ width_of (row_sort w n ss)
unfolding row_sort row_value
row_fits w g n ss vs f s h = by (is_given (get_or w (4 * n) 0)) refl
  where
    by : (t : Bool) → is_given (get_or w (4 * n) 0) ≡ t
        → cond t (held (row_sort w n ss) (pair_at g n))
        (computed (get_or w (4 * n) 0) (field w n 1) (field w n 2) (field w n 3)
        (get_or ss (field w n 1) 0) (get_or ss (field w n 2) 0)
        (get_or vs (field w n 1) 0) (get_or vs (field w n 2) 0) (get_or vs (field w n 3) 0)) < 2 ^ width_of (row_sort w n ss)
    by true e = held_fits (row_sort w n ss) (pair_at g n) (h e)
    by false e =
        computed_fits (field w n 1) (field w n 2) (field w n 3)
        (get_or ss (field w n 1) 0) (get_or ss (field w n 2) 0) (get_or ss (field w n 3) 0)
        (get_or vs (field w n 1) 0) (get_or vs (field w n 2) 0) (get_or vs (field w n 3) 0)
        (f _) (f _) (f _) (get_or w (4 * n) 0) s

-- EVERY VALUE FITS ITS SORT, in a list that passes, with given values that fit
pub all_fit : (w g : List ℕ) (n : ℕ) → Passes w n → GivenFits w g n → AllFit (vals w g n) (sorts w n)
unfolding vals sorts
all_fit w g zero p h = λ i. lit< tt
all_fit w g (suc n) p h =
    let f : AllFit (vals w g n) (sorts w n) = all_fit w g n (passes-less w n (suc n) (omega arith) p) (λ i k. h i (omega arith)) in
    snoc-both (λ (v s : ℕ). v < 2 ^ width_of s) (lit< tt) (vals w g n) (sorts w n) (row_value w g n (sorts w n) (vals w g n)) (row_sort w n (sorts w n))
    (length-vals w g n ∙ sym (length-sorts w n)) f
    (row_fits w g n (sorts w n) (vals w g n) f (passed-sorted w (suc n) n (omega arith) p) (h n (omega arith)))

-- ROWS THAT ARE ADDED LEAVE THE VALUES AS THEY WERE
pub extend : (w w' g g' : List ℕ) (n : ℕ) → ((j : ℕ) → j < 4 * n → get_or w j 0 ≡ get_or w' j 0) → ((j : ℕ) → j < 2 * n → get_or g j 0 ≡ get_or g' j 0)
    → vals w g n ≡ vals w' g' n
unfolding vals row_value row_sort
extend w w' g g' zero f h = refl
extend w w' g g' (suc n) f h =
    rw (
      extend w w' g g' n (λ j k. f j (omega arith)) (λ j k. h j (omega arith)),
      agree w w' n (λ j k. f j (omega arith)),
      f (4 * n) (omega arith),
      f (4 * n + 1) (omega arith),
      f (4 * n + 2) (omega arith),
      f (4 * n + 3) (omega arith),
      h (2 * n) (omega arith),
      h (2 * n + 1) (omega arith),
    )

-- the scan of the given values
pub wide_step : (w g : List ℕ) (i n : ℕ) → i < n → fits_at w g i (row_sort w i (sorts w i)) ≡ true → wide_from w g i (n - i) ≡ wide_from w g (i + 1) (n - (i + 1))
unfolding wide_from
wide_step w g i n h e = let q : n - i ≡ suc (n - (i + 1)) = omega arith in rw (q, e)

pub wide-here : (w g : List ℕ) (i n : ℕ) → i < n → fits_at w g i (row_sort w i (sorts w i)) ≡ false → wide_from w g i (n - i) ≡ Err (TooWide i)
unfolding wide_from
wide-here w g i n h e = let q : n - i ≡ suc (n - (i + 1)) = omega arith in rw (q, e)

never : ◌≡◌ {A = ℕ} 0 1 → ⊥
never t = omega arith

wide-case : (b : Bool) (o : Result Unit EvalError) (i : ℕ) → cond b o (Err (TooWide i)) ≡ Ok tt → (b ≡ true) × (o ≡ Ok tt)
wide-case true o i e = (refl, e)
wide-case false o i e = let z : ◌≡◌ {A = Result Unit EvalError} (Err (TooWide i)) (Ok tt) = e in let t : ◌≡◌ {A = ℕ} 0 1 = cc in absurd (never t)

fits-given : (w g : List ℕ) (i : ℕ) → fits_at w g i (row_sort w i (sorts w i)) ≡ true → is_given (get_or w (4 * i) 0) ≡ true → pair_at g i < 2 ^ width_of (row_sort w i (sorts w i))
fits-given w g i e q = ltb-true (pair_at g i) (2 ^ width_of (row_sort w i (sorts w i))) (rw q at e)

wide-none : (w g : List ℕ) (k i : ℕ) → wide_from w g i k ≡ Ok tt → (j : ℕ) → i ≤ j → j < i + k → fits_at w g j (row_sort w j (sorts w j)) ≡ true
unfolding wide_from
wide-none w g zero i e j h q = absurd (none h q)
  where
    none : i ≤ j → j < i + zero → ⊥
    none x y = omega arith
wide-none w g (suc k) i e j h q =
    by (λ d. wide-none w g k (i + 1) (wide-case (fits_at w g i (row_sort w i (sorts w i))) (wide_from w g (i + 1) k) i e).1 j (omega arith) (omega arith)) (dec_lt i j)
  where
    by : (i < j → fits_at w g j (row_sort w j (sorts w j)) ≡ true) → Dec (i < j) → fits_at w g j (row_sort w j (sorts w j)) ≡ true
    by f (yes d) = f d
    by f (no d) =
        let s : i ≡ j = omega arith in
        subst (λ (x : ℕ). fits_at w g x (row_sort w x (sorts w x)) ≡ true) s (wide-case (fits_at w g i (row_sort w i (sorts w i))) (wide_from w g (i + 1) k) i e).0

-- a scan to the end: each given value fits,
pub done-fits : (w g : List ℕ) (n : ℕ) → wide_from w g 0 n ≡ Ok tt → GivenFits w g n
done-fits w g n e j h q = fits-given w g j (wide-none w g n 0 e j (omega arith) (omega arith)) q

-- and the other way
fits-done : (w g : List ℕ) (n k i : ℕ) → i + k ≤ n → GivenFits w g n → wide_from w g i k ≡ Ok tt
unfolding wide_from
fits-done w g n zero i h f = refl
fits-done w g n (suc k) i h f = rw (here (is_given (get_or w (4 * i) 0)) refl) (fits-done w g n k (i + 1) (omega arith) f)
  where
    here : (t : Bool) → is_given (get_or w (4 * i) 0) ≡ t → fits_at w g i (row_sort w i (sorts w i)) ≡ true
    here true e = rw e (lt-ltb (pair_at g i) (2 ^ width_of (row_sort w i (sorts w i))) (f i (omega arith) e))
    here false e = rw e

-- A LIST THAT THE CHECK PASSES EVALUATES TO ITS END, with columns long enough and given values that fit, and each value is below 2 to its width
pub record Evaluates (w g : List ℕ) (n m : ℕ) : Type 0 where
  pub ends : outcome_of w n g m ≡ Ok tt
  pub fits : AllFit (vals w g n) (sorts w n)

pub evaluates : (w g : List ℕ) (n m : ℕ) → check_of w n ≡ Ok tt → n ≤ length g / 2 → n ≤ m / 2 → GivenFits w g n → Evaluates w g n m
unfolding outcome_of
evaluates w g n m p hg hm f =
    let e : outcome_of w n g m ≡ Ok tt =
    rw (le-leb n (length g / 2) hg, le-leb n (m / 2) hm, p) (fits-done w g n n 0 (omega arith) f) in
    record { ends = e; fits = all_fit w g n (passed-room w n p).passes f }

-- what a table says that has an entry for each of n nodes, or 65,535
module _ {w t₀ t : List ℕ} {n : ℕ} {v : Result Unit CheckError} (enough : min n 65535 ≤ length t₀) (x : Tables w n v t₀ t) where
  pub table-checked : v ≡ check_of w n
  unfolding check_of room_of
  table-checked = by (leb n (length t₀)) refl x.verdict
    where
      by : (b : Bool) → leb n (length t₀) ≡ b → v ≡ cond b (check_of w n) (Err check.Room) → v ≡ check_of w n
      by true p q = q
      by false p q = rw (lt-leb n (room_of (length w)) (let h = leb-false n (length t₀) p in omega arith)) q

  pub table-sorted : v ≡ Ok tt → take n t ≡ sorts w n
  table-sorted e = rw (rw e at x.table) (take_at (sorts w n) (drop n t₀) n (length-sorts w n))
