-- The list of the nodes, one row a number, and its marks; where no node is there, a constant stands.
use Rattle.std.specs.Prelude.{◌≡◌, List, [], ◌∷◌, ◌++◌, length}
use Rattle.std.proofs.Math.Path.{refl}
use Rattle.std.proofs.Common.{sym, ap, ◌∙◌, add-zero, arith, get_or-append-add}
use Rattle.std.proofs.Math.Bool.{cond}
use Prim.Native.Nat.{ℕ, zero, suc, ◌+◌, ◌*◌, ◌<◌}
use Rattle.std.proofs.Math.ListN.{get_or, length-append, get_or-append}
use Rattle.smtgrammar.specs.State.{limit, Tables}
use Rattle.smtgrammar.specs.Rows.{there}
use Rattle.smtsound.specs.Tables.{kind_in, first_in, second_in, third_in, same?}

module _ (t : Tables) where
  -- the words of row i
  unfoldable pub row_of : ℕ → List ℕ
  row_of i = cond (there t i) (kind_in t i) 6 ∷ cond (there t i) (first_in t i) 0 ∷ cond (there t i) (second_in t i) 0 ∷ cond (there t i) (third_in t i) 1 ∷ []

  -- the rows below n, and their marks
  unfoldable pub list_to : ℕ → List ℕ
  list_to zero = []
  list_to (suc n) = list_to n ++ row_of n

  unfoldable pub marks_to : ℕ → List ℕ
  marks_to zero = []
  marks_to (suc n) = marks_to n ++ (cond (there t n) 1 0 ∷ [])

  unfoldable pub list_of : List ℕ
  list_of = list_to limit

  unfoldable pub marks_of : List ℕ
  marks_of = marks_to limit

  long-row : (i : ℕ) → length (row_of i) ≡ 4
  unfolding row_of
  long-row i = refl

  long-to : (n : ℕ) → length (list_to n) ≡ 4 * n
  unfolding list_to
  long-to zero = refl
  long-to (suc n) = length-append (list_to n) (row_of n) ∙ (let e = long-to n in let f = long-row n in omega arith)

  pub long-list : length list_of ≡ 4 * limit
  unfolding list_of
  long-list = long-to limit

  marks-long : (n : ℕ) → length (marks_to n) ≡ n
  unfolding marks_to
  marks-long zero = refl
  marks-long (suc n) = length-append (marks_to n) _ ∙ (let e = marks-long n in omega arith)

  pub long-marks : length marks_of ≡ limit
  unfolding marks_of
  long-marks = marks-long limit

  at-end : (l r : List ℕ) (m j : ℕ) → length l ≡ m → get_or (l ++ r) (m + j) 0 ≡ get_or r j 0
  at-end l r m j e = rw (← e) (get_or-append-add l r j 0)

  row-to : (n i j : ℕ) → i < n → j < 4 → get_or (list_to n) (4 * i + j) 0 ≡ get_or (row_of i) j 0
  unfolding list_to
  row-to zero i j h k = absurd (omega arith)
  row-to (suc n) i j h k = go (row-to n i j)
    where
      go : (i < n → j < 4 → get_or (list_to n) (4 * i + j) 0 ≡ get_or (row_of i) j 0) → get_or (list_to n ++ row_of n) (4 * i + j) 0 ≡ get_or (row_of i) j 0
      go f =
          same? i n (λ e. rw e (at-end (list_to n) (row_of n) (4 * n) j (long-to n)))
          (λ d. get_or-append (list_to n) (row_of n) 0 (4 * i + j) (let e = long-to n in omega arith) ∙ f (omega arith) k)

  -- word j of row i
  pub row_at : (i j : ℕ) → i < limit → j < 4 → get_or list_of (4 * i + j) 0 ≡ get_or (row_of i) j 0
  unfolding list_of
  row_at i j h k = row-to limit i j h k

  mark-to : (n i : ℕ) → i < n → get_or (marks_to n) i 0 ≡ cond (there t i) 1 0
  unfolding marks_to
  mark-to zero i h = absurd (omega arith)
  mark-to (suc n) i h = go (mark-to n i)
    where
      go : (i < n → get_or (marks_to n) i 0 ≡ cond (there t i) 1 0) → get_or (marks_to n ++ (cond (there t n) 1 0 ∷ [])) i 0 ≡ cond (there t i) 1 0
      go f =
          same? i n
          (λ e. rw e (ap (λ (m : ℕ). get_or (marks_to n ++ (cond (there t n) 1 0 ∷ [])) m 0) (sym (add-zero n)) ∙ at-end (marks_to n) (cond (there t n) 1 0 ∷ []) n 0 (marks-long n)))
          (λ d. get_or-append (marks_to n) _ 0 i (let e = marks-long n in omega arith) ∙ f (omega arith))

  pub mark-at : (i : ℕ) → i < limit → get_or marks_of i 0 ≡ cond (there t i) 1 0
  unfolding marks_of
  mark-at i h = mark-to limit i h
