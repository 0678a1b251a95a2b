-- Rows in a list's words: rows that are laid in are read back, and what stood before them stays
use Rattle.std.specs.Prelude.{◌≡◌, Bool, true, List, [], ◌∷◌, ℕ, ◌+◌, ◌*◌, ◌≤◌, ◌<◌, length, get_or}
use Rattle.std.proofs.Common.{sym, subst, ◌∙◌, arith}
use Rattle.std.proofs.Math.Decide.{dec_lt}
use Rattle.lists.specs.Rows.{Row, row, stored, wrote, length-stored}
use Rattle.lists.proofs.Frame.{From, word_kept, row_read}
use Rattle.words.specs.Tests.{and_l, and_r}
use Rattle.texts.specs.Bytes.{all}

-- A test of a row's kind and fields
unfoldable pub over : (ℕ → ℕ → ℕ → ℕ → Bool) → Row → Bool
over f (row n k a b c) = f k a b c

-- The rows are numbered one after the other, n first
unfoldable pub InOrder : ℕ → List Row → Type 0
InOrder n [] = Unit {0}
InOrder n (row k _ _ _ _ ∷ rs) = (k ≡ n) × InOrder (n + 1) rs

-- Row n of these words: its kind and its three fields
pub record Reads (w : List ℕ) (n k a b c : ℕ) : Type 0 where
  pub kind : get_or w (4 * n) 0 ≡ k
  pub first : get_or w (4 * n + 1) 0 ≡ a
  pub second : get_or w (4 * n + 2) 0 ≡ b
  pub third : get_or w (4 * n + 3) 0 ≡ c

-- The words have these rows, from row n on
unfoldable pub Lies : List ℕ → ℕ → List Row → Type 0
Lies w n [] = Unit {0}
Lies w n (row _ k a b c ∷ rs) = Reads w n k a b c × Lies w (n + 1) rs

pub order_from : (n m : ℕ) (rs : List Row) → n ≤ m → InOrder m rs → From n rs
unfolding InOrder
order_from n m [] h p = tt
order_from n m (row k _ _ _ _ ∷ rs) h p = (omega (arith, p.0), order_from n (m + 1) rs (omega arith) p.1)

-- What is laid in is read back
pub lies : (l : List ℕ) (n : ℕ) (rs : List Row) → InOrder n rs → 4 * (n + length rs) ≤ length l → Lies (wrote l rs) n rs
unfolding InOrder Lies wrote
lies l n [] p h = tt
lies l n (row k x a b c ∷ rs) p h = subst (λ m. Lies (wrote (stored l (row m x a b c)) rs) n (row m x a b c ∷ rs)) (sym p.0) (
    let w = stored l (row n x a b c) in
    let e = length-stored l (row n x a b c) in
    let r = row_read l n x a b c (omega arith) in
    let f = order_from (n + 1) (n + 1) rs (omega arith) p.1 in (
      record {
        kind = word_kept w rs (n + 1) (4 * n) f (omega arith) ∙ r.0;
        first = word_kept w rs (n + 1) (4 * n + 1) f (omega arith) ∙ r.1;
        second = word_kept w rs (n + 1) (4 * n + 2) f (omega arith) ∙ r.2;
        third = word_kept w rs (n + 1) (4 * n + 3) f (omega arith) ∙ r.3;
      },
      lies w (n + 1) rs p.1 (omega arith),
    ))

-- Each row of a list that lies in the words passes a test where it stands
pub each_row : (f : ℕ → ℕ → ℕ → ℕ → Bool) (w : List ℕ) (rs : List Row) (n : ℕ) → Lies w n rs → all (over f) rs ≡ true
    → (j : ℕ) → n ≤ j → j < n + length rs → f (get_or w (4 * j) 0) (get_or w (4 * j + 1) 0) (get_or w (4 * j + 2) 0) (get_or w (4 * j + 3) 0) ≡ true
unfolding Lies over
each_row f w [] n l e j h k = absurd (none h k)
  where
    none : n ≤ j → j < n + 0 → ⊥
    none h k = omega arith
each_row f w (row m x a b c ∷ rs) n l e j h k =
    way (λ d. each_row f w rs (n + 1) l.1 (and_r (f x a b c) _ e) j (omega arith) (omega arith)) (dec_lt n j)
  where
    At : ℕ → Type 0
    At i = f (get_or w (4 * i) 0) (get_or w (4 * i + 1) 0) (get_or w (4 * i + 2) 0) (get_or w (4 * i + 3) 0) ≡ true

    here : At n
    here = rw (l.0.kind, l.0.first, l.0.second, l.0.third) (and_l (f x a b c) _ e)

    way : (n < j → At j) → Dec (n < j) → At j
    way g (yes d) = g d
    way g (no d) = let s : n ≡ j = omega arith in subst At s here
