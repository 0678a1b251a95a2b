-- THE ROWS THAT A TEXT SAYS PASS THE CHECK: the marked rows of a list that passes, with operands by their numbers among the marked ones.
use Rattle.std.specs.Prelude.{◌≡◌, Bool, cond, List, [], ◌∷◌, ◌++◌, length, get_or, Ok}
use Rattle.std.proofs.Math.Path.{refl, sym}
use Rattle.std.proofs.Common.{◌∙◌, append_assoc, add-zero, eqb-true, le-leb, eq-eqb, length-append, get_or-append-add}
use Rattle.std.proofs.Math.Bool.{true, false}
use Prim.Native.Nat.{ℕ, zero, suc, ◌+◌, ◌*◌, ◌≤◌, ◌<◌}
use native.Mathlib.Omega.{arith}
use Rattle.std.proofs.Math.Decide.{le_ind}
use Rattle.std.proofs.lemmas.Bool.{lt-leb}
use Rattle.std.proofs.Math.ListN.{get_or-append}
use Rattle.std.proofs.lemmas.List.{get_or_at}
use Rattle.lists.specs.Rows.{room_of}
use Rattle.sorts.specs.Lists.{field, row_sort, sorts}
use Rattle.sorts.specs.Check.{check_of, first_fault}
use Rattle.sorts.specs.Laws.{Passes, length-sorts, sorts-suc, passed-suc, passed-room}
use Rattle.needs.specs.Needed.{arity}
use Rattle.needs.specs.Laws.{word}
use Rattle.viable.specs.Grammar.{clash}
use Rattle.smttext.specs.Names.{kind_at}
use Rattle.smttext.specs.Text.{on}
use Rattle.smttext.specs.Subset.{Kept, rank, field_by, compact}
use Rattle.smtsound.specs.Tables.{same?}
use Rattle.smtcomplete.specs.Facts.{Alike, alike-rows, sort_at, operand-of, own_row, has-sort}

one-most : (b : Bool) → cond b 1 0 ≤ 1
one-most true = omega arith
one-most false = omega arith

module _ (m : List ℕ) where
  -- a marked node counts, and no other
  rank-on : (i : ℕ) → on m i ≡ true → rank m (suc i) ≡ rank m i + 1
  unfolding rank
  rank-on i e = rw e

  rank-off : (i : ℕ) → on m i ≡ false → rank m (suc i) ≡ rank m i
  unfolding rank
  rank-off i e = rw e (add-zero (rank m i))

  rank_most : (n : ℕ) → rank m n ≤ n
  unfolding rank
  rank_most zero = omega arith
  rank_most (suc n) = let h = rank_most n in let k = one-most (on m n) in omega arith

  rank_up : (i n : ℕ) → i ≤ n → rank m i ≤ rank m n
  unfolding rank
  rank_up i = le_ind (λ (n : ℕ). rank m i ≤ rank m n) (omega arith) (λ n h l. omega arith)

  -- the number of a marked node is below that of each later one
  rank_below : (i n : ℕ) → i < n → on m i ≡ true → rank m i < rank m n
  rank_below i n h e = let r = rank-on i e in let k = rank_up (suc i) n h in omega arith

-- the row of node i in the formula
abbrev row_by : List ℕ → List ℕ → ℕ → List ℕ
row_by w m i = kind_at w i ∷ field_by w m i 1 ∷ field_by w m i 2 ∷ field_by w m i 3 ∷ []

four : (b : Bool) (k x y z : ℕ) → length (cond b (k ∷ x ∷ y ∷ z ∷ []) []) ≡ 4 * cond b 1 0
four true k x y z = refl
four false k x y z = refl

-- each marked node has a row of four words
pub compact-long : (w m : List ℕ) (n : ℕ) → length (compact w m n) ≡ 4 * rank m n
unfolding compact rank
compact-long w m zero = refl
compact-long w m (suc n) = rw (length-append, compact-long w m n, four) (omega arith)

-- the row of a marked node stands at its number, whatever follows
row_at : (w m rest : List ℕ) (n i j : ℕ) → i < n → on m i ≡ true → j < 4 → get_or (compact w m n ++ rest) (4 * rank m i + j) 0 ≡ get_or (row_by w m i) j 0
unfolding compact
row_at w m rest zero i j h e l = absurd (omega arith)
row_at w m rest (suc n) i j h e l =
    rw append_assoc
    (same? i n
    (λ q. rw (← q, e, ← compact-long w m i, get_or-append-add) (get_or-append (row_by w m i) rest 0 j l))
    (λ d. row_at w m (cond (on m n) (row_by w m n) [] ++ rest) n i j (omega arith) e l))

module _ (w m rest : List ℕ) (n : ℕ) (passed : Passes w n) (kept : Kept w m n) where
  abbrev rows : List ℕ
  rows = compact w m n ++ rest

  -- the sort of a marked node's row, from those of the marked nodes before it
  row-sort : (i : ℕ) (l : List ℕ) → i < n → on m i ≡ true → ((a : ℕ) → a < i → on m a ≡ true → get_or l (rank m a) 0 ≡ sort_at w n a)
      → row_sort rows (rank m i) l ≡ sort_at w n i
  unfolding row_sort
  row-sort i l h e f =
      rw (kind, row_at w m rest n i 1 h e (omega arith), row_at w m rest n i 2 h e (omega arith), row_at w m rest n i 3 h e (omega arith))
      (alike-rows (place 0) (place 1) (place 2) ∙ sym (own_row w n passed i h))
    where
      kind : kind_at rows (rank m i) ≡ kind_at w i
      kind = word rows (4 * rank m i) (4 * rank m i + 0) (omega arith) ∙ row_at w m rest n i 0 h e (omega arith)

      place : (p : ℕ) → Alike (kind_at w i) (suc p) (field_by w m i (suc p)) (get_or l (field_by w m i (suc p)) 0) (field w i (suc p)) (sort_at w n (field w i (suc p)))
      place p = record {
        operand = λ q.
            let o = operand-of w n passed i p h q in
            rw (le-leb (suc p) (arity (kind_at w i)) q) (f (field w i (suc p)) o.earlier (eq-eqb _ 1 (kept.operands i _ h (eqb-true _ 1 e) o)));
        other = λ q. rw (lt-leb (suc p) (arity (kind_at w i)) q);
      }

  -- the sorts of the marked nodes below k
  sorts-to : (k : ℕ) → k ≤ n → (i : ℕ) → i < k → on m i ≡ true → get_or (sorts rows (rank m k)) (rank m i) 0 ≡ sort_at w n i
  sorts-to zero l i h e = absurd (omega arith)
  sorts-to (suc k) l i h e = go (on m k) refl (sorts-to k (omega arith))
    where
      go : (b : Bool) → on m k ≡ b → ((i : ℕ) → i < k → on m i ≡ true → get_or (sorts rows (rank m k)) (rank m i) 0 ≡ sort_at w n i)
          → get_or (sorts rows (rank m (suc k))) (rank m i) 0 ≡ sort_at w n i
      go true q f =
          let long = length-sorts rows (rank m k) in
          rw (rank-on m k q, sorts-suc rows (rank m k))
          (same? i k
          (λ z. rw (z, get_or_at (sorts rows (rank m k)) (row_sort rows (rank m k) (sorts rows (rank m k))) [] 0 (rank m k) long) (row-sort k _ l q f))
          (λ d. get_or-append (sorts rows (rank m k)) _ 0 (rank m i) (let x = rank_below m i k (omega arith) e in omega arith) ∙ f i (omega arith) e))
      go false q f = rw (rank-off m k q) (f i (same? i k (λ z. clash (sym q ∙ rw z at e)) (λ d. omega arith)) e)

  -- the rows of the marked nodes below k pass
  passes-to : (k : ℕ) → k ≤ n → Passes rows (rank m k)
  unfolding rank sorts first_fault
  passes-to zero l = refl
  passes-to (suc k) l = go (on m k) refl (passes-to k (omega arith))
    where
      go : (b : Bool) → on m k ≡ b → Passes rows (rank m k) → Passes rows (rank m (suc k))
      go true q f = rw (rank-on m k q) (passed-suc rows (rank m k) f (λ z. has-sort w n passed k l (sym (row-sort k _ l q (sorts-to k (omega arith))) ∙ z)))
      go false q f = rw (rank-off m k q) f

-- THE FORMULA PASSES, whatever follows it
pub passes : (w m rest : List ℕ) (n : ℕ) → check_of w n ≡ Ok tt → Kept w m n → check_of (compact w m n ++ rest) (rank m n) ≡ Ok tt
unfolding check_of room_of
passes w m rest n e kept =
    let c = passed-room w n e in
    let r = rank_most m n in
    let l : rank m n ≤ room_of (length (compact w m n ++ rest)) = rw (length-append, compact-long w m n) (omega arith) in
    rw (le-leb _ _ l) (passes-to w m rest n c.passes kept n (omega arith))
