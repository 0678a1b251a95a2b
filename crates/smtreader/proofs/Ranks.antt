-- How many nodes are there below a number, and how long their rows are.
use mathlib.Core.Path.{◌≡◌, refl, sym, ◌∙◌}
use mathlib.Core.Bool.{Bool, true, false, cond}
use mathlib.Core.List.{List, [], ◌∷◌, ◌++◌}
use Prim.Native.Nat.{ℕ, zero, suc, ◌+◌, ◌*◌, ◌≤◌, ◌<◌, min}
use native.Mathlib.Numerals.{add-one}
use native.Mathlib.Omega.{arith}
use native.Mathlib.Decide.{dec_lt}
use lib.ListN.{length, get_or, set, length-append, get_or-eq_default}
use Rattle.std.proofs.Common.{append-nil}
use lib.Seq.{sets, length-sets, get_or-set_same, get_or-set_other}
use Rattle.smtgrammar.specs.State.{Tables}
use borrow.Author.Tests.{leb-true}
use lib.Dec.{leb}
use Rattle.lists.proofs.Runs.{sets-append}
use Rattle.viable.specs.Grammar.{clash}
use Rattle.needs.specs.Needed.{arity}
use Rattle.smtreader.specs.Ranks.{Ranks, bare, by_rank, row_of, Fit, Written}
use Rattle.smtgrammar.specs.Rows.{there, rank_at, ranked, rows_below}
use Rattle.smtreader.specs.Padded.{pad, padded, get-pad, rows-past}
use Rattle.smtsound.specs.Nodes.{Node, Nodes}
use Rattle.smtsound.specs.Tables.{Is, same?}

one-most : (b : Bool) → cond b 1 0 ≤ 1
one-most true = omega arith
one-most false = omega arith

four : (b : Bool) (v w x y : ℕ) → length (cond b (v ∷ w ∷ x ∷ y ∷ []) []) ≡ 4 * cond b 1 0
four true v w x y = refl
four false v w x y = refl

module _ (t : Tables) where
  pub rank-next : (i : ℕ) → rank_at t (i + 1) ≡ rank_at t i + cond (there t i) 1 0
  unfolding rank_at
  rank-next i = rw add-one

  pub rank_most : (n : ℕ) → rank_at t n ≤ n
  unfolding rank_at
  rank_most zero = omega arith
  rank_most (suc n) = let h = rank_most n in let k = one-most (there t n) in omega arith

  pub rank_up : (i n : ℕ) → i ≤ n → rank_at t i ≤ rank_at t n
  unfolding rank_at
  rank_up i zero h = let e : i ≡ 0 = omega arith in rw e (omega arith)
  rank_up i (suc n) h = same? i (suc n) (λ e. rw e (omega arith)) (λ e. let k = rank_up i n (omega arith) in omega arith)

  pub rows_long : (n : ℕ) → length (rows_below t n) ≡ 4 * rank_at t n
  unfolding rows_below rank_at
  rows_long zero = refl
  rows_long (suc n) = rw (length-append, rows_long n, four) (omega arith)

-- one entry more of the ranks
pub rank-on : (t : Tables) (l : List ℕ) (i n : ℕ) → i < length l → n ≡ rank_at t i → ((j : ℕ) → j < i → get_or l j 0 ≡ rank_at t j)
    → (j : ℕ) → j < i + 1 → get_or (set l i n) j 0 ≡ rank_at t j
rank-on t l i n h e f j k = same? j i (λ z. rw (z, get_or-set_same l i n 0 h) e) (λ z. get_or-set_other l i j n 0 z ∙ f j (omega arith))

-- .. and how many there are behind it
pub rank-there : (t : Tables) (i n : ℕ) → n ≡ rank_at t i → there t i ≡ true → n + 1 ≡ rank_at t (i + 1)
rank-there t i n e k = rw (rank-next t i, k, e)

pub rank-past-one : (t : Tables) (i n : ℕ) → n ≡ rank_at t i → there t i ≡ false → n ≡ rank_at t (i + 1)
rank-past-one t i n e k = rw (rank-next t i, k, e) (omega arith)

-- the ranks go by the kinds alone
pub rank_same : (t u : Tables) → t.kinds ≡ u.kinds → (n : ℕ) → rank_at t n ≡ rank_at u n
unfolding rank_at
rank_same t u e zero = refl
rank_same t u e (suc n) = rw (rank_same t u e n, e)

module _ (t : Tables) (ranks : List ℕ) (long : ℕ) (r : Ranks t ranks) (f : Fit t (length ranks) long) where
  field_is : (j n v : ℕ) → (j ≤ n → v < length ranks) → by_rank ranks n j v ≡ cond (leb j n) (rank_at t v) v
  field_is j n v h = go (leb j n) refl
    where
      go : (b : Bool) → leb j n ≡ b → cond b (get_or ranks v 0) v ≡ cond b (rank_at t v) v
      go true e = r.at v (h (leb-true j n e))
      go false e = refl

  row_is : (i : ℕ) → cond (there t i) (row_of t ranks i) []
      ≡ cond (there t i) (get_or t.kinds i 0 ∷ ranked t i 1 (get_or t.field_a i 0) ∷ ranked t i 2 (get_or t.field_b i 0) ∷ ranked t i 3 (get_or t.field_c i 0) ∷ []) []
  unfolding row_of
  row_is i = go (there t i) refl
    where
      go : (b : Bool) → there t i ≡ b
          → cond b (get_or t.kinds i 0 ∷ by_rank ranks (arity (get_or t.kinds i 0)) 1 (get_or t.field_a i 0) ∷ by_rank ranks (arity (get_or t.kinds i 0)) 2 (get_or t.field_b i 0) ∷ by_rank ranks (arity (get_or t.kinds i 0)) 3 (get_or t.field_c i 0) ∷ []) []
          ≡ cond b (get_or t.kinds i 0 ∷ ranked t i 1 (get_or t.field_a i 0) ∷ ranked t i 2 (get_or t.field_b i 0) ∷ ranked t i 3 (get_or t.field_c i 0) ∷ []) []
      go false e = refl
      go true e =
          let is : Is t i = λ z. clash (rw z at e) in
          let n = arity (get_or t.kinds i 0) in
          rw (field_is 1 n (get_or t.field_a i 0) (f.one i is), field_is 2 n (get_or t.field_b i 0) (f.two i is), field_is 3 n (get_or t.field_c i 0) (f.three i is))

  rows_next : (i : ℕ) → rows_below t (i + 1) ≡ rows_below t i ++ cond (there t i) (row_of t ranks i) []
  unfolding rows_below
  rows_next i = rw (add-one, row_is i)

  module _ (l₀ l : List ℕ) (i at : ℕ) (e : l ≡ sets l₀ 0 (rows_below t i)) (g : at ≡ 4 * rank_at t i) where
    -- a row more, where the node is there
    pub write-on : there t i ≡ true → {l' : List ℕ} → l' ≡ sets l at (row_of t ranks i) → (l' ≡ sets l₀ 0 (rows_below t (i + 1))) × (at + 4 ≡ 4 * rank_at t (i + 1))
    write-on k f =
        let z : 0 + length (rows_below t i) ≡ at = let y = rows_long t i in omega arith in
        (f ∙ rw (rows_next i, k, sets-append l₀ (rows_below t i) (row_of t ranks i) 0, z, e), rw (rank-next t i, k) (omega arith))

    pub write-past : there t i ≡ false → (l ≡ sets l₀ 0 (rows_below t (i + 1))) × (at ≡ 4 * rank_at t (i + 1))
    write-past k = (rw (rows_next i, k, append-nil) e, rw (rank-next t i, k) (omega arith))

-- the next row has room
pub room-on : (t : Tables) (l₀ l : List ℕ) (i at m : ℕ) → Fit t m (length l₀) → i < 65535 → l ≡ sets l₀ 0 (rows_below t i) → at ≡ 4 * rank_at t i
    → there t i ≡ true → at + 4 ≤ length l
room-on t l₀ l i at m f h e g k =
    let x = rw k at (rank-next t i) in
    let y = rank_up t (i + 1) 65535 (omega arith) in
    let z = f.room in
    rw (e, length-sets l₀ 0 (rows_below t i)) (omega arith)

-- the rows of the numbers that have an entry are all rows
up_to : {A : Type 0} (f : ℕ → A) (n i : ℕ) → i ≡ min n 65535 → (n ≤ i → i ≤ 65535 → f 65535 ≡ f i) → f 65535 ≡ f i
up_to f n i e past = go (dec_lt n 65535)
  where
    go : Dec (n < 65535) → f 65535 ≡ f i
    go (yes h) = past (omega arith) (omega arith)
    go (no h) = let z : i ≡ 65535 = omega arith in rw z

pub written : (t : Tables) (l l' : List ℕ) (i : ℕ) → i ≡ min (length t.kinds) 65535 → l' ≡ sets l 0 (rows_below t i) → Written t l l'
written t l l' i e f = record { words = rw (up_to (rows_below t) (length t.kinds) i e (λ h. rows-past t i h 65535)) f }

-- what is not 0 is an entry
has-entry : (l : List ℕ) (i : ℕ) → (get_or l i 0 ≡ 0 → ⊥) → i < length l
has-entry l i h = go (dec_lt i (length l))
  where
    go : Dec (i < length l) → i < length l
    go (yes k) = k
    go (no k) = absurd (let z : length l ≤ i = omega arith in h (get_or-eq_default l 0 z))

-- .. and they are enough
pub rows_same : (t : Tables) (n : ℕ) → rows_below (bare t) n ≡ rows_below t n
unfolding rows_below
rows_same t zero = refl
rows_same t (suc n) =
    let e = rank_same (bare t) t refl in
    rw (rows_same t n, e (get_or t.field_a n 0), e (get_or t.field_b n 0), e (get_or t.field_c n 0))

-- columns that stand for the tables of a sound state fit where there is room
module _ (t : Tables) {part top owed : ℕ} (h : Nodes (padded t) part top owed) where
  node : (i : ℕ) → Is t i → Node (padded t) i
  node i is = h.nodes i (λ z. is (sym (get-pad t.kinds i) ∙ z))

  some : (i k : ℕ) → k ≤ arity (get_or t.kinds i 0) → k ≤ arity (get_or (pad t.kinds) i 0)
  some i k a = rw (get-pad t.kinds i) a

  low : (l : List ℕ) (i : ℕ) → Is t i → get_or (pad l) i 0 < i → get_or l i 0 < length t.kinds
  low l i is b = let e = get-pad l i in let j = has-entry t.kinds i is in omega arith

  pub fit_of : (long : ℕ) → 4 * rank_at t 65535 ≤ long → Fit (bare t) (length t.kinds) long
  fit_of long r = record {
    room = rw (rank_same (bare t) t refl 65535) r;
    one = λ i is k. low t.field_a i is ((node i is).row.one (some i 1 k)).below;
    two = λ i is k. low t.field_b i is ((node i is).row.two (some i 2 k)).below;
    three = λ i is k. low t.field_c i is ((node i is).row.three (some i 3 k)).below;
  }
