-- How many nodes are there.
use Rattle.std.specs.Prelude.{◌≡◌, refl, Bool, true, false, cond, List, ℕ, zero, suc, ◌+◌, ◌≤◌, ◌<◌, ltb, eqb}
use Rattle.std.proofs.Common.{sym, ◌∙◌, arith, eqb-true, lt-ltb, le-ltb, ltb-true}
use Rattle.std.proofs.lemmas.Bool.{eqb-false}
use Rattle.words.specs.Tests.{same_test}
use Rattle.smttext.specs.Text.{on}
use Rattle.smttext.specs.Subset.{rank}
use Rattle.smtcomplete.specs.Holds.{Adds}

-- one more number below the next one
pub ltb-step : (i j : ℕ) → (j ≡ i → ⊥) → ltb j (suc i) ≡ ltb j i
ltb-step i j h =
    same_test _ _
    (λ e. lt-ltb j i (let q = ltb-true j (suc i) e in omega arith))
    (λ e. lt-ltb j (suc i) (let q = ltb-true j i e in omega arith))

-- how many numbers below k pass the test
unfoldable pub tally : (ℕ → Bool) → ℕ → ℕ
tally P zero = 0
tally P (suc k) = tally P k + cond (P k) 1 0

pub tally-same : (P Q : ℕ → Bool) → ((j : ℕ) → Q j ≡ P j) → (k : ℕ) → tally P k ≡ tally Q k
unfolding tally
tally-same P Q e zero = refl
tally-same P Q e (suc k) = rw (tally-same P Q e k, e k)

pub tally-none : (P : ℕ → Bool) → ((j : ℕ) → P j ≡ false) → (k : ℕ) → tally P k ≡ 0
unfolding tally
tally-none P e zero = refl
tally-none P e (suc k) = rw (tally-none P e k, e k)

-- one more with a node that comes
up_to : (P Q : ℕ → Bool) (i : ℕ) → Adds P Q i → P i ≡ false → (k : ℕ) → tally Q k ≡ tally P k + cond (ltb i k) 1 0
unfolding tally
up_to P Q i a e zero = rw (le-ltb i 0 (omega arith))
up_to P Q i a e (suc k) = go (eqb k i) refl (up_to P Q i a e k)
  where
    go : (b : Bool) → eqb k i ≡ b → tally Q k ≡ tally P k + cond (ltb i k) 1 0
        → tally Q k + cond (Q k) 1 0 ≡ (tally P k + cond (P k) 1 0) + cond (ltb i (suc k)) 1 0
    go true z f =
        let q = eqb-true k i z in
        rw (f, q, a.new, e, le-ltb i i (omega arith), lt-ltb i (suc i) (omega arith)) (omega arith)
    go false z f =
        let q = eqb-false k i z in
        let l : ltb i (suc k) ≡ ltb i k = ltb-step k i (λ y. q (sym y)) in
        rw (f, a.old k q, l) (omega arith)

pub tally-adds : (P Q : ℕ → Bool) (i : ℕ) → Adds P Q i → P i ≡ false → (k : ℕ) → i < k → tally Q k ≡ tally P k + 1
tally-adds P Q i a e k h = up_to P Q i a e k ∙ rw (lt-ltb i k h)

-- at least one where one is there
pub tally-some : (P : ℕ → Bool) (j : ℕ) → P j ≡ true → (k : ℕ) → j < k → 1 ≤ tally P k
unfolding tally
tally-some P j e zero h = absurd (omega arith)
tally-some P j e (suc k) h = go (eqb j k) refl (tally-some P j e k)
  where
    go : (b : Bool) → eqb j k ≡ b → (j < k → 1 ≤ tally P k) → 1 ≤ tally P k + cond (P k) 1 0
    go true z f = rw (← eqb-true j k z, e) (omega arith)
    go false z f = let l = f (let q = eqb-false j k z in omega arith) in omega arith

-- as many as are marked
pub tally-rank : (P : ℕ → Bool) (m : List ℕ) (k : ℕ) → ((j : ℕ) → j < k → P j ≡ on m j) → tally P k ≡ rank m k
unfolding tally rank
tally-rank P m zero e = refl
tally-rank P m (suc k) e = rw (tally-rank P m k (λ j h. e j (omega arith)), e k (omega arith))
