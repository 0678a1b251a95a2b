-- Families of which each text is told by its first bytes: one computed test of all pairs.
use Rattle.std.specs.Prelude.{◌≡◌, refl, Bool, true, false, cond, not, ◌&&◌, ◌||◌, List, [], ◌∷◌, ◌++◌, ℕ, zero, suc, ◌<◌, ltb, eqb, length}
use Rattle.std.proofs.Common.{ap, arith, ltb-true, ltb-false, eqb-true, length-append}
use Rattle.viable.specs.Grammar.{clash}
use Rattle.viable.specs.Family.{common}
use Rattle.smtlive.specs.Tests.{and_left, and_right}

infixl 10 ◌▸◌
-- something of each number below n, the last one last
pub data Each (P : ℕ → Type 0) : ℕ → Type 0 where
  none : Each P 0
  ◌▸◌ : {n : ℕ} → Each P n → P n → Each P (suc n)

pub each : (P : ℕ → Type 0) (n : ℕ) → Each P n → (i : ℕ) → i < n → P i
each P n none i h = absurd (omega arith)
each P n (◌▸◌ {n = m} e p) i h = go (each P m e i) (ltb i m) refl
  where
    go : (i < m → P i) → (t : Bool) → ltb i m ≡ t → P i
    go f true q = f (ltb-true i m q)
    go f false q = let z : i ≡ m = (let b = ltb-false i m q in omega arith) in rw z p

-- the test holds of all numbers below n
unfoldable pub every : ℕ → (ℕ → Bool) → Bool
every zero ok = true
every (suc n) ok = ok n && every n ok

every-at : (n : ℕ) (ok : ℕ → Bool) → every n ok ≡ true → (i : ℕ) → i < n → ok i ≡ true
unfolding every
every-at zero ok e i h = absurd (omega arith)
every-at (suc n) ok e i h = go (every-at n ok (and_right (ok n) (every n ok) e) i) (ltb i n) refl
  where
    go : (i < n → ok i ≡ true) → (t : Bool) → ltb i n ≡ t → ok i ≡ true
    go f true p = f (ltb-true i n p)
    go f false p = let z : i ≡ n = (let b = ltb-false i n p in omega arith) in rw z (and_left (ok n) (every n ok) e)

-- neither begins the other one
unfoldable pub parted : List ℕ → List ℕ → Bool
parted x y = ltb (common x y) (length x) && ltb (common x y) (length y)

-- .. so nothing behind them changes how much they share
parted-common : (x y u v : List ℕ) → common x y < length x → common x y < length y → common (x ++ u) (y ++ v) ≡ common x y
unfolding common
parted-common [] y u v h k = absurd (omega arith)
parted-common (a ∷ x) [] u v h k = absurd (omega arith)
parted-common (a ∷ x) (b ∷ y) u v h k = go (eqb a b) h k (parted-common x y u v)
  where
    go : (t : Bool) → cond t (suc (common x y)) 0 < suc (length x) → cond t (suc (common x y)) 0 < suc (length y)
        → (common x y < length x → common x y < length y → common (x ++ u) (y ++ v) ≡ common x y)
        → cond t (suc (common (x ++ u) (y ++ v))) 0 ≡ cond t (suc (common x y)) 0
    go true h k f = ap suc (f (omega arith) (omega arith))
    go false h k f = refl

parted-never : (x y u v : List ℕ) → parted x y ≡ true → common (x ++ u) (y ++ v) ≡ length (x ++ u) → ⊥
unfolding parted
parted-never x y u v p e =
    let h = ltb-true (common x y) (length x) (and_left (ltb (common x y) (length x)) _ p) in
    let k = ltb-true (common x y) (length y) (and_right (ltb (common x y) (length x)) _ p) in
    let z = parted-common x y u v h k in
    let l = length-append x u in
    omega arith

-- all of n heads that are used are parted
unfoldable pub Heads : ℕ → (ℕ → Bool) → (ℕ → List ℕ) → Bool
Heads n used head = every n (λ i. every n (λ j. not (used i && used j) || (eqb i j || parted (head i) (head j))))

pub heads-differ : (n : ℕ) (used : ℕ → Bool) (head : ℕ → List ℕ) → Heads n used head ≡ true
    → (i j : ℕ) (u v : List ℕ) → i < n → j < n → used i ≡ true → used j ≡ true
    → common (head i ++ u) (head j ++ v) ≡ length (head i ++ u) → i ≡ j
unfolding Heads
heads-differ n used head e i j u v h k p q w =
    let row = every-at n (λ i. every n (λ j. not (used i && used j) || (eqb i j || parted (head i) (head j)))) e i h in
    let cell = every-at n (λ j. not (used i && used j) || (eqb i j || parted (head i) (head j))) row j k in
    go (used i) (used j) (eqb i j) p q refl cell
  where
    go : (s t r : Bool) → s ≡ true → t ≡ true → eqb i j ≡ r → (not (s && t) || (r || parted (head i) (head j))) ≡ true → i ≡ j
    go false t r a b c d = clash a
    go true false r a b c d = clash b
    go true true true a b c d = eqb-true i j c
    go true true false a b c d = absurd (parted-never (head i) (head j) u v d w)
