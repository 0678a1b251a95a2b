-- The marks of the pass are exactly what the root needs.
use Rattle.std.specs.Prelude.{◌≡◌, Bool, cond, length, set, replicate}
use Rattle.std.proofs.Math.Path.{refl, sym}
use Rattle.std.proofs.Common.{ap, ◌∙◌, add-one, length-set, get_or-set_same, get_or-set_other}
use Rattle.std.proofs.Math.Bool.{true, false}
use mathlib.Core.List.{List, [], ◌∷◌}
use Prim.Native.Nat.{ℕ, zero, suc, ◌+◌, ◌*◌, ◌≤◌, ◌<◌}
use native.Mathlib.Omega.{arith}
use borrow.Author.Tests.{eqb-true, eqb-false, leb-true, ltb-true, ltb-false, le-leb, lt-ltb, eq-eqb}
use Rattle.std.proofs.Math.Dec.{leb, ltb, eqb}
use Rattle.std.proofs.Math.ListN.{get_or}
use Rattle.std.proofs.lemmas.List.{length-replicate}
use Rattle.words.specs.Tests.{same_test}
use Rattle.needs.specs.Needed.{arity, Operand, Needed, root, of, marked, spread, pass, marks}

either : (t : Bool) (a b : ℕ) → a ≤ 3 → b ≤ 3 → cond t a b ≤ 3
either true a b h k = h
either false a b h k = k

-- no kind has more than three operands
pub arity-most : (k : ℕ) → arity k ≤ 3
unfolding arity
arity-most k =
    either (leb k 6) 0 _ (omega arith)
    (either (eqb k 13) 3 _ (omega arith)
    (either (leb k 11) 2 _ (omega arith)
    (either (eqb k 12) 1 _ (omega arith)
    (either (eqb k 14) 1 _ (omega arith)
    (either (leb k 21) 2 _ (omega arith)
    (either (leb k 29) 1 0 (omega arith) (omega arith)))))))

-- a word of the list, by its place
pub word : (w : List ℕ) (i j : ℕ) → i ≡ j → get_or w i 0 ≡ get_or w j 0
word w i j e = ap (λ (n : ℕ). get_or w n 0) e

-- entry i of the column m is marked
abbrev pub On : List ℕ → ℕ → Type 0
On m i = get_or m i 0 ≡ 1

-- what is marked is inside
inside : (m : List ℕ) (i : ℕ) → On m i → i < length m
inside [] zero e = absurd (omega arith)
inside [] (suc i) e = absurd (omega arith)
inside (b ∷ m) zero e = omega arith
inside (b ∷ m) (suc i) e = let h = inside m i e in omega arith

-- a new mark leaves the marks that there are, and what else is marked afterwards was before
set-stays : (m : List ℕ) (a j : ℕ) → On m j → On (set m a 1) j
set-stays m a j h = go (eqb j a) refl
  where
    go : (t : Bool) → eqb j a ≡ t → On (set m a 1) j
    go true e = let q = eqb-true j a e in rw (← q) (get_or-set_same m j 1 0 (inside m j h))
    go false e = get_or-set_other m a j 1 0 (eqb-false j a e) ∙ h

set-was : (P : ℕ → Type 0) (m : List ℕ) (a : ℕ) → P a → ((j : ℕ) → On m j → P j) → (j : ℕ) → On (set m a 1) j → P j
set-was P m a p f j h = go (eqb j a) refl
  where
    go : (t : Bool) → eqb j a ≡ t → P j
    go true e = rw (eqb-true j a e) p
    go false e = f j (sym (get_or-set_other m a j 1 0 (eqb-false j a e)) ∙ h)

set-bits : (m : List ℕ) (a : ℕ) → ((j : ℕ) → get_or m j 0 ≤ 1) → (j : ℕ) → get_or (set m a 1) j 0 ≤ 1
set-bits [] a f j = f j
set-bits (b ∷ m) zero f zero = omega arith
set-bits (b ∷ m) zero f (suc j) = f (suc j)
set-bits (b ∷ m) (suc a) f zero = f 0
set-bits (b ∷ m) (suc a) f (suc j) = set-bits m a (λ i. f (suc i)) j

-- node n is still marked, and the column still such
record Still (Q : List ℕ → Type 0) (n : ℕ) (m : List ℕ) : Type 0 where
  on : On m n
  is : Q m

module _ (w : List ℕ) where
  -- marking an operand of the marked node n keeps Q
  abbrev pub Keeps : (List ℕ → Type 0) → ℕ → Type 0
  Keeps Q n = (m : List ℕ) (a : ℕ) → On m n → Operand w n a → Q m → Q (set m a 1)

  -- .. and so keep it the marking of one of the operands, of all of them, and the pass
  one-keeps : (Q : List ℕ → Type 0) (n p v : ℕ) (m : List ℕ) → v ≡ get_or w (4 * n + 1 + p) 0 → Keeps Q n → Still Q n m
      → Still Q n (marked n (leb (suc p) (arity (get_or w (4 * n) 0))) v m)
  unfolding marked
  one-keeps Q n p v m e k q = go (leb (suc p) (arity (get_or w (4 * n) 0))) (ltb v n) refl refl
    where
      go : (s t : Bool) → leb (suc p) (arity (get_or w (4 * n) 0)) ≡ s → ltb v n ≡ t → Still Q n (cond s (cond t (set m v 1) m) m)
      go true true f g =
          let h = ltb-true v n g in
          let o : Operand w n v = record { place = p; has = leb-true (suc p) (arity (get_or w (4 * n) 0)) f; is = e; earlier = h } in
          record { on = set-stays m v n q.on; is = k m v q.on o q.is }
      go true false f g = q
      go false t f g = q

  pub step_keeps : (Q : List ℕ → Type 0) (n : ℕ) (m : List ℕ) → Keeps Q n → Q m → Q (spread w n m)
  unfolding spread
  step_keeps Q n m k q = go (eqb (get_or m n 0) 1) refl
    where
      go : (t : Bool) → eqb (get_or m n 0) 1 ≡ t
          → Q (cond t
          (marked n (leb 3 (arity (get_or w (4 * n) 0))) (get_or w (4 * n + 3) 0)
          (marked n (leb 2 (arity (get_or w (4 * n) 0))) (get_or w (4 * n + 2) 0)
          (marked n (leb 1 (arity (get_or w (4 * n) 0))) (get_or w (4 * n + 1) 0) m)))
          m)
      go true e =
          (one-keeps Q n 2 (get_or w (4 * n + 3) 0) _ (word w _ _ (omega arith)) k
          (one-keeps Q n 1 (get_or w (4 * n + 2) 0) _ (word w _ _ (omega arith)) k
          (one-keeps Q n 0 (get_or w (4 * n + 1) 0) m (word w _ _ (omega arith)) k (record { on = eqb-true (get_or m n 0) 1 e; is = q })))
          ).is
      go false e = q

  pub pass-keeps : (Q : List ℕ → Type 0) (k : ℕ) (m : List ℕ) → ((n : ℕ) → n < k → Keeps Q n) → Q m → Q (pass w k m)
  unfolding pass
  pass-keeps Q zero m f q = q
  pass-keeps Q (suc k) m f q = pass-keeps Q k (spread w k m) (λ n h. f n (omega arith)) (step_keeps Q k m (f k (omega arith)) q)

  pub length-spread : (n : ℕ) (m : List ℕ) → length (spread w n m) ≡ length m
  length-spread n m = step_keeps (λ l. length l ≡ length m) n m (λ l a on o e. length-set l a 1 ∙ e) refl

  -- a turn of the pass, and the last one
  pub turn : (i : ℕ) (m m' : List ℕ) → m' ≡ spread w i m → pass w i m' ≡ pass w (i + 1) m
  unfolding pass
  turn i m m' e = rw (e, add-one i)

  pub last : (i : ℕ) (m m' : List ℕ) → i ≡ 0 → m' ≡ spread w i m → m' ≡ pass w (i + 1) m
  unfolding pass
  last zero m m' z e = e
  last (suc i) m m' z e = absurd (omega arith)

  -- marks stay
  stays : (k : ℕ) (m : List ℕ) (j : ℕ) → On m j → On (pass w k m) j
  stays k m j h = pass-keeps (λ l. On l j) k m (λ n b l a on o q. set-stays l a j q) h

  -- a node's step, and the pass over the nodes below k, leave the entries from there on
  later : (m : List ℕ) (n j : ℕ) → n ≤ j → Keeps (λ l. get_or l j 0 ≡ get_or m j 0) n
  later m n j h l a on o q = get_or-set_other l a j 1 0 (λ z. let e = o.earlier in omega arith) ∙ q

  step-above : (n : ℕ) (m : List ℕ) → get_or (spread w n m) n 0 ≡ get_or m n 0
  step-above n m = step_keeps (λ l. get_or l n 0 ≡ get_or m n 0) n m (later m n n (omega arith)) refl

  above : (k : ℕ) (m : List ℕ) (j : ℕ) → k ≤ j → get_or (pass w k m) j 0 ≡ get_or m j 0
  above k m j h = pass-keeps (λ l. get_or l j 0 ≡ get_or m j 0) k m (λ n b. later m n j (omega arith)) refl

  -- a marked node's operand is marked by its step
  one-puts : (n p v : ℕ) (m : List ℕ) → On m n → p < arity (get_or w (4 * n) 0) → v < n → On (marked n (leb (suc p) (arity (get_or w (4 * n) 0))) v m) v
  unfolding marked
  one-puts n p v m on h l =
      rw (le-leb (suc p) (arity (get_or w (4 * n) 0)) (omega arith), lt-ltb v n l)
      (get_or-set_same m v 1 0 (let b = inside m n on in omega arith))

  step-puts : (n : ℕ) (m : List ℕ) (a : ℕ) → On m n → Operand w n a → On (spread w n m) a
  unfolding spread
  step-puts n m a on o = rw (eq-eqb (get_or m n 0) 1 on) (go o.place o.has o.is)
    where
      still : (p v : ℕ) (l : List ℕ) (j : ℕ) → v ≡ get_or w (4 * n + 1 + p) 0 → On l n → On l j
          → Still (λ l. On l j) n (marked n (leb (suc p) (arity (get_or w (4 * n) 0))) v l)
      still p v l j e on q = one-keeps (λ l. On l j) n p v l e (λ l a on o q. set-stays l a j q) (record { on = on; is = q })

      put : (p v : ℕ) (l : List ℕ) → v ≡ get_or w (4 * n + 1 + p) 0 → On l n → p < arity (get_or w (4 * n) 0) → a ≡ get_or w (4 * n + 1 + p) 0
          → On (marked n (leb (suc p) (arity (get_or w (4 * n) 0))) v l) a
      put p v l e on h q = let z : v ≡ a = e ∙ sym q in rw z (one-puts n p a l on h o.earlier)

      w₁ : get_or w (4 * n + 1) 0 ≡ get_or w (4 * n + 1 + 0) 0
      w₁ = word w _ _ (omega arith)

      w₂ : get_or w (4 * n + 2) 0 ≡ get_or w (4 * n + 1 + 1) 0
      w₂ = word w _ _ (omega arith)

      w₃ : get_or w (4 * n + 3) 0 ≡ get_or w (4 * n + 1 + 2) 0
      w₃ = word w _ _ (omega arith)

      first : List ℕ
      first = marked n (leb 1 (arity (get_or w (4 * n) 0))) (get_or w (4 * n + 1) 0) m

      second : List ℕ
      second = marked n (leb 2 (arity (get_or w (4 * n) 0))) (get_or w (4 * n + 2) 0) first

      on₁ : On first n
      on₁ = (still 0 _ m n w₁ on on).on

      on₂ : On second n
      on₂ = (still 1 _ first n w₂ on₁ on₁).on

      go : (p : ℕ) → p < arity (get_or w (4 * n) 0) → a ≡ get_or w (4 * n + 1 + p) 0
          → On (marked n (leb 3 (arity (get_or w (4 * n) 0))) (get_or w (4 * n + 3) 0) second) a
      go zero h e = (still 2 _ second a w₃ on₂ (still 1 _ first a w₂ on₁ (put 0 _ m w₁ on h e)).is).is
      go (suc zero) h e = (still 2 _ second a w₃ on₂ (put 1 _ first w₂ on₁ h e)).is
      go (suc (suc zero)) h e = put 2 _ second w₃ on₂ h e
      go (suc (suc (suc p))) h e = absurd (omega (arith, arity-most (get_or w (4 * n) 0)))

  -- after the pass each operand of a marked node is marked
  closed : (k : ℕ) (m : List ℕ) (i a : ℕ) → i < k → On (pass w k m) i → Operand w i a → On (pass w k m) a
  unfolding pass
  closed zero m i a l on o = absurd (omega arith)
  closed (suc k) m i a l on o = go (ltb i k) refl (closed k (spread w k m) i a)
    where
      last : i ≡ k → On (pass w k (spread w k m)) a
      last e =
          let q : On m k = sym (step-above k m) ∙ sym (above k (spread w k m) k (omega arith)) ∙ (rw e at on) in
          stays k (spread w k m) a (step-puts k m a q (rw e at o))

      go : (t : Bool) → ltb i k ≡ t → (i < k → On (pass w k (spread w k m)) i → Operand w i a → On (pass w k (spread w k m)) a) → On (pass w k (spread w k m)) a
      go true e f = f (ltb-true i k e) on o
      go false e f = last (let b = ltb-false i k e in omega arith)

  -- FROM A CLEAR COLUMN EXACTLY WHAT THE ROOT NEEDS IS MARKED: only that, and all of it; nothing that is needed is later than the root
  pub only : (r : ℕ) (m : List ℕ) → ((j : ℕ) → get_or m j 0 ≡ 0) → (i : ℕ) → On (pass w (suc r) (set m r 1)) i → Needed w r i
  only r m clear =
      pass-keeps (λ l. (j : ℕ) → On l j → Needed w r j) (suc r) (set m r 1)
      (λ n b l a on o q. set-was (Needed w r) l a (of (q n on) o) q)
      (set-was (Needed w r) m r root (λ j on. absurd (let e = clear j in omega arith)))

  pub none-later : (r i : ℕ) → Needed w r i → i ≤ r
  none-later r i root = omega arith
  none-later r i (of x o) = let h = none-later r _ x in let l = o.earlier in omega arith

  pub all : (r : ℕ) (m : List ℕ) → r < length m → (i : ℕ) → Needed w r i → On (pass w (suc r) (set m r 1)) i
  all r m h i root = stays (suc r) (set m r 1) r (get_or-set_same m r 1 0 h)
  all r m h i (of {n = n} x o) = closed (suc r) (set m r 1) n i (let b = none-later r n x in omega arith) (all r m h n x) o

-- a clear column has no mark
pub clear : (n i : ℕ) → ◌≡◌ {A = ℕ} (get_or (replicate n 0) i 0) 0
clear zero i = refl
clear (suc n) zero = refl
clear (suc n) (suc i) = clear n i

module _ (w : List ℕ) (r : ℕ) where
  -- the marks of a root are exactly what it needs
  pub marks-needed : (i : ℕ) → (On (marks w r) i → Needed w r i) × (Needed w r i → On (marks w r) i)
  unfolding marks
  marks-needed i = (only w r (replicate (suc r) 0) (clear (suc r)) i, all w r (replicate (suc r) 0) (rw (length-replicate {A = ℕ} (suc r) 0) (omega arith)) i)

  -- any clear column that has an entry for the root gets these marks
  pub same-marks : (m : List ℕ) → ((j : ℕ) → get_or m j 0 ≡ 0) → r < length m → (i : ℕ)
      → eqb (get_or (pass w (suc r) (set m r 1)) i 0) 1 ≡ eqb (get_or (marks w r) i 0) 1
  same-marks m zeros h i =
      same_test _ _
      (λ e. eq-eqb _ 1 ((marks-needed i).1 (only w r m zeros i (eqb-true _ 1 e))))
      (λ e. eq-eqb _ 1 (all w r m h i ((marks-needed i).0 (eqb-true _ 1 e))))

  -- the root is marked, and each operand of a marked node is
  pub root-marked : On (marks w r) r
  root-marked = (marks-needed r).1 root

  pub kept : (n a : ℕ) → On (marks w r) n → Operand w n a → On (marks w r) a
  kept n a on o = (marks-needed a).1 (of ((marks-needed n).0 on) o)

  -- an entry is 0 or 1
  pub marks-bits : (i : ℕ) → get_or (marks w r) i 0 ≤ 1
  unfolding marks
  marks-bits =
      pass-keeps w (λ l. (j : ℕ) → get_or l j 0 ≤ 1) (suc r) _ (λ n b l a on o q. set-bits l a q)
      (set-bits (replicate (suc r) 0) r (λ j. let e = clear (suc r) j in omega arith))
