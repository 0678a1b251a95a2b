-- One of a family of texts: a keyword, a name, a number of a set. Where none begins the bytes, the place is the end of the longest beginning that they share with one.
use Rattle.std.specs.Prelude.{◌≡◌, Bool, cond, not, ◌&&◌, List, [], ◌∷◌, ◌++◌, ◌⊎◌, eqb, ltb, length, take, drop}
use Rattle.std.proofs.Math.Path.{refl}
use Rattle.std.proofs.Common.{sym, ap, ◌∙◌, inl, inr, ⊎_elim, take-append-drop}
use Rattle.std.proofs.Math.Bool.{true, false}
use Prim.Native.Nat.{ℕ, zero, suc, ◌≤◌, ◌<◌}
use native.Mathlib.Omega.{arith}
use borrow.Author.Tests.{eqb-true, eqb-false, eq-eqb, leb-true, leb-false, ltb-true, ltb-false}
use Rattle.std.proofs.Math.Dec.{leb}
use Rattle.viable.specs.Grammar.{Some, Apart, Got, Bad, clash, fewer}

-- how many first bytes two texts share
unfoldable pub common : List ℕ → List ℕ → ℕ
common [] y = 0
common (a ∷ x) [] = 0
common (a ∷ x) (b ∷ y) = cond (eqb a b) (suc (common x y)) 0

-- the two cases of a first byte
by_first : (P : ℕ → Type 0) (a b : ℕ) (x y : List ℕ) → (a ≡ b → P (suc (common x y))) → ((a ≡ b → ⊥) → P 0) → P (common (a ∷ x) (b ∷ y))
unfolding common
by_first P a b x y f g = go (eqb a b) refl
  where
    go : (t : Bool) → eqb a b ≡ t → P (cond t (suc (common x y)) 0)
    go true e = f (eqb-true a b e)
    go false e = g (eqb-false a b e)

pub common-left : (x y : List ℕ) → common x y ≤ length x
unfolding common
common-left [] y = omega arith
common-left (a ∷ x) [] = omega arith
common-left (a ∷ x) (b ∷ y) =
    by_first (λ n. n ≤ suc (length x)) a b x y (λ _. let h = common-left x y in omega arith) (λ _. omega arith)

pub common-right : (x y : List ℕ) → common x y ≤ length y
unfolding common
common-right [] y = omega arith
common-right (a ∷ x) [] = omega arith
common-right (a ∷ x) (b ∷ y) =
    by_first (λ n. n ≤ suc (length y)) a b x y (λ _. let h = common-right x y in omega arith) (λ _. omega arith)

pub common-same : (x y : List ℕ) → take (common x y) x ≡ take (common x y) y
unfolding common
common-same [] y = refl
common-same (a ∷ x) [] = refl
common-same (a ∷ x) (b ∷ y) =
    by_first (λ n. take n (a ∷ x) ≡ take n (b ∷ y)) a b x y (λ e. rw (e, common-same x y)) (λ _. refl)

-- where they part, nothing that begins with x agrees with y any further
pub parts : (x y v : List ℕ) (k : ℕ) → common x y < length x → common x y ≤ k → take (suc k) (x ++ v) ≡ take (suc k) y → ⊥
unfolding common
parts [] y v k h l e = omega arith
parts (a ∷ x) [] v k h l e = omega (arith, ap length e)
parts (a ∷ x) (b ∷ y) v zero h l e =
    by_first (λ n. n ≤ 0 → ⊥) a b x y (λ _ l. omega arith) (λ q _. q (cc)) l
parts (a ∷ x) (b ∷ y) v (suc k) h l e =
    by_first (λ n. n < suc (length x) → n ≤ suc k → ⊥) a b x y
    (λ _ h l. parts x y v k (omega arith) (omega arith) (cc))
    (λ q _ _. q (cc))
    h l

-- all of x is there
pub begins : (x y : List ℕ) → common x y ≡ length x → y ≡ x ++ drop (length x) y
unfolding common
begins [] y e = refl
begins (a ∷ x) [] e = absurd (omega arith)
begins (a ∷ x) (b ∷ y) e =
    by_first (λ n. n ≡ suc (length x) → b ∷ y ≡ a ∷ (x ++ drop (length x) y)) a b x y
    (λ q e. rw q (ap (λ (z : List ℕ). b ∷ z) (begins x y (omega arith))))
    (λ _ e. absurd (omega arith))
    e

-- where x and what begins with y agree, one of the two begins the other
agrees : (x y v : List ℕ) → take (length x) (y ++ v) ≡ x → (common x y ≡ length x) ⊎ (common y x ≡ length y)
unfolding common
agrees [] y v e = inl refl
agrees (a ∷ x) [] v e = inr refl
agrees (a ∷ x) (b ∷ y) v e =
    let q : a ≡ b = cc in
    ⊎_elim
    (λ h. inl (by_first (λ n. n ≡ suc (length x)) a b x y (λ _. ap suc h) (λ z. absurd (z q))))
    (λ h. inr (by_first (λ n. n ≡ suc (length y)) b a y x (λ _. ap suc h) (λ z. absurd (z (sym q)))))
    (agrees x y v (cc))

-- the family of the texts of the numbers below n that pass the test: t is the text of number i
pub record Member (n : ℕ) (ok : ℕ → Bool) (text : ℕ → List ℕ) (t : List ℕ) (i : ℕ) : Type 0 where
  pub below : i < n
  pub allowed : ok i ≡ true
  pub is : t ≡ text i

-- the longest beginning that a text of the family shares with x
unfoldable pub furthest : ℕ → (ℕ → Bool) → (ℕ → List ℕ) → List ℕ → ℕ
furthest zero ok text x = 0
furthest (suc n) ok text x =
    cond (ok n && leb (furthest n ok text x) (common (text n) x)) (common (text n) x) (furthest n ok text x)

module _ (ok : ℕ → Bool) (text : ℕ → List ℕ) (x : List ℕ) where
  -- the two cases of the last text: it shares the most, or it does not count
  by_last : (P : ℕ → Type 0) (n : ℕ)
      → (ok n ≡ true → furthest n ok text x ≤ common (text n) x → P (common (text n) x))
      → ((ok n ≡ true → common (text n) x < furthest n ok text x) → P (furthest n ok text x))
      → P (furthest (suc n) ok text x)
  unfolding furthest
  by_last P n f g = go (ok n) (leb (furthest n ok text x) (common (text n) x)) refl refl
    where
      go : (s t : Bool) → ok n ≡ s → leb (furthest n ok text x) (common (text n) x) ≡ t
          → P (cond (s && t) (common (text n) x) (furthest n ok text x))
      go true true p q = f p (leb-true _ _ q)
      go true false p q = g (λ _. leb-false (furthest n ok text x) (common (text n) x) q)
      go false t p q = g (λ h. clash (sym p ∙ h))

  -- no text of the family shares more
  most : (n i : ℕ) → i < n → ok i ≡ true → common (text i) x ≤ furthest n ok text x
  most zero i h a = absurd (omega arith)
  most (suc n) i h a = go (most n i) (ltb i n) refl
    where
      go : (i < n → ok i ≡ true → common (text i) x ≤ furthest n ok text x) → (t : Bool) → ltb i n ≡ t → common (text i) x ≤ furthest (suc n) ok text x
      go on true e =
          let b = on (ltb-true i n e) a in
          by_last (λ m. common (text i) x ≤ m) n (λ _ q. omega arith) (λ _. b)
      go on false e =
          let q : i ≡ n = (let b = ltb-false i n e in omega arith) in
          rw q (by_last (λ m. common (text n) x ≤ m) n (λ _ _. omega arith) (λ f. let b = f (rw q at a) in omega arith))

  -- and one shares as much, if that is anything
  record Shares (n m : ℕ) : Type 0 where
    at : ℕ
    below : at < n
    allowed : ok at ≡ true
    far : m ≤ common (text at) x

  reached : (n : ℕ) → 0 < furthest n ok text x → Shares n (furthest n ok text x)
  unfolding furthest
  reached zero h = absurd (omega arith)
  reached (suc n) h =
      by_last (λ m. 0 < m → Shares (suc n) m) n
      (λ a _ _. record { at = n; below = omega arith; allowed = a; far = omega arith })
      (λ _ h. let r = reached n h in record { at = r.at; below = (let b = r.below in omega arith); allowed = r.allowed; far = r.far })
      h

module _ (n : ℕ) (ok : ℕ → Bool) (text : ℕ → List ℕ) where
  -- where no text of the family is there as a whole, this is the place
  pub family-stops : (x : List ℕ) → Some (Member n ok text) → ((i : ℕ) → i < n → ok i ≡ true → common (text i) x < length (text i))
      → Bad (Member n ok text) x (furthest n ok text x)
  family-stops x s none = go (furthest n ok text x) refl
    where
      can : (i : ℕ) → i < n → ok i ≡ true → (p : ℕ) → p ≤ common (text i) x → p ≡ furthest n ok text x → Bad (Member n ok text) x p
      can i h a p l f =
          let e : take p x ≡ take p (text i) = sym (fewer p (common (text i) x) (text i) x l (common-same (text i) x)) in
          record {
            within = omega (arith, common-right (text i) x);
            more = drop p (text i);
            value = i;
            can = record { below = h; allowed = a; is = rw e (take-append-drop p (text i)) };
            cannot = λ t j v m w.
                parts (text j) x v p (none j m.below m.allowed)
                (let b = most ok text x n j m.below m.allowed in omega arith)
                (rw m.is at w);
          }

      go : (p : ℕ) → p ≡ furthest n ok text x → Bad (Member n ok text) x p
      go zero e = can s.value s.is.below s.is.allowed 0 (omega arith) e
      go (suc p) e = let r = reached ok text x n (omega arith) in can r.at r.below r.allowed (suc p) (let f = r.far in omega arith) e

  -- and where one is, it is read
  pub family-reads : (x : List ℕ) (i : ℕ) → i < n → ok i ≡ true → common (text i) x ≡ length (text i) → Got (Member n ok text) x i (length (text i))
  family-reads x i h a e = record { text = text i; long = refl; is = record { below = h; allowed = a; is = refl }; here = begins (text i) x e }

  -- a family of which no text begins another one is apart
  pub prefix-free : ((i j : ℕ) → i < n → j < n → ok i ≡ true → ok j ≡ true → common (text i) (text j) ≡ length (text i) → i ≡ j)
      → Apart (Member n ok text)
  prefix-free f = record { one = apart }
    where
      apart : (t t' : List ℕ) (i j : ℕ) (v : List ℕ) → Member n ok text t i → Member n ok text t' j → take (length t) (t' ++ v) ≡ t → (t' ≡ t) × (j ≡ i)
      apart t t' i j v m m' e =
          let q : j ≡ i =
          ⊎_elim
          (λ h. sym (f i j m.below m'.below m.allowed m'.allowed h))
          (f j i m'.below m.below m'.allowed m.allowed)
          (agrees (text i) (text j) v (rw (m.is, m'.is) at e)) in
          (m'.is ∙ ap text q ∙ sym m.is, q)

-- the byte c does not stand in the text
unfoldable pub lacks : ℕ → List ℕ → Bool
lacks c [] = true
lacks c (b ∷ l) = not (eqb b c) && lacks c l

-- .. not first, and not behind
lacks-first : (c b : ℕ) (l : List ℕ) → lacks c (b ∷ l) ≡ true → b ≡ c → ⊥
unfolding lacks
lacks-first c b l h e = clash (rw (eq-eqb b c e) at h)

lacks_rest : (c b : ℕ) (l : List ℕ) → lacks c (b ∷ l) ≡ true → lacks c l ≡ true
unfolding lacks
lacks_rest c b l h = go (not (eqb b c)) h
  where
    go : (t : Bool) → (t && lacks c l) ≡ true → lacks c l ≡ true
    go true e = e
    go false e = clash e

-- two names behind which the same mark c begins: one with its mark begins the other only if they are the same
pub ended : (c : ℕ) (x y u v : List ℕ) → lacks c x ≡ true → lacks c y ≡ true
    → common (x ++ (c ∷ u)) (y ++ (c ∷ v)) ≡ length (x ++ (c ∷ u)) → x ≡ y
ended c [] [] u v h k e = refl
ended c [] (b ∷ y) u v h k e =
    by_first (λ n. n ≡ suc (length u) → [] ≡ b ∷ y) c b u (y ++ (c ∷ v))
    (λ q _. absurd (lacks-first c b y k (sym q)))
    (λ _ e. absurd (omega arith))
    e
ended c (a ∷ x) [] u v h k e =
    by_first (λ n. n ≡ suc (length (x ++ (c ∷ u))) → a ∷ x ≡ []) a c (x ++ (c ∷ u)) v
    (λ q _. absurd (lacks-first c a x h q))
    (λ _ e. absurd (omega arith))
    e
ended c (a ∷ x) (b ∷ y) u v h k e =
    by_first (λ n. n ≡ suc (length (x ++ (c ∷ u))) → a ∷ x ≡ b ∷ y) a b (x ++ (c ∷ u)) (y ++ (c ∷ v))
    (λ q e. rw (q, ended c x y u v (lacks_rest c a x h) (lacks_rest c b y k) (omega arith)))
    (λ _ e. absurd (omega arith))
    e

-- a family of names, no name twice, is apart if behind each stands a mark whose first byte c no name holds
pub family-apart : (n : ℕ) (ok : ℕ → Bool) (name : ℕ → List ℕ) (c : ℕ) (rest : ℕ → List ℕ)
    → ((i : ℕ) → i < n → ok i ≡ true → lacks c (name i) ≡ true)
    → ((i j : ℕ) → i < n → j < n → ok i ≡ true → ok j ≡ true → name i ≡ name j → i ≡ j)
    → Apart (Member n ok (λ i. name i ++ (c ∷ rest i)))
family-apart n ok name c rest free inj =
    prefix-free n ok (λ i. name i ++ (c ∷ rest i))
    (λ i j h k a b e. inj i j h k a b (ended c (name i) (name j) (rest i) (rest j) (free i h a) (free j k b) e))
