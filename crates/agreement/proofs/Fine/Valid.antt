-- A state whose places are known is valid, and a valid state has the places that are known of it
use Rattle.std.specs.Prelude.{◌≡◌, refl, true, ◌&&◌, List, ℕ, zero, suc, ◌+◌, ◌≤◌, ◌<◌, leb, length}
use Rattle.std.proofs.Common.{sym, subst, ◌∙◌, arith}
use Rattle.std.proofs.Math.Decide.{dec_lt}
use borrow.Author.Tests.{le-leb, lt-ltb, le-ltb, eq-eqb, leb-true, ltb-true, eqb-true}
use Rattle.std.proofs.Math.ListN.{get_or, get_or-eq_default}
use Rattle.words.specs.Tests.{and_i, and_l, and_r}
use Rattle.lists.specs.Valid.{sound_of, all_sound, valid_of}
use Rattle.lists.specs.declared.State.{State}
use Rattle.agreement.proofs.Fine.{Placed}

pub inside : (Γ : List ℕ) (v : ℕ) → get_or Γ v 0 ≡ 79 → v < length Γ
inside Γ v e = way (dec_lt v (length Γ))
  where
    way : Dec (v < length Γ) → v < length Γ
    way (yes d) = d
    way (no d) = let z = sym (get_or-eq_default Γ 0 {n = v} (omega arith)) ∙ e in omega arith

place-sound : (Γ : List ℕ) (s : State) (i : ℕ) → Placed Γ s → sound_of s i ≡ true
unfolding sound_of
place-sound Γ s i p = way (dec_lt i s.depth)
  where
    way : Dec (i < s.depth) → sound_of s i ≡ true
    way (yes d) = rw (lt-ltb i s.depth d) (lt-ltb (get_or s.slots i 0) s.nodes (omega (arith, inside Γ _ (p.used i d), p.count)))
    way (no d) = rw (le-ltb i s.depth (omega arith)) (eq-eqb _ 0 (p.unused i (omega arith)))

all_sound_lem : (Γ : List ℕ) (s : State) (k : ℕ) → Placed Γ s → all_sound s k ≡ true
unfolding all_sound
all_sound_lem Γ s zero p = refl
all_sound_lem Γ s (suc k) p = and_i (all_sound s k) (sound_of s k) (all_sound_lem Γ s k p) (place-sound Γ s k p)

pub placed-valid : (Γ : List ℕ) (s : State) (n m : ℕ) → Placed Γ s → s.nodes ≤ n → s.statements ≤ m → valid_of s n m ≡ true
unfolding valid_of
placed-valid Γ s n m p h k =
    simp (le-leb s.depth 8 p.deep, all_sound_lem Γ s 8 p, le-leb (s.inputs + s.temporaries) s.nodes p.counted, le-leb s.nodes n h, le-leb s.statements m k)

-- The other way: the five tests of a valid state
pub record Valid (s : State) (n m : ℕ) : Type 0 where
  pub deep : s.depth ≤ 8
  pub sound : (i : ℕ) → i < 8 → sound_of s i ≡ true
  pub counted : s.inputs + s.temporaries ≤ s.nodes
  pub nodes : s.nodes ≤ n
  pub statements : s.statements ≤ m

sound-at : (s : State) (k i : ℕ) → all_sound s k ≡ true → i < k → sound_of s i ≡ true
unfolding all_sound
sound-at s zero i e h = absurd (none h)
  where
    none : i < 0 → ⊥
    none h = omega arith
sound-at s (suc k) i e h = way (λ d. sound-at s k i (and_l (all_sound s k) (sound_of s k) e) d) (dec_lt i k)
  where
    way : (i < k → sound_of s i ≡ true) → Dec (i < k) → sound_of s i ≡ true
    way f (yes d) = f d
    way f (no d) = let q : k ≡ i = omega arith in subst (λ (j : ℕ). sound_of s j ≡ true) q (and_r (all_sound s k) (sound_of s k) e)

pub is-valid : (s : State) (n m : ℕ) → valid_of s n m ≡ true → Valid s n m
unfolding valid_of
is-valid s n m e =
    let a = leb s.depth 8 in
    let b = all_sound s 8 in
    let c = leb (s.inputs + s.temporaries) s.nodes in
    let d = leb s.nodes n in
    let f = leb s.statements m in
    let u : (((a && b) && c) && d) ≡ true = and_l (((a && b) && c) && d) f e in
    let v : ((a && b) && c) ≡ true = and_l ((a && b) && c) d u in
    let w : (a && b) ≡ true = and_l (a && b) c v in
    record {
      deep = leb-true _ _ (and_l a b w);
      sound = λ i h. sound-at s 8 i (and_r a b w) h;
      counted = leb-true _ _ (and_r (a && b) c v);
      nodes = leb-true _ _ (and_r ((a && b) && c) d u);
      statements = leb-true _ _ (and_r (((a && b) && c) && d) f e);
    }

module _ (s : State) (n m : ℕ) (v : Valid s n m) where
  -- A used place names a node
  pub place_inside : (i : ℕ) → i < s.depth → get_or s.slots i 0 < s.nodes
  unfolding sound_of
  place_inside i h = ltb-true _ _ (rw (lt-ltb i s.depth h) at (v.sound i (omega (arith, v.deep))))

  pub valid-placed : (Γ : List ℕ) → length s.slots ≡ 8 → s.nodes ≡ length Γ → ((i : ℕ) → i < s.depth → get_or Γ (get_or s.slots i 0) 0 ≡ 79) → Placed Γ s
  unfolding sound_of
  valid-placed Γ l e f = record { count = e; eight = l; deep = v.deep; used = f; unused = λ i h. empty i h (dec_lt i 8); counted = v.counted }
    where
      empty : (i : ℕ) → s.depth ≤ i → Dec (i < 8) → get_or s.slots i 0 ≡ 0
      empty i h (yes d) = eqb-true _ 0 (rw (le-ltb i s.depth h) at (v.sound i d))
      empty i h (no d) = get_or-eq_default s.slots 0 (omega arith)
