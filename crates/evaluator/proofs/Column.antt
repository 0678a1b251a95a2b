-- The column that holds the values, two words each: what is read out of it and what a turn of the loop stores.
use mathlib.Core.Path.{◌≡◌, refl, sym, subst, ◌∙◌, ap}
use mathlib.Core.List.{List, [], ◌∷◌, ◌++◌, append_assoc}
use Prim.Native.Nat.{ℕ, zero, suc, ◌+◌, ◌*◌, ◌/◌, ◌%◌, ◌^◌, ◌≤◌, ◌<◌}
use native.Mathlib.Nat.{div-add-mod'}
use native.Mathlib.Numerals.{add-one}
use native.Mathlib.Omega.{arith}
use native.Mathlib.Decide.{dec_lt}
use lib.ListN.{get_or-eq_default, length, get_or, take, drop, set, length-set, take-append-drop}
use lib.Pow.{high, low}
use lib.Seq.{take-suc-set, drop-set-lt, drop-drop, get_or-take}
use borrow.Author.Tests.{lt-ltb, le-ltb}
use Rattle.evaluator.specs.Lists.{pair_at, operand_at, flat}

flat_append : (l : List ℕ) (v : ℕ) → flat (l ++ (v ∷ [])) ≡ flat l ++ (v % 2 ^ 64 ∷ v / 2 ^ 64 ∷ [])
unfolding flat
flat_append [] v = refl
flat_append (x ∷ l) v = ap (λ (m : List ℕ). x % 2 ^ 64 ∷ x / 2 ^ 64 ∷ m) (flat_append l v)

flat-at : (l : List ℕ) (a : ℕ) → pair_at (flat l) a ≡ get_or l a 0
unfolding flat
flat-at [] zero = refl
flat-at [] (suc a) = refl
flat-at (x ∷ l) zero = div-add-mod' x (2 ^ 64)
flat-at (x ∷ l) (suc a) =
    let e₁ : 2 * suc a + 1 ≡ suc (suc (2 * a + 1)) = omega arith in
    let e₂ : 2 * suc a ≡ suc (suc (2 * a)) = omega arith in
    rw (e₁, e₂) (flat-at l a)

-- an operand, out of a column whose first words hold the earlier values
pub operand : (col vs : List ℕ) (n a : ℕ) → take (2 * n) col ≡ flat vs → length vs ≡ n → operand_at col n a ≡ get_or vs a 0
operand col vs n a e k = by (dec_lt a n)
  where
    by : Dec (a < n) → operand_at col n a ≡ get_or vs a 0
    by (yes h) =
        rw (lt-ltb a n h, ← get_or-take (2 * n) col (2 * a + 1) 0 (omega arith), ← get_or-take (2 * n) col (2 * a) 0 (omega arith), e) (flat-at vs a)
    by (no h) = let q : n ≤ a = omega arith in rw (le-ltb a n q) (sym (get_or-eq_default vs 0 {n = a} (omega arith)))

-- a value stored in its two words
pub stored : (col vs : List ℕ) (n lo hi v : ℕ) → 2 * n + 1 < length col → take (2 * n) col ≡ flat vs → lo < 2 ^ 64 → hi * 2 ^ 64 + lo ≡ v
    → take (2 * (n + 1)) (set (set col (2 * n) lo) (2 * n + 1) hi) ≡ flat (vs ++ (v ∷ []))
stored col vs n lo hi v h e kl q =
    let e₁ : 2 * (n + 1) ≡ suc (suc (2 * n)) = omega arith in
    let h₁ : suc (2 * n) < length (set col (2 * n) lo) = simp length-set (omega arith) in
    let h₀ : 2 * n < length col = omega arith in
    rw (e₁, add-one (2 * n), take-suc-set (set col (2 * n) lo) (suc (2 * n)) hi h₁, take-suc-set col (2 * n) lo h₀, e, flat_append, ← q, high hi 64 kl, low hi 64 kl, append_assoc)

-- what is beyond stays
pub beyond : (col col₀ : List ℕ) (n lo hi : ℕ) → drop (2 * n) col ≡ drop (2 * n) col₀
    → drop (2 * (n + 1)) (set (set col (2 * n) lo) (2 * n + 1) hi) ≡ drop (2 * (n + 1)) col₀
beyond col col₀ n lo hi e =
    let e₁ : 2 * n + 2 ≡ 2 * (n + 1) = omega arith in
    drop-set-lt (2 * (n + 1)) (set col (2 * n) lo) (2 * n + 1) hi (omega arith)
    ∙ drop-set-lt (2 * (n + 1)) col (2 * n) lo (omega arith)
    ∙ subst (λ (k : ℕ). drop k col ≡ drop k col₀) e₁
    (sym (drop-drop 2 (2 * n) col) ∙ ap (drop 2) e ∙ drop-drop 2 (2 * n) col₀)

pub whole : (col col₀ vs : List ℕ) (k : ℕ) → take k col ≡ flat vs → drop k col ≡ drop k col₀ → col ≡ flat vs ++ drop k col₀
whole col col₀ vs k e f =
    sym (take-append-drop k col) ∙ ap (λ (l : List ℕ). l ++ drop k col) e ∙ ap (λ (l : List ℕ). flat vs ++ l) f
