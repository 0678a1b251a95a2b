-- A demand that is met: the sort of the node that is named
use Rattle.std.specs.Prelude.{◌≡◌, refl, Bool, true, false, cond, List, ℕ, ◌≤◌, eqb, get_or}
use Rattle.std.proofs.Common.{eqb-true}
use Rattle.words.specs.Tests.{and_l, and_r}
use Rattle.sorts.specs.Sorts.{is_bits}
use Rattle.sorts.specs.Lists.{field}
use Rattle.sorts.specs.Good.{bits-lo, bits-hi}
use Rattle.agreement.specs.Demands.{is_wide, demanded, named_by, place_bits, kind_at, demanded_at, named_at, bits_at}

-- A statement that meets its demand is unsupported, or it names a node of the bits of its place
at-kind : {P : Type 0} (k n : ℕ) (x y : Bool) → cond (eqb k n) x y ≡ true → (k ≡ n → x ≡ true → P) → (y ≡ true → P) → P
at-kind {P = P} k n x y e f g = way (eqb k n) refl e
  where
    way : (t : Bool) → eqb k n ≡ t → cond t x y ≡ true → P
    way true q h = f (eqb-true k n q) h
    way false q h = g h

names-wide : (sorts : List ℕ) (k a b c : ℕ) → (k ≡ 6 → ⊥) → demanded sorts k a b c ≡ true → is_wide sorts (named_by k a b) (place_bits k c) ≡ true
unfolding demanded named_by place_bits
names-wide sorts k a b c h e =
    at-kind k 1 _ _ e (λ q x. rw q x)
    (λ e. at-kind k 2 _ _ e (λ q x. rw q x)
    (λ e. at-kind k 3 _ _ e (λ q x. rw q (and_l (is_wide sorts a 16) _ x))
    (λ e. at-kind k 4 _ _ e (λ q x. rw q (and_l (is_wide sorts b 1) _ x))
    (λ e. at-kind k 5 _ _ e (λ q x. rw q (and_l (is_wide sorts a 16) _ x))
    (λ e. at-kind k 6 _ _ e (λ q x. absurd (h q))
    (λ e. let z : ◌≡◌ {A = Bool} false true = e in cc))))))

wide-sort : (sorts : List ℕ) (v bits : ℕ) → is_wide sorts v bits ≡ true → (get_or sorts v 0 ≡ bits) × (1 ≤ bits) × (bits ≤ 80)
unfolding is_wide
wide-sort sorts v bits e =
    let b = and_l (is_bits bits) (eqb (get_or sorts v 0) bits) e in
    (eqb-true _ bits (and_r (is_bits bits) (eqb (get_or sorts v 0) bits) e), bits-lo bits b, bits-hi bits b)

-- .. of statement j of a list's words
pub named-at : (sorts w : List ℕ) (j : ℕ) → (kind_at w j ≡ 6 → ⊥) → demanded_at sorts w j ≡ true
    → (get_or sorts (named_at w j) 0 ≡ bits_at w j) × (1 ≤ bits_at w j) × (bits_at w j ≤ 80)
unfolding demanded_at
named-at sorts w j h e = wide-sort sorts (named_at w j) (bits_at w j) (names-wide sorts (kind_at w j) (field w j 1) (field w j 2) (field w j 3) h e)
