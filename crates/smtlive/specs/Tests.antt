-- Tests that are joined, and lists that are changed at one place.
use Rattle.std.specs.Prelude.{◌≡◌, refl, Bool, true, false, cond, not, ◌&&◌, ◌||◌, List, ℕ, ◌<◌, eqb, length, get_or, set}
use Rattle.std.proofs.Common.{eqb-true, eq-eqb, ne_eqb, get_or-set_same, get_or-set_other}
use Rattle.std.proofs.lemmas.Bool.{eqb-false}
use Rattle.viable.specs.Grammar.{clash}

-- one of two tests holds
pub either : {C : Type 0} (a b : Bool) → (a || b) ≡ true → (a ≡ true → C) → (b ≡ true → C) → C
either true b e f g = f refl
either false b e f g = g e

pub or_left : (a b : Bool) → a ≡ true → (a || b) ≡ true
or_left true b e = refl
or_left false b e = clash e

pub or_right : (a b : Bool) → b ≡ true → (a || b) ≡ true
or_right true b e = refl
or_right false b e = e

pub and_both : (a b : Bool) → a ≡ true → b ≡ true → (a && b) ≡ true
and_both true b e f = f
and_both false b e f = clash e

pub and_left : (a b : Bool) → (a && b) ≡ true → a ≡ true
and_left true b e = refl
and_left false b e = clash e

pub and_right : (a b : Bool) → (a && b) ≡ true → b ≡ true
and_right true b e = e
and_right false b e = clash e

-- a test whose both sides fail
pub neither : {A : Type 0} (b : Bool) → cond b false false ≡ true → A
neither true e = clash e
neither false e = clash e

-- a test has one of two answers
pub by-test : {C : Type 0} (a : Bool) → (a ≡ true → C) → (a ≡ false → C) → C
by-test true f g = f refl
by-test false f g = g refl

-- two numbers are the same or not
pub by-eq : {C : Type 0} (a b : ℕ) → (a ≡ b → C) → ((a ≡ b → ⊥) → C) → C
by-eq a b f g = by-test (eqb a b) (λ e. f (eqb-true a b e)) (λ e. g (eqb-false a b e))

-- a number is not 0
pub not-zero : (n : ℕ) → (n ≡ 0 → ⊥) → not (eqb n 0) ≡ true
not-zero n h = rw (ne_eqb n 0 h)

pub zero-not : (n : ℕ) → not (eqb n 0) ≡ true → n ≡ 0 → ⊥
zero-not n h e = clash (rw (eq-eqb n 0 e) at h)

-- an entry of a list that is changed at one place: the new one there, the old one elsewhere
pub at_set : (P : ℕ → Type 0) (l : List ℕ) (i j a d : ℕ) → i < length l → (j ≡ i → P a) → ((j ≡ i → ⊥) → P (get_or l j d)) → P (get_or (set l i a) j d)
at_set P l i j a d h f g =
    by-eq j i
    (λ e. rw (e, get_or-set_same l i a d h) (f e))
    (λ e. rw (get_or-set_other l i j a d e) (g e))
