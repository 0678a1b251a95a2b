-- Laws of the trim, of letters without case and of the reading of a place.
use mathlib.Core.Path.{◌≡◌, refl, sym, ◌∙◌, ap}
use mathlib.Core.Bool.{Bool, true, false, cond, ◌&&◌}
use mathlib.Core.List.{List, [], ◌∷◌, ◌++◌, reverse, reverse-append, reverse-cons, reverse-reverse}
use Prim.Native.Nat.{ℕ, suc, ◌+◌, ◌*◌, ◌-◌, ◌<◌, ◌≤◌}
use native.Mathlib.Omega.{arith}
use lib.Dec.{eqb}
use lib.ListN.{length, take, drop, get_or}
use Rattle.std.proofs.lemmas.Bool.Decides.{nat_tests}
use lib.Seq.{take-suc, take_all}
use borrow.Author.Tests.{lt-leb}
use Rattle.std.specs.Prelude.{Option, None}
use Rattle.std.specs.List.{zip, list_all}
use Rattle.texts.specs.Bytes.{bytes}
use Rattle.texts.specs.Letters.{lower_of, blank_is, cut, same_letters}
use Rattle.texts.specs.Places.{digits, signed, after}

-- two ways that come to the same
pub cond_same : {A : Type 0} (t : Bool) (a : A) → cond t a a ≡ a
cond_same true a = refl
cond_same false a = refl

-- a text is what stands before its last byte, and that byte
parted : (s : List ℕ) (n : ℕ) → suc n ≡ length s → s ≡ take n s ++ get_or s n 0 ∷ []
parted s n e = sym (take_all (suc n) s (omega arith)) ∙ take-suc s n 0 (omega arith)

-- the last byte is a blank, and goes; or it is none, and the text is cut
cut_blank : (p : List ℕ) (x : ℕ) → blank_is x ≡ true → cut (p ++ x ∷ []) ≡ cut p
unfolding cut
cut_blank p x t = rw (reverse-append, t)

cut_other : (p : List ℕ) (x : ℕ) → blank_is x ≡ false → cut (p ++ x ∷ []) ≡ p ++ x ∷ []
unfolding cut
cut_other p x t = rw (reverse-append, t) (reverse-cons x (reverse p) ∙ rw reverse-reverse)

module _ (s : List ℕ) (h : 1 ≤ length s) where
  pub cut-on : blank_is (get_or s (length s - 1) 0) ≡ true → cut (take (length s - 1) s) ≡ cut s
  cut-on t = sym (ap cut (parted s (length s - 1) (omega arith)) ∙ cut_blank _ _ t)

  pub cut-stop : blank_is (get_or s (length s - 1) 0) ≡ false → cut s ≡ s
  cut-stop t =
      let p : s ≡ take (length s - 1) s ++ get_or s (length s - 1) 0 ∷ [] = parted s (length s - 1) (omega arith) in
      ap cut p ∙ cut_other _ _ t ∙ sym p

pub cut-end : (s : List ℕ) → length s < 1 → cut s ≡ s
unfolding cut
cut-end [] h = refl
cut-end (x ∷ s) h = absurd (omega arith)

-- the texts are as long as each other, and each byte is the one beside it but for its case
pub same-pairs : (s t : List ℕ) → length s ≡ length t → list_all (λ (p : ℕ × ℕ). eqb (lower_of p.0) (lower_of p.1)) (zip s t) ≡ same_letters s t
same-pairs [] [] h = refl
same-pairs [] (y ∷ t) h = absurd (omega arith)
same-pairs (x ∷ s) [] h = absurd (omega arith)
same-pairs (x ∷ s) (y ∷ t) h = ap (λ (b : Bool). eqb (lower_of x) (lower_of y) && b) (same-pairs s t (omega arith))

and-none : (b : Bool) → false ≡ (b && false)
and-none true = refl
and-none false = refl

pub same-none : (s t : List ℕ) → (length s ≡ length t → ⊥) → false ≡ same_letters s t
same-none [] [] h = absurd (h refl)
same-none [] (y ∷ t) h = refl
same-none (x ∷ s) [] h = refl
same-none (x ∷ s) (y ∷ t) h = rw (← same-none s t (λ e. h (omega arith))) (and-none _)

-- a number over 7 is no place, whatever digits follow
pub digits-big : (s : List ℕ) (v : ℕ) → 7 < v → digits v s ≡ None
digits-big [] v h = refl
digits-big (b ∷ []) v h = rw (lt-leb v 7 h) (simp cond_same)
digits-big (b ∷ c ∷ s) v h = rw (digits-big (c ∷ s) (v * 10 + (b - 48)) (omega arith)) (simp cond_same)

-- the text behind `st(`
abbrev named : List ℕ → Option ℕ
named s = after (bytes "st(") signed s

pub named-short : (s : List ℕ) → length s < 3 → named s ≡ None
named-short [] h = refl
named-short (x ∷ []) h = simp cond_same
named-short (x ∷ y ∷ []) h = simp cond_same
named-short (x ∷ y ∷ z ∷ s) h = absurd (omega arith)

-- no letter's small one is a bracket
bracket : (x : ℕ) → eqb (lower_of x) 40 ≡ eqb x 40
bracket x = grind (arith, nat_tests)

pub named-long : (s : List ℕ) → 3 ≤ length s
    → named s ≡ cond (eqb (lower_of (get_or s 0 0)) 115) (cond (eqb (lower_of (get_or s 1 0)) 116) (cond (eqb (get_or s 2 0) 40) (signed (take (length s - 3) (drop 3 s))) None) None) None
named-long [] h = absurd (omega arith)
named-long (x ∷ []) h = absurd (omega arith)
named-long (x ∷ y ∷ []) h = absurd (omega arith)
named-long (x ∷ y ∷ z ∷ s) h = rw (bracket z, take_all (length (x ∷ y ∷ z ∷ s) - 3) s (omega arith))
