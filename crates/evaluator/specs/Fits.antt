-- A node that has a sort has a value that fits it.
use Rattle.std.specs.Prelude.{Bool, true, false, cond, not, ◌&&◌, ◌||◌, ◌≡◌, refl, ℕ, ◌+◌, ◌-◌, ◌*◌, ◌%◌, ◌^◌, ◌≤◌, ◌<◌}
use Rattle.std.proofs.Math.Path.{sym, subst, ap}
use Rattle.std.proofs.Common.{◌∙◌, mod-lt, lit<, pow-add, pow_mono, shr_lt}
use Rattle.std.proofs.Math.Nat.{lt_of_le_of_lt, lt_of_lt_of_le}
use native.Mathlib.Omega.{arith}
use Rattle.std.proofs.Math.Arith.{digits_lt}
use Rattle.std.specs.Int.Bits.{bit_and, bit_xor, xor_lt}
use Rattle.std.proofs.lemmas.Nat.{and_le_r}
use Rattle.std.proofs.Math.Dec.{leb, ltb, eqb}
use Rattle.std.proofs.Math.Pow.{pow_pos}
use borrow.Author.Tests.{eqb-true, ltb-true, ne_eqb}
use Rattle.words.specs.Tests.{and_l, and_r, or_case}
use Rattle.words.specs.Wide.{extract_of, concat_of}
use Rattle.sorts.specs.Sorts.{when, is_bits, is_float, pattern_width, sort_row}
use Rattle.sorts.specs.Good.{cond_has, bits-hi, extract-places, Widths, concat-widths}
use Rattle.evaluator.specs.Formats.{nan_of}
use Rattle.evaluator.specs.Exact.{is_nan, canon, f_eq, f_lt}
use Rattle.evaluator.specs.Value.{width_of, flag_of, held, computed}

-- a sort of bits is its width
pub width-bits : (s : ℕ) → s ≤ 80 → width_of s ≡ s
width-bits s h =
    let e₁ : s ≡ 2072 → ⊥ = λ e. omega arith in
    let e₂ : s ≡ 2869 → ⊥ = λ e. omega arith in
    let e₃ : s ≡ 3904 → ⊥ = λ e. omega arith in
    simp (ne_eqb s 2072 e₁, ne_eqb s 2869 e₂, ne_eqb s 3904 e₃)

width-float : (f : ℕ) → is_float f ≡ true → width_of f ≡ pattern_width f
width-float f e = rw e

-- f is one of the three
pub float-case : (P : ℕ → Type 0) (f : ℕ) → is_float f ≡ true → P 2072 → P 2869 → P 3904 → P f
float-case P f e x y z =
    or_case (eqb f 2072 || eqb f 2869) (eqb f 3904) e
    (λ i. or_case (eqb f 2072) (eqb f 2869) i (λ j. subst P (sym (eqb-true f 2072 j)) x) (λ j. subst P (sym (eqb-true f 2869 j)) y))
    (λ j. subst P (sym (eqb-true f 3904 j)) z)

width-pattern : (f : ℕ) → is_float f ≡ true → width_of (pattern_width f) ≡ pattern_width f
width-pattern f e = float-case (λ (x : ℕ). width_of (pattern_width x) ≡ pattern_width x) f e refl refl refl

nan-fits : (f : ℕ) → is_float f ≡ true → nan_of f < 2 ^ width_of f
nan-fits f e = float-case (λ (x : ℕ). nan_of x < 2 ^ width_of x) f e (lit< tt) (lit< tt) (lit< tt)

canon-fits : (f v : ℕ) → is_float f ≡ true → v < 2 ^ width_of f → canon f v < 2 ^ width_of f
unfolding canon
canon-fits f v e h = cond_has (λ (x : ℕ). x < 2 ^ width_of f) (is_nan f v) (nan_of f) v (λ _. nan-fits f e) h

-- what is held of a given value that fits fits
pub held_fits : (s g : ℕ) → g < 2 ^ width_of s → held s g < 2 ^ width_of s
unfolding held
held_fits s g h = cond_has (λ (x : ℕ). x < 2 ^ width_of s) (is_float s) (canon s g) g (λ e. canon-fits s g e h) h

flag-fits : (b : Bool) → flag_of b < 2 ^ 1
flag-fits true = lit< tt
flag-fits false = lit< tt

when-fits : (ok : Bool) (s v : ℕ) → (ok ≡ true → v < 2 ^ width_of s) → (when ok s ≡ 0 → ⊥) → v < 2 ^ width_of (when ok s)
when-fits true s v f n = f refl
when-fits false s v f n = absurd (n refl)

when-holds : {P : Type 0} (ok : Bool) (s : ℕ) → (when ok s ≡ 0 → ⊥) → (ok ≡ true → P) → P
when-holds true s n f = f refl
when-holds false s n f = absurd (n refl)

module _ (a b c sa sb sc va vb vc : ℕ) (ha : va < 2 ^ width_of sa) (hb : vb < 2 ^ width_of sb) (hc : vc < 2 ^ width_of sc) where
  abbrev Fit : ℕ → ℕ → Type 0
  Fit k v = (sort_row k a b c sa sb sc ≡ 0 → ⊥) → v < 2 ^ width_of (sort_row k a b c sa sb sc)

  constant : Fit 6 (b * 2 ^ 64 + a)
  unfolding sort_row
  constant = when-fits (is_bits c && ltb (b * 2 ^ 64 + a) (2 ^ c)) c (b * 2 ^ 64 + a)
      (λ e. rw (width-bits c (bits-hi c (and_l (is_bits c) (ltb (b * 2 ^ 64 + a) (2 ^ c)) e))) (ltb-true (b * 2 ^ 64 + a) (2 ^ c) (and_r (is_bits c) (ltb (b * 2 ^ 64 + a) (2 ^ c)) e)))

  both : Fit 7 (bit_and va vb)
  unfolding sort_row
  both = when-fits ((is_bits sa && eqb sa sb) && eqb c 0) sb (bit_and va vb) (λ _. lt_of_le_of_lt (and_le_r va vb) hb)

  one : Fit 8 (bit_xor va vb)
  unfolding sort_row
  one = when-fits ((is_bits sa && eqb sa sb) && eqb c 0) sb (bit_xor va vb)
      (λ e. let q = eqb-true sa sb (and_r (is_bits sa) (eqb sa sb) (and_l (is_bits sa && eqb sa sb) (eqb c 0) e)) in
      xor_lt (width_of sb) va vb (subst (λ (s : ℕ). va < 2 ^ width_of s) q ha) hb)

  ite : Fit 13 (cond (eqb va 1) vb vc)
  unfolding sort_row
  ite = when-fits ((eqb sa 1 && is_bits sb) && eqb sb sc) sc (cond (eqb va 1) vb vc)
      (λ e. let q = eqb-true sb sc (and_r (eqb sa 1 && is_bits sb) (eqb sb sc) e) in
      cond_has (λ (x : ℕ). x < 2 ^ width_of sc) (eqb va 1) vb vc (λ _. subst (λ (s : ℕ). vb < 2 ^ width_of s) q hb) hc)

  extract : Fit 14 (extract_of va b c)
  unfolding sort_row
  extract = when-fits ((leb c b && ltb b sa) && is_bits sa) (b - c + 1) (extract_of va b c)
      (λ e. let p = extract-places sa b c e in
      let o = p.ordered in let i = p.inside in let n = p.narrow in
      let w : b - c + 1 + c ≡ b + 1 = omega arith in
      rw (width-bits (b - c + 1) (omega arith))
      (shr_lt {n = va % 2 ^ (b + 1)} (b - c + 1) c (subst (λ (k : ℕ). va % 2 ^ (b + 1) < 2 ^ k) (sym w) (mod-lt va (pow_pos (b + 1))))))

  joined : Widths sa sb → concat_of va vb sb < 2 ^ (sa + sb)
  joined p =
      let s = p.sum in
      let h : va < 2 ^ sa = rw (width-bits sa (omega arith)) at ha in
      subst (λ (x : ℕ). concat_of va vb sb < x) (sym (pow-add 2 sa sb)) (digits_lt h (mod-lt vb (pow_pos sb)))

  concat : Fit 15 (concat_of va vb sb)
  unfolding sort_row
  concat = when-fits (((is_bits sa && is_bits sb) && leb (sa + sb) 80) && eqb c 0) (sa + sb) (concat_of va vb sb)
      (λ e. let p = concat-widths sa sb (eqb c 0) e in rw (width-bits (sa + sb) p.sum) (joined p))

  -- a Concat with a sort fits two words
  pub concat-inside : (sort_row 15 a b c sa sb sc ≡ 0 → ⊥) → concat_of va vb sb < 2 ^ 128
  unfolding sort_row
  concat-inside n = when-holds (((is_bits sa && is_bits sb) && leb (sa + sb) 80) && eqb c 0) (sa + sb) n
      (λ e. let p = concat-widths sa sb (eqb c 0) e in let s = p.sum in
      lt_of_lt_of_le (joined p) (pow_mono {i = sa + sb} {j = 128} (omega arith)))

  to-fp : Fit 25 (canon c va)
  unfolding sort_row
  to-fp = when-fits ((is_float c && eqb sa (pattern_width c)) && eqb b 0) c (canon c va)
      (λ e. let t = and_l (is_float c && eqb sa (pattern_width c)) (eqb b 0) e in
      let f = and_l (is_float c) (eqb sa (pattern_width c)) t in
      let q = eqb-true sa (pattern_width c) (and_r (is_float c) (eqb sa (pattern_width c)) t) in
      let w : width_of sa ≡ width_of c = ap width_of q ∙ width-pattern c f ∙ sym (width-float c f) in
      canon-fits c va f (subst (λ (x : ℕ). va < 2 ^ x) w ha))

  to-bv : Fit 26 va
  unfolding sort_row
  to-bv = when-fits ((is_float sa && eqb b 0) && eqb c 0) (pattern_width sa) va
      (λ e. let f = and_l (is_float sa) (eqb b 0) (and_l (is_float sa && eqb b 0) (eqb c 0) e) in
      subst (λ (x : ℕ). va < 2 ^ x) (width-float sa f ∙ sym (width-pattern sa f)) ha)

  -- the kinds whose value is a test
  eq_flag : (t : Bool) → Fit 9 (flag_of t)
  unfolding sort_row
  eq_flag t = when-fits ((is_bits sa && eqb sa sb) && eqb c 0) 1 (flag_of t) (λ _. flag-fits t)

  and-flag : (t : Bool) → Fit 10 (flag_of t)
  unfolding sort_row
  and-flag t = when-fits ((eqb sa 1 && eqb sb 1) && eqb c 0) 1 (flag_of t) (λ _. flag-fits t)

  or-flag : (t : Bool) → Fit 11 (flag_of t)
  unfolding sort_row
  or-flag t = when-fits ((eqb sa 1 && eqb sb 1) && eqb c 0) 1 (flag_of t) (λ _. flag-fits t)

  not_flag : (t : Bool) → Fit 12 (flag_of t)
  unfolding sort_row
  not_flag t = when-fits ((eqb sa 1 && eqb b 0) && eqb c 0) 1 (flag_of t) (λ _. flag-fits t)

  feq-flag : (t : Bool) → Fit 20 (flag_of t)
  unfolding sort_row
  feq-flag t = when-fits ((is_float sa && eqb sa sb) && eqb c 0) 1 (flag_of t) (λ _. flag-fits t)

  flt-flag : (t : Bool) → Fit 21 (flag_of t)
  unfolding sort_row
  flt-flag t = when-fits ((is_float sa && eqb sa sb) && eqb c 0) 1 (flag_of t) (λ _. flag-fits t)

  nan-flag : (t : Bool) → Fit 22 (flag_of t)
  unfolding sort_row
  nan-flag t = when-fits ((is_float sa && eqb b 0) && eqb c 0) 1 (flag_of t) (λ _. flag-fits t)

  rule : (k n v rest : ℕ) → Fit n v → Fit k rest → Fit k (cond (eqb k n) v rest)
  rule k n v rest f g = by (eqb k n) refl
    where
      by : (t : Bool) → eqb k n ≡ t → Fit k (cond t v rest)
      by true e = subst (λ (x : ℕ). Fit x v) (sym (eqb-true k n e)) f
      by false e = g

  -- a computed value fits
  pub computed_fits : (k : ℕ) → Fit k (computed k a b c sa sb va vb vc)
  unfolding computed
  computed_fits k =
      rule k 6 (b * 2 ^ 64 + a) _ constant
      (rule k 7 (bit_and va vb) _ both
      (rule k 8 (bit_xor va vb) _ one
      (rule k 9 (flag_of (eqb va vb)) _ (eq_flag (eqb va vb))
      (rule k 10 (flag_of (eqb va 1 && eqb vb 1)) _ (and-flag (eqb va 1 && eqb vb 1))
      (rule k 11 (flag_of (eqb va 1 || eqb vb 1)) _ (or-flag (eqb va 1 || eqb vb 1))
      (rule k 12 (flag_of (not (eqb va 1))) _ (not_flag (not (eqb va 1)))
      (rule k 13 (cond (eqb va 1) vb vc) _ ite
      (rule k 14 (extract_of va b c) _ extract
      (rule k 15 (concat_of va vb sb) _ concat
      (rule k 20 (flag_of (f_eq sa va vb)) _ (feq-flag (f_eq sa va vb))
      (rule k 21 (flag_of (f_lt sa va vb)) _ (flt-flag (f_lt sa va vb))
      (rule k 22 (flag_of (is_nan sa va)) _ (nan-flag (is_nan sa va))
      (rule k 25 (canon c va) _ to-fp
      (rule k 26 va 0 to-bv
      (λ _. pow_pos (width_of (sort_row k a b c sa sb sc)))))))))))))))))
