-- What the table of sorts gives is a sort or none.
use Rattle.std.specs.Prelude.{Bool, true, false, cond, ◌&&◌, ◌||◌, ◌≡◌, refl, ℕ, ◌+◌, ◌-◌, ◌*◌, ◌^◌, ◌≤◌}
use Rattle.std.proofs.Common.{sym, subst, arith, eqb-true, leb-true, ltb-true, le-leb}
use Rattle.std.proofs.Math.Dec.{eqb, ltb, leb}
use Rattle.words.specs.Tests.{and_l, and_r, or_l, or_r, or_case}
use Rattle.sorts.specs.Sorts.{when, is_bits, is_float, is_stored, is_word, pattern_width, sort_row}

pub cond_has : (P : ℕ → Type 0) (b : Bool) (x y : ℕ) → (b ≡ true → P x) → P y → P (cond b x y)
cond_has P true x y f g = f refl
cond_has P false x y f g = g

-- s is a sort or none
pub record Good (s : ℕ) : Type 0 where
  pub is : (eqb s 0 || (is_bits s || is_float s)) ≡ true

bits-good : (s : ℕ) → is_bits s ≡ true → Good s
bits-good s e = record { is = or_r (eqb s 0) (is_bits s || is_float s) (or_l (is_bits s) (is_float s) e) }

float_good : (s : ℕ) → is_float s ≡ true → Good s
float_good s e = record { is = or_r (eqb s 0) (is_bits s || is_float s) (or_r (is_bits s) (is_float s) e) }

in-bits : (s : ℕ) → 1 ≤ s → s ≤ 80 → Good s
in-bits s h k = bits-good s (simp (le-leb 1 s h, le-leb s 80 k))

-- a number that is one of two, each of which is good
one_of : (s : ℕ) (t : Bool) (n : ℕ) → (t || eqb s n) ≡ true → Good n → (t ≡ true → Good s) → Good s
one_of s t n e g f = or_case t (eqb s n) e f (λ q. subst Good (sym (eqb-true s n q)) g)

lit : {n : ℕ} → (eqb n 0 || (is_bits n || is_float n)) ≡ true → Good n
lit e = record { is = e }

is_one : (s n : ℕ) → eqb s n ≡ true → Good n → Good s
is_one s n e g = subst Good (sym (eqb-true s n e)) g

word_good : (s : ℕ) → is_word s ≡ true → Good s
word_good s e = one_of s (eqb s 16 || eqb s 32) 64 e (lit refl) (λ f. one_of s (eqb s 16) 32 f (lit refl) (λ g. is_one s 16 g (lit refl)))

stored-good : (s : ℕ) → is_stored s ≡ true → Good s
stored-good s e = one_of s (is_word s) 80 e (lit refl) (word_good s)

width-good : (f : ℕ) → Good (pattern_width f)
width-good f = cond_has Good (eqb f 2072) 32 (cond (eqb f 2869) 64 79) (λ _. lit refl) (cond_has Good (eqb f 2869) 64 79 (λ _. lit refl) (lit refl))

-- what a test says of one of two equal sorts, it says of the other
pub same : (s s' : ℕ) (p : ℕ → Bool) → (p s && eqb s s') ≡ true → p s' ≡ true
same s s' p e = subst (λ (x : ℕ). p x ≡ true) (eqb-true s s' (and_r (p s) (eqb s s') e)) (and_l (p s) (eqb s s') e)

pub bits-lo : (s : ℕ) → is_bits s ≡ true → 1 ≤ s
bits-lo s e = leb-true 1 s (and_l (leb 1 s) (leb s 80) e)

pub bits-hi : (s : ℕ) → is_bits s ≡ true → s ≤ 80
bits-hi s e = leb-true s 80 (and_r (leb 1 s) (leb s 80) e)

-- of a row: what it gives where its test holds is good
row : (k n : ℕ) (ok : Bool) (s rest : ℕ) → (ok ≡ true → Good s) → Good rest → Good (cond (eqb k n) (when ok s) rest)
row k n ok s rest f g = cond_has Good (eqb k n) (when ok s) rest (λ _. cond_has Good ok s 0 f (lit refl)) g

-- what an Extract and a Concat that pass have for places and widths
pub record Places (sa hi lo : ℕ) : Type 0 where
  pub ordered : lo ≤ hi
  pub inside : hi + 1 ≤ sa
  pub narrow : sa ≤ 80

pub extract-places : (sa hi lo : ℕ) → ((leb lo hi && ltb hi sa) && is_bits sa) ≡ true → Places sa hi lo
extract-places sa hi lo e =
    let t = and_l (leb lo hi && ltb hi sa) (is_bits sa) e in
    record {
      ordered = leb-true lo hi (and_l (leb lo hi) (ltb hi sa) t);
      inside = let h = ltb-true hi sa (and_r (leb lo hi) (ltb hi sa) t) in omega arith;
      narrow = bits-hi sa (and_r (leb lo hi && ltb hi sa) (is_bits sa) e);
    }

pub record Widths (sa sb : ℕ) : Type 0 where
  pub some : 1 ≤ sa
  pub sum : sa + sb ≤ 80

pub concat-widths : (sa sb : ℕ) (u : Bool) → (((is_bits sa && is_bits sb) && leb (sa + sb) 80) && u) ≡ true → Widths sa sb
concat-widths sa sb u e =
    let t = and_l ((is_bits sa && is_bits sb) && leb (sa + sb) 80) u e in
    record {
      some = bits-lo sa (and_l (is_bits sa) (is_bits sb) (and_l (is_bits sa && is_bits sb) (leb (sa + sb) 80) t));
      sum = leb-true (sa + sb) 80 (and_r (is_bits sa && is_bits sb) (leb (sa + sb) 80) t);
    }

module _ (k a b c sa sb sc : ℕ) where
  input : (eqb b 79 || eqb b 16) ≡ true → Good b
  input e = one_of b (eqb b 79) 16 e (lit refl) (λ g. is_one b 79 g (lit refl))

  ite : ((eqb sa 1 && is_bits sb) && eqb sb sc) ≡ true → Good sc
  ite e =
      bits-good sc
      (subst (λ (x : ℕ). is_bits x ≡ true) (eqb-true sb sc (and_r (eqb sa 1 && is_bits sb) (eqb sb sc) e))
      (and_r (eqb sa 1) (is_bits sb) (and_l (eqb sa 1 && is_bits sb) (eqb sb sc) e)))

  extract : ((leb c b && ltb b sa) && is_bits sa) ≡ true → Good (b - c + 1)
  extract e = let p = extract-places sa b c e in in-bits (b - c + 1) (omega arith) (omega arith)

  concat : (((is_bits sa && is_bits sb) && leb (sa + sb) 80) && eqb c 0) ≡ true → Good (sa + sb)
  concat e = let p = concat-widths sa sb (eqb c 0) e in in-bits (sa + sb) (omega arith) (omega arith)

  bits-row : (n rest : ℕ) → Good rest → Good (cond (eqb k n) (when ((is_bits sa && eqb sa sb) && eqb c 0) sb) rest)
  bits-row n rest g = row k n ((is_bits sa && eqb sa sb) && eqb c 0) sb rest (λ e. bits-good sb (same sa sb is_bits (and_l (is_bits sa && eqb sa sb) (eqb c 0) e))) g

  float-row : (n rest : ℕ) → Good rest → Good (cond (eqb k n) (when ((is_float sa && eqb sa sb) && leb c 1) sb) rest)
  float-row n rest g = row k n ((is_float sa && eqb sa sb) && leb c 1) sb rest (λ e. float_good sb (same sa sb is_float (and_l (is_float sa && eqb sa sb) (leb c 1) e))) g

  root-row : (n rest : ℕ) → Good rest → Good (cond (eqb k n) (when ((is_float sa && leb b 1) && eqb c 0) sa) rest)
  root-row n rest g = row k n ((is_float sa && leb b 1) && eqb c 0) sa rest (λ e. float_good sa (and_l (is_float sa) (leb b 1) (and_l (is_float sa && leb b 1) (eqb c 0) e))) g

  stored_row : (n rest : ℕ) → Good rest → Good (cond (eqb k n) (when (is_stored b && eqb c 0) b) rest)
  stored_row n rest g = row k n (is_stored b && eqb c 0) b rest (λ e. stored-good b (and_l (is_stored b) (eqb c 0) e)) g

  -- a row that gives one known sort
  plain : (n s rest : ℕ) (ok : Bool) → Good s → Good rest → Good (cond (eqb k n) (when ok s) rest)
  plain n s rest ok h g = row k n ok s rest (λ _. h) g

  pub row-good : Good (sort_row k a b c sa sb sc)
  unfolding sort_row
  row-good =
      row k 1 ((eqb b 79 || eqb b 16) && eqb c 0) b _ (λ e. input (and_l (eqb b 79 || eqb b 16) (eqb c 0) e))
      (stored_row 2 _ (stored_row 3 _
      (plain 4 _ _ ((eqb a 0 && eqb b 0) && eqb c 0) (lit refl)
      (plain 5 _ _ ((leb a 2 && eqb b 0) && eqb c 0) (lit refl)
      (row k 6 (is_bits c && ltb (b * 2 ^ 64 + a) (2 ^ c)) c _ (λ e. bits-good c (and_l (is_bits c) (ltb (b * 2 ^ 64 + a) (2 ^ c)) e))
      (bits-row 7 _ (bits-row 8 _
      (plain 9 _ _ ((is_bits sa && eqb sa sb) && eqb c 0) (lit refl)
      (plain 10 _ _ ((eqb sa 1 && eqb sb 1) && eqb c 0) (lit refl)
      (plain 11 _ _ ((eqb sa 1 && eqb sb 1) && eqb c 0) (lit refl)
      (plain 12 _ _ ((eqb sa 1 && eqb b 0) && eqb c 0) (lit refl)
      (row k 13 ((eqb sa 1 && is_bits sb) && eqb sb sc) sc _ ite
      (row k 14 ((leb c b && ltb b sa) && is_bits sa) (b - c + 1) _ extract
      (row k 15 (((is_bits sa && is_bits sb) && leb (sa + sb) 80) && eqb c 0) (sa + sb) _ concat
      (float-row 16 _ (float-row 17 _ (float-row 18 _ (float-row 19 _
      (plain 20 _ _ ((is_float sa && eqb sa sb) && eqb c 0) (lit refl)
      (plain 21 _ _ ((is_float sa && eqb sa sb) && eqb c 0) (lit refl)
      (plain 22 _ _ ((is_float sa && eqb b 0) && eqb c 0) (lit refl)
      (root-row 23 _ (root-row 24 _
      (row k 25 ((is_float c && eqb sa (pattern_width c)) && eqb b 0) c _ (λ e. float_good c (and_l (is_float c) (eqb sa (pattern_width c)) (and_l (is_float c && eqb sa (pattern_width c)) (eqb b 0) e)))
      (row k 26 ((is_float sa && eqb b 0) && eqb c 0) (pattern_width sa) _ (λ _. width-good sa)
      (row k 27 ((is_float sa && leb b 1) && is_word c) c _ (λ e. word_good c (and_r (is_float sa && leb b 1) (is_word c) e))
      (row k 28 ((is_word sa && leb b 1) && eqb c 3904) c _ (λ e. is_one c 3904 (and_r (is_word sa && leb b 1) (eqb c 3904) e) (lit refl))
      (row k 29 ((is_float sa && leb b 1) && is_float c) c 0 (λ e. float_good c (and_r (is_float sa && leb b 1) (is_float c) e)) (lit refl)))))))))))))))))))))))))))))

-- a sort is a small number
pub good-small : (s : ℕ) → Good s → s ≤ 3904
good-small s g =
    or_case (eqb s 0) (is_bits s || is_float s) g.is
    (λ h. let q = eqb-true s 0 h in omega arith)
    (λ h. or_case (is_bits s) (is_float s) h
    (λ b. let q = bits-hi s b in omega arith)
    (λ f. or_case (eqb s 2072 || eqb s 2869) (eqb s 3904) f
    (λ i. or_case (eqb s 2072) (eqb s 2869) i (λ j. let q = eqb-true s 2072 j in omega arith) (λ j. let q = eqb-true s 2869 j in omega arith))
    (λ j. let q = eqb-true s 3904 j in omega arith)))
