-- Each operand of a node with a sort has one
use Rattle.std.specs.Prelude.{◌≡◌, refl, Bool, true, false, cond, ◌&&◌, ◌||◌, List, [], ◌∷◌, ℕ, ◌+◌, ◌*◌, ◌^◌, leb, ltb, eqb, get_or}
use Rattle.std.proofs.Common.{sym, ◌∙◌, arith, eqb-true}
use Rattle.words.specs.Tests.{and_l, and_r}
use Rattle.sorts.specs.Sorts.{when, is_bits, is_float, is_stored, is_word, pattern_width, sort_row}
use Rattle.sorts.specs.Lists.{field, row_sort}
use Rattle.agreement.proofs.Fine.{Some}
use Rattle.agreement.proofs.Fine.Kinds.{bits-some, word_some, float-some, width_some}
use Rattle.agreement.specs.Operands.{operands_of, operands_at, Each}

pub each_map : {P Q : ℕ → Type 0} → ((v : ℕ) → P v → Q v) → (l : List ℕ) → Each P l → Each Q l
unfolding Each
each_map f [] p = tt
each_map f (v ∷ l) p = (f v p.0, each_map f l p.1)

-- A row that has a sort is of a kind, and its test holds
at_row : {P : Type 0} (k n : ℕ) (ok : Bool) (s rest : ℕ) → (k ≡ n → ok ≡ true → P) → (Some rest → P) → Some (cond (eqb k n) (when ok s) rest) → P
at_row {P = P} k n ok s rest f g h = way (eqb k n) ok refl refl h
  where
    way : (t u : Bool) → eqb k n ≡ t → ok ≡ u → Some (cond t (when u s) rest) → P
    way true true p q h = f (eqb-true k n p) q
    way true false p q h = absurd (h refl)
    way false u p q h = g h

-- What the tests of the table say of the operands' sorts
first : (x y z : Bool) → ((x && y) && z) ≡ true → x ≡ true
first x y z e = and_l x y (and_l (x && y) z e)

second : (x y z : Bool) → ((x && y) && z) ≡ true → y ≡ true
second x y z e = and_r x y (and_l (x && y) z e)

one-some : (s : ℕ) → eqb s 1 ≡ true → Some s
one-some s e z = let q = eqb-true s 1 e in omega arith

both : (is : ℕ → Bool) → ((s : ℕ) → is s ≡ true → Some s) → (s t : ℕ) (u : Bool) → ((is s && eqb s t) && u) ≡ true → Each Some (s ∷ t ∷ [])
unfolding Each
both is f s t u e =
    let x = f s (first (is s) (eqb s t) u e) in
    (x, (λ z. x (eqb-true s t (second (is s) (eqb s t) u e) ∙ z), tt))

pair : (is is' : ℕ → Bool) → ((s : ℕ) → is s ≡ true → Some s) → ((s : ℕ) → is' s ≡ true → Some s) → (s t : ℕ) (u : Bool) → ((is s && is' t) && u) ≡ true → Each Some (s ∷ t ∷ [])
unfolding Each
pair is is' f g s t u e = (f s (first (is s) (is' t) u e), (g t (second (is s) (is' t) u e), tt))

alone : (is : ℕ → Bool) → ((s : ℕ) → is s ≡ true → Some s) → (s : ℕ) (x u : Bool) → ((is s && x) && u) ≡ true → Each Some (s ∷ [])
unfolding Each
alone is f s x u e = (f s (first (is s) x u e), tt)

-- EACH OPERAND OF A NODE THAT HAS A SORT HAS ONE
operands-some : (k a b c sa sb sc : ℕ) → Some (sort_row k a b c sa sb sc) → Each Some (operands_of k sa sb sc)
unfolding sort_row operands_of Each
operands-some k a b c sa sb sc =
    at_row k 1 ((eqb b 79 || eqb b 16) && eqb c 0) _ _ (λ q e. rw q tt)
    (at_row k 2 (is_stored b && eqb c 0) _ _ (λ q e. rw q tt)
    (at_row k 3 (is_stored b && eqb c 0) _ _ (λ q e. rw q tt)
    (at_row k 4 ((eqb a 0 && eqb b 0) && eqb c 0) _ _ (λ q e. rw q tt)
    (at_row k 5 ((leb a 2 && eqb b 0) && eqb c 0) _ _ (λ q e. rw q tt)
    (at_row k 6 (is_bits c && ltb (b * 2 ^ 64 + a) (2 ^ c)) _ _ (λ q e. rw q tt)
    (at_row k 7 ((is_bits sa && eqb sa sb) && eqb c 0) _ _ (λ q e. rw q (both is_bits bits-some sa sb _ e))
    (at_row k 8 ((is_bits sa && eqb sa sb) && eqb c 0) _ _ (λ q e. rw q (both is_bits bits-some sa sb _ e))
    (at_row k 9 ((is_bits sa && eqb sa sb) && eqb c 0) _ _ (λ q e. rw q (both is_bits bits-some sa sb _ e))
    (at_row k 10 ((eqb sa 1 && eqb sb 1) && eqb c 0) _ _ (λ q e. rw q (pair is_one is_one one-some one-some sa sb _ e))
    (at_row k 11 ((eqb sa 1 && eqb sb 1) && eqb c 0) _ _ (λ q e. rw q (pair is_one is_one one-some one-some sa sb _ e))
    (at_row k 12 ((eqb sa 1 && eqb b 0) && eqb c 0) _ _ (λ q e. rw q (alone is_one one-some sa _ _ e))
    (at_row k 13 ((eqb sa 1 && is_bits sb) && eqb sb sc) _ _ (λ q e. rw q (three e))
    (at_row k 14 ((leb c b && ltb b sa) && is_bits sa) _ _ (λ q e. rw q (places e))
    (at_row k 15 (((is_bits sa && is_bits sb) && leb (sa + sb) 80) && eqb c 0) _ _ (λ q e. rw q (widths e))
    (at_row k 16 ((is_float sa && eqb sa sb) && leb c 1) _ _ (λ q e. rw q (both is_float float-some sa sb _ e))
    (at_row k 17 ((is_float sa && eqb sa sb) && leb c 1) _ _ (λ q e. rw q (both is_float float-some sa sb _ e))
    (at_row k 18 ((is_float sa && eqb sa sb) && leb c 1) _ _ (λ q e. rw q (both is_float float-some sa sb _ e))
    (at_row k 19 ((is_float sa && eqb sa sb) && leb c 1) _ _ (λ q e. rw q (both is_float float-some sa sb _ e))
    (at_row k 20 ((is_float sa && eqb sa sb) && eqb c 0) _ _ (λ q e. rw q (both is_float float-some sa sb _ e))
    (at_row k 21 ((is_float sa && eqb sa sb) && eqb c 0) _ _ (λ q e. rw q (both is_float float-some sa sb _ e))
    (at_row k 22 ((is_float sa && eqb b 0) && eqb c 0) _ _ (λ q e. rw q (alone is_float float-some sa _ _ e))
    (at_row k 23 ((is_float sa && leb b 1) && eqb c 0) _ _ (λ q e. rw q (alone is_float float-some sa _ _ e))
    (at_row k 24 ((is_float sa && leb b 1) && eqb c 0) _ _ (λ q e. rw q (alone is_float float-some sa _ _ e))
    (at_row k 25 ((is_float c && eqb sa (pattern_width c)) && eqb b 0) _ _ (λ q e. rw q (pattern e))
    (at_row k 26 ((is_float sa && eqb b 0) && eqb c 0) _ _ (λ q e. rw q (alone is_float float-some sa _ _ e))
    (at_row k 27 ((is_float sa && leb b 1) && is_word c) _ _ (λ q e. rw q (alone is_float float-some sa _ _ e))
    (at_row k 28 ((is_word sa && leb b 1) && eqb c 3904) _ _ (λ q e. rw q (alone is_word word_some sa _ _ e))
    (at_row k 29 ((is_float sa && leb b 1) && is_float c) _ _ (λ q e. rw q (alone is_float float-some sa _ _ e))
    (λ h. absurd (h refl))))))))))))))))))))))))))))))
  where
    is_one : ℕ → Bool
    is_one s = eqb s 1

    three : ((eqb sa 1 && is_bits sb) && eqb sb sc) ≡ true → Each Some (sa ∷ sb ∷ sc ∷ [])
    three e =
        let x = bits-some sb (second (eqb sa 1) (is_bits sb) (eqb sb sc) e) in
        (one-some sa (first (eqb sa 1) (is_bits sb) (eqb sb sc) e), (x, (λ z. x (eqb-true sb sc (and_r (eqb sa 1 && is_bits sb) (eqb sb sc) e) ∙ z), tt)))

    places : ((leb c b && ltb b sa) && is_bits sa) ≡ true → Each Some (sa ∷ [])
    places e = (bits-some sa (and_r (leb c b && ltb b sa) (is_bits sa) e), tt)

    widths : (((is_bits sa && is_bits sb) && leb (sa + sb) 80) && eqb c 0) ≡ true → Each Some (sa ∷ sb ∷ [])
    widths e = pair is_bits is_bits bits-some bits-some sa sb _ (and_l ((is_bits sa && is_bits sb) && leb (sa + sb) 80) (eqb c 0) e)

    pattern : ((is_float c && eqb sa (pattern_width c)) && eqb b 0) ≡ true → Each Some (sa ∷ [])
    pattern e = (λ z. width_some c (sym (eqb-true sa (pattern_width c) (second (is_float c) (eqb sa (pattern_width c)) (eqb b 0) e)) ∙ z), tt)

-- .. of row n of a list's words, where l has the sorts of the rows before it
each-operand : (P : ℕ → Type 0) (k : ℕ) (f : ℕ → ℕ) (a b c : ℕ) → Each P (operands_of k (f a) (f b) (f c)) → Each (λ (v : ℕ). P (f v)) (operands_of k a b c)
unfolding operands_of Each
each-operand P k f a b c = way (leb k 6) ((leb k 11 || eqb k 15) || (leb 16 k && leb k 21)) (eqb k 13)
  where
    way : (x y z : Bool) → Each P (cond x [] (cond y (f a ∷ f b ∷ []) (cond z (f a ∷ f b ∷ f c ∷ []) (f a ∷ []))))
        → Each (λ (v : ℕ). P (f v)) (cond x [] (cond y (a ∷ b ∷ []) (cond z (a ∷ b ∷ c ∷ []) (a ∷ []))))
    way true y z p = p
    way false true z p = p
    way false false true p = p
    way false false false p = p

pub operands-at : (w l : List ℕ) (n : ℕ) → Some (row_sort w n l) → Each (λ (v : ℕ). Some (get_or l v 0)) (operands_at w n)
unfolding row_sort
operands-at w l n h =
    each-operand Some (get_or w (4 * n) 0) (λ (v : ℕ). get_or l v 0) (field w n 1) (field w n 2) (field w n 3) (operands-some _ _ _ _ _ _ _ h)
