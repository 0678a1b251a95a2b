-- What a float is made of: its first operand suits its format.
use Rattle.std.specs.Prelude.{◌≡◌, refl, Bool, true, false, cond, ◌&&◌, ◌||◌, List, ℕ, ◌+◌, ◌≤◌, ◌<◌, get_or}
use Rattle.std.proofs.Common.{◌∙◌, arith}
use borrow.Author.Tests.{eqb-true, leb-true, lt-ltb}
use Rattle.std.proofs.Math.Dec.{leb, eqb}
use Rattle.words.specs.Tests.{and_l, and_r, and_i, or_l, or_r, or_case}
use Rattle.sorts.specs.Sorts.{is_bits, is_float, is_stored, is_word, pattern_width, sort_row}
use Rattle.sorts.specs.Lists.{field}
use Rattle.sorts.specs.Good.{bits-hi, extract-places, same}
use Rattle.sorts.specs.Laws.{Passes}
use Rattle.needs.specs.Needed.{arity}
use Rattle.smttext.specs.Names.{kind_at, declared_is}
use Rattle.smtgrammar.specs.State.{limit}
use Rattle.smtgrammar.specs.Present.{below, some_float, some_word, source, suits}
use Rattle.smtcomplete.specs.Facts.{Sum, add, sub, mul, div, by_row, sort_at, own_row, has-sort}

-- a number that is one of three
pub by-float : (P : ℕ → Type 0) (s : ℕ) → is_float s ≡ true → P 2072 → P 2869 → P 3904 → P s
by-float P s e a b c =
    or_case (eqb s 2072 || eqb s 2869) (eqb s 3904) e
    (λ f. or_case (eqb s 2072) (eqb s 2869) f (λ q. rw (eqb-true s 2072 q) a) (λ q. rw (eqb-true s 2869 q) b))
    (λ q. rw (eqb-true s 3904 q) c)

pub by_word : (P : ℕ → Type 0) (s : ℕ) → is_word s ≡ true → P 16 → P 32 → P 64 → P s
by_word P s e a b c =
    or_case (eqb s 16 || eqb s 32) (eqb s 64) e
    (λ f. or_case (eqb s 16) (eqb s 32) f (λ q. rw (eqb-true s 16 q) a) (λ q. rw (eqb-true s 32 q) b))
    (λ q. rw (eqb-true s 64 q) c)

float-wide : (s : ℕ) → is_float s ≡ true → 2072 ≤ s
float-wide s e = by-float (λ s. 2072 ≤ s) s e (omega arith) (omega arith) (omega arith)

word_small : (s : ℕ) → is_word s ≡ true → s ≤ 80
word_small s e = by_word (λ s. s ≤ 80) s e (omega arith) (omega arith) (omega arith)

pub stored-small : (s : ℕ) → is_stored s ≡ true → s ≤ 80
stored-small s e = or_case (is_word s) (eqb s 80) e (word_small s) (λ q. let z = eqb-true s 80 q in omega arith)

pub input-small : (b : ℕ) → (eqb b 79 || eqb b 16) ≡ true → b ≤ 80
input-small b e =
    or_case (eqb b 79) (eqb b 16) e (λ q. let z = eqb-true b 79 q in omega arith) (λ q. let z = eqb-true b 16 q in omega arith)

pub width_small : (f : ℕ) → pattern_width f ≤ 80
width_small f = go (eqb f 2072) (eqb f 2869)
  where
    go : (s t : Bool) → cond s 32 (cond t 64 79) ≤ 80
    go true t = omega arith
    go false true = omega arith
    go false false = omega arith

-- a kind whose sort is a float is defined, and its first operand suits the format
pub record Made (k s sa : ℕ) : Type 0 where
  pub defined : declared_is k ≡ false
  pub has : 1 ≤ arity k
  pub suits : suits s sa ≡ true

pub suits-float : (f s : ℕ) → is_float s ≡ true → suits f s ≡ true
suits-float f s e = or_l (eqb s (pattern_width f) || is_float s) (eqb f 3904 && is_word s) (or_r (eqb s (pattern_width f)) (is_float s) e)

pub sum-defined : (j : ℕ) → Sum j → declared_is j ≡ false
sum-defined j add = refl
sum-defined j sub = refl
sum-defined j mul = refl
sum-defined j div = refl

sum-has : (j : ℕ) → Sum j → 1 ≤ arity j
unfolding arity
sum-has j add = omega arith
sum-has j sub = omega arith
sum-has j mul = omega arith
sum-has j div = omega arith

module _ (a b c sa sb sc : ℕ) where
  row_made : (k : ℕ) → (sort_row k a b c sa sb sc ≡ 0 → ⊥) → 2072 ≤ sort_row k a b c sa sb sc → Made k (sort_row k a b c sa sb sc) sa
  unfolding arity
  row_made k =
      by_row (λ k s. 2072 ≤ s → Made k s sa) k a b c sa sb sc
      (λ e. small 1 b (input-small b (and_l (eqb b 79 || eqb b 16) (eqb c 0) e)))
      (λ e. small 2 b (stored-small b (and_l (is_stored b) (eqb c 0) e)))
      (λ e. small 3 b (stored-small b (and_l (is_stored b) (eqb c 0) e)))
      (λ e. small 4 16 (omega arith))
      (λ e. small 5 1 (omega arith))
      (λ e. small 6 c (bits-hi c (and_l (is_bits c) _ e)))
      (λ e. small 7 sb (pair_small e))
      (λ e. small 8 sb (pair_small e))
      (λ e. small 9 1 (omega arith))
      (λ e. small 10 1 (omega arith))
      (λ e. small 11 1 (omega arith))
      (λ e. small 12 1 (omega arith))
      (λ e. small 13 sc (let q = bits-hi sb (and_r (eqb sa 1) (is_bits sb) (and_l (eqb sa 1 && is_bits sb) (eqb sb sc) e)) in
      let z = eqb-true sb sc (and_r (eqb sa 1 && is_bits sb) (eqb sb sc) e) in omega arith))
      (λ e. small 14 _ (let q = extract-places sa b c e in omega arith))
      (λ e. small 15 _ (leb-true (sa + sb) 80 (and_r (is_bits sa && is_bits sb) (leb (sa + sb) 80) (and_l ((is_bits sa && is_bits sb) && leb (sa + sb) 80) (eqb c 0) e))))
      sums
      (λ e. small 20 1 (omega arith))
      (λ e. small 21 1 (omega arith))
      (λ e. small 22 1 (omega arith))
      (λ e _. record { defined = refl; has = omega arith; suits = suits-float sa sa (and_l (is_float sa) (leb b 1) (and_l (is_float sa && leb b 1) (eqb c 0) e)) })
      (λ e _. record { defined = refl; has = omega arith; suits = suits-float sa sa (and_l (is_float sa) (leb b 1) (and_l (is_float sa && leb b 1) (eqb c 0) e)) })
      (λ e _. record {
        defined = refl;
        has = omega arith;
        suits = or_l (eqb sa (pattern_width c) || is_float sa) _
            (or_l (eqb sa (pattern_width c)) _ (and_r (is_float c) _ (and_l (is_float c && eqb sa (pattern_width c)) (eqb b 0) e)));
      })
      (λ e. small 26 _ (width_small sa))
      (λ e. small 27 c (word_small c (and_r (is_float sa && leb b 1) (is_word c) e)))
      (λ e _. record {
        defined = refl;
        has = omega arith;
        suits = or_r (eqb sa (pattern_width c) || is_float sa) (eqb c 3904 && is_word sa)
            (and_i (eqb c 3904) (is_word sa) (and_r (is_word sa && leb b 1) (eqb c 3904) e) (and_l (is_word sa) (leb b 1) (and_l (is_word sa && leb b 1) (eqb c 3904) e)));
      })
      (λ e _. record { defined = refl; has = omega arith; suits = suits-float c sa (and_l (is_float sa) (leb b 1) (and_l (is_float sa && leb b 1) (is_float c) e)) })
    where
      small : (k s : ℕ) → s ≤ 80 → 2072 ≤ s → Made k s sa
      small k s h l = absurd (omega arith)

      pair_small : ((is_bits sa && eqb sa sb) && eqb c 0) ≡ true → sb ≤ 80
      pair_small e = bits-hi sb (same sa sb is_bits (and_l (is_bits sa && eqb sa sb) (eqb c 0) e))

      sums : (j : ℕ) → Sum j → ((is_float sa && eqb sa sb) && leb c 1) ≡ true → 2072 ≤ sb → Made j sb sa
      sums j h e _ = record { defined = sum-defined j h; has = sum-has j h; suits = suits-float sb sa (and_l (is_float sa) (eqb sa sb) (and_l (is_float sa && eqb sa sb) (leb c 1) e)) }

module _ (w : List ℕ) (n : ℕ) (passes : Passes w n) where
  -- of a node that is a float
  pub node_made : (j : ℕ) → j < n → is_float (sort_at w n j) ≡ true → Made (kind_at w j) (sort_at w n j) (sort_at w n (field w j 1))
  node_made j h e =
      rw (own_row w n passes j h)
      (row_made (field w j 1) (field w j 2) (field w j 3) _ _ _ (kind_at w j)
      (rw (own_row w n passes j h) at (has-sort w n passes j h))
      (rw (own_row w n passes j h) at (float-wide (sort_at w n j) e)))

  pub has-kind : (j : ℕ) → j < n → kind_at w j ≡ 0 → ⊥
  unfolding sort_row
  has-kind j h e = has-sort w n passes j h (own_row w n passes j h ∙ rw e)

-- what is below a number by the lowest of its sort
module _ (lowest : List ℕ) (s q : ℕ) (under : get_or lowest s limit < q) where
  pub some-float : is_float s ≡ true → some_float lowest q ≡ true
  some-float e =
      by-float (λ s. below lowest s q ≡ true → some_float lowest q ≡ true) s e
      (λ h. or_l (below lowest 2072 q || below lowest 2869 q) _ (or_l (below lowest 2072 q) _ h))
      (λ h. or_l (below lowest 2072 q || below lowest 2869 q) _ (or_r (below lowest 2072 q) _ h))
      (λ h. or_r (below lowest 2072 q || below lowest 2869 q) _ h)
      (lt-ltb _ _ under)

  pub some_word_lem : is_word s ≡ true → some_word lowest q ≡ true
  some_word_lem e =
      by_word (λ s. below lowest s q ≡ true → some_word lowest q ≡ true) s e
      (λ h. or_l (below lowest 16 q || below lowest 32 q) _ (or_l (below lowest 16 q) _ h))
      (λ h. or_l (below lowest 16 q || below lowest 32 q) _ (or_r (below lowest 16 q) _ h))
      (λ h. or_r (below lowest 16 q || below lowest 32 q) _ h)
      (lt-ltb _ _ under)

  -- what suits a format is a source of it, and of the widest one
  pub source_of : (f : ℕ) → suits f s ≡ true → source lowest f q ≡ true
  source_of f e =
      or_case (eqb s (pattern_width f) || is_float s) (eqb f 3904 && is_word s) e
      (λ g. or_l (below lowest (pattern_width f) q || some_float lowest q) _
      (or_case (eqb s (pattern_width f)) (is_float s) g
      (λ p. or_l (below lowest (pattern_width f) q) _ (rw (eqb-true s (pattern_width f) p) at (lt-ltb (get_or lowest s limit) q under)))
      (λ p. or_r (below lowest (pattern_width f) q) _ (some-float p))))
      (λ g. or_r (below lowest (pattern_width f) q || some_float lowest q) _
      (and_i (eqb f 3904) (some_word lowest q) (and_l (eqb f 3904) (is_word s) g) (some_word_lem (and_r (eqb f 3904) (is_word s) g))))

  widest : (f : ℕ) → is_float f ≡ true → suits f s ≡ true → suits 3904 s ≡ true
  widest f h e =
      or_case (eqb s (pattern_width f) || is_float s) (eqb f 3904 && is_word s) e
      (λ g. or_case (eqb s (pattern_width f)) (is_float s) g
      (λ p. let z = eqb-true s (pattern_width f) p in rw z (by-float (λ f. suits 3904 (pattern_width f) ≡ true) f h refl refl refl))
      (suits-float 3904 s))
      (λ g. or_r (eqb s 79 || is_float s) (is_word s) (and_r (eqb f 3904) (is_word s) g))

  pub source-any : (f : ℕ) → is_float f ≡ true → suits f s ≡ true → source lowest 3904 q ≡ true
  source-any f h e = source_of 3904 (widest f h e)
