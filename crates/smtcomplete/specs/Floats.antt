-- The term of each kind that a row allows is a run to the end of its line: terms of floats, and all of them.
use Rattle.std.specs.Prelude.{◌≡◌, cond, ◌&&◌, ◌||◌, List, ◌++◌, ℕ, zero, suc, ◌+◌, ◌^◌, ◌≤◌, ◌<◌}
use Rattle.std.proofs.Math.Path.{refl}
use Rattle.std.proofs.Common.{sym, arith}
use Rattle.std.proofs.Math.Bool.{true, false}
use borrow.Author.Tests.{eqb-true, eq-eqb, leb-true, lt-ltb}
use Rattle.std.proofs.Math.Dec.{leb, eqb}
use Rattle.viable.specs.Grammar.{clash}
use Rattle.words.specs.Tests.{and_l, and_r, and_i, or_l, or_r, or_case}
use Rattle.sorts.specs.Sorts.{is_bits, is_float, is_word, pattern_width, sort_row}
use Rattle.sorts.specs.Good.{same}
use Rattle.writing.specs.Bytes.{bytes}
use Rattle.needs.specs.Needed.{arity}
use Rattle.smttext.specs.Names.{declared_is, rounding_text}
use Rattle.smtgrammar.specs.declared.Place.{Place}
use Rattle.smtgrammar.specs.State.{Tables}
use Rattle.smtgrammar.specs.Present.{suits, some_float, some_word}
use Rattle.smtgrammar.specs.Allowed.{opening_ok, sort_taken, word_ok}
use Rattle.smtgrammar.specs.Tokens.{opening_text, mark_text}
use Rattle.smtgrammar.specs.Next.{defined, termed, opened}
use Rattle.smtcomplete.specs.Lines.{both}
use Rattle.smtcomplete.specs.Facts.{Sum, add, sub, mul, div, by_row}
use Rattle.smtcomplete.specs.Sources.{by-float, by_word, some-float, some_word_lem, source_of, suits-float}
use Rattle.smtcomplete.specs.Defining.{says, ends, Op, at_line, at, Term, opens, first₁₀, only₁₀, only₉, second, rounds}
use Rattle.smtcomplete.specs.Texts.{ended, text-sum, text-20, text-21, text-22, text-23, text-24, text-25, text-27, text-28, text-29}
use Rattle.smtcomplete.specs.Kinds.{binary, unary, term-6, term-7, term-8, term-9, term-10, term-11, term-12, term-13, term-14, term-15}

float-not-bits : (s : ℕ) → is_float s ≡ true → is_bits s ≡ false
float-not-bits s e = by-float (λ s. is_bits s ≡ false) s e refl refl refl

word-is-bits : (s : ℕ) → is_word s ≡ true → is_bits s ≡ true
word-is-bits s e = by_word (λ s. is_bits s ≡ true) s e refl refl refl

word-not-float : (s : ℕ) → is_word s ≡ true → is_float s ≡ false
word-not-float s e = by_word (λ s. is_float s ≡ false) s e refl refl refl

sum-two : (j : ℕ) → Sum j → 2 ≤ arity j
unfolding arity
sum-two j add = omega arith
sum-two j sub = omega arith
sum-two j mul = omega arith
sum-two j div = omega arith

-- the word of a rounding is one of two
two : (r : ℕ) → r ≤ 1 → (eqb (r + 1) 1 || eqb (r + 1) 2) ≡ true
two zero h = refl
two (suc zero) h = refl
two (suc (suc r)) h = absurd (omega arith)

module _ (t : Tables) (p : Place) (i after a b c sa sb sc : ℕ) (x y z : List ℕ) where
  -- a rounding with two operands, and with one
  rounded₂ : (s k : ℕ) → k < 28 → opened t p (at_line t p i s after 8 0 0 0 0) k ≡ at t p i s after 9 k 0 0 0 → leb 2 (arity k) ≡ true → eqb k 13 ≡ false
      → eqb k 25 ≡ false → c ≤ 1 → word_ok t p (at_line t p i s after 9 k 0 0 0) (c + 1) ≡ true
      → opening_ok t p (at_line t p i s after 8 0 0 0 0) k ≡ true
      → sort_taken t p (at_line t p i s after 10 k 0 0 c) 0 sa ≡ true
      → sort_taken t p (at_line t p i s after 11 k a 0 c) 1 sb ≡ true
      → termed t p (at_line t p i s after 11 k a 0 c) a b 0 ≡ defined t p (at_line t p i s after 8 0 0 0 0) k a b c
      → Op t i a sa x → Op t i b sb y
      → Term t p i s after (opening_text k s ++ ((rounding_text c ++ bytes " ") ++ ((x ++ mark_text k 0) ++ (y ++ mark_text k 1)))) k a b c
  rounded₂ s k few o pair l m r v e f g d oa ob =
      let u = rounds t p i s after k c r v in
      both (opens t p i s after k _ few e o)
      (both (rw m at u)
      (both (first₁₀ t p i s after a sa x oa k c pair f) (ends d (second t p i s after b sb y ob k a c l g))))

  rounded₁ : (s k : ℕ) → k < 28 → opened t p (at_line t p i s after 8 0 0 0 0) k ≡ at t p i s after 9 k 0 0 0 → leb 2 (arity k) ≡ false
      → eqb k 25 ≡ false → b ≤ 1 → word_ok t p (at_line t p i s after 9 k 0 0 0) (b + 1) ≡ true
      → opening_ok t p (at_line t p i s after 8 0 0 0 0) k ≡ true
      → sort_taken t p (at_line t p i s after 10 k 0 0 b) 0 sa ≡ true
      → termed t p (at_line t p i s after 10 k 0 0 b) a 0 0 ≡ defined t p (at_line t p i s after 8 0 0 0 0) k a b c
      → Op t i a sa x
      → Term t p i s after (opening_text k s ++ ((rounding_text b ++ bytes " ") ++ (x ++ mark_text k 0))) k a b c
  rounded₁ s k few o one m r v e f d oa =
      let u = rounds t p i s after k b r v in
      both (opens t p i s after k _ few e o) (both (rw m at u) (ends d (only₁₀ t p i s after a sa x oa k b one f)))

  -- FAdd, FSub, FMul, FDiv
  term-sum : (k : ℕ) → Sum k → ((is_float sa && eqb sa sb) && leb c 1) ≡ true → Op t i a sa x → Op t i b sb y → Term t p i sb after (ended a b c sb x y z k) k a b c
  unfolding opened opening_ok sort_taken word_ok termed defined arity
  term-sum k h e oa ob = says (text-sum a b c sb x y z k h) (go k h)
    where
      q : (is_float sa && eqb sa sb) ≡ true
      q = and_l (is_float sa && eqb sa sb) (leb c 1) e

      r : c ≤ 1
      r = leb-true c 1 (and_r (is_float sa && eqb sa sb) (leb c 1) e)

      f : eqb sa sb ≡ true
      f = and_r (is_float sa) (eqb sa sb) q

      not-bits : is_bits sb ≡ false
      not-bits = float-not-bits sb (same sa sb is_float q)

      v : (eqb (c + 1) 1 || eqb (c + 1) 2) ≡ true
      v = two c r

      go : (k : ℕ) → Sum k → Term t p i sb after (opening_text k sb ++ ((rounding_text c ++ bytes " ") ++ ((x ++ mark_text k 0) ++ (y ++ mark_text k 1)))) k a b c
      go k add = rounded₂ sb 16 (omega arith) refl refl refl refl r (rw v) (rw (not-bits, lt-ltb _ _ ob.under)) f (eq-eqb sb sb refl) refl oa ob
      go k sub = rounded₂ sb 17 (omega arith) refl refl refl refl r (rw v) (rw (not-bits, lt-ltb _ _ ob.under)) f (eq-eqb sb sb refl) refl oa ob
      go k mul = rounded₂ sb 18 (omega arith) refl refl refl refl r (rw v) (rw (not-bits, lt-ltb _ _ ob.under)) f (eq-eqb sb sb refl) refl oa ob
      go k div = rounded₂ sb 19 (omega arith) refl refl refl refl r (rw v) (rw (not-bits, lt-ltb _ _ ob.under)) f (eq-eqb sb sb refl) refl oa ob

  -- FEq, FLt, FIsNaN
  term-20 : ((is_float sa && eqb sa sb) && eqb c 0) ≡ true → Op t i a sa x → Op t i b sb y → Term t p i 1 after (ended a b c 1 x y z 20) 20 a b c
  unfolding opened opening_ok sort_taken termed defined arity
  term-20 e oa ob =
      let q = and_l (is_float sa && eqb sa sb) (eqb c 0) e in
      let n = eqb-true c 0 (and_r (is_float sa && eqb sa sb) (eqb c 0) e) in
      let f = and_l (is_float sa) (eqb sa sb) q in
      says (text-20 a b c 1 x y z)
      (binary t p i after a b c sa sb sc x y z 1 20 (omega arith) refl refl refl (rw (some-float t.lowest sa i oa.under f)) f
      (rw oa.sort (eq-eqb sb sa (sym (eqb-true sa sb (and_r (is_float sa) (eqb sa sb) q))))) (rw n) oa ob)

  term-21 : ((is_float sa && eqb sa sb) && eqb c 0) ≡ true → Op t i a sa x → Op t i b sb y → Term t p i 1 after (ended a b c 1 x y z 21) 21 a b c
  unfolding opened opening_ok sort_taken termed defined arity
  term-21 e oa ob =
      let q = and_l (is_float sa && eqb sa sb) (eqb c 0) e in
      let n = eqb-true c 0 (and_r (is_float sa && eqb sa sb) (eqb c 0) e) in
      let f = and_l (is_float sa) (eqb sa sb) q in
      says (text-21 a b c 1 x y z)
      (binary t p i after a b c sa sb sc x y z 1 21 (omega arith) refl refl refl (rw (some-float t.lowest sa i oa.under f)) f
      (rw oa.sort (eq-eqb sb sa (sym (eqb-true sa sb (and_r (is_float sa) (eqb sa sb) q))))) (rw n) oa ob)

  term-22 : ((is_float sa && eqb b 0) && eqb c 0) ≡ true → Op t i a sa x → Term t p i 1 after (ended a b c 1 x y z 22) 22 a b c
  unfolding opened opening_ok sort_taken termed defined arity
  term-22 e oa =
      let q = and_l (is_float sa && eqb b 0) (eqb c 0) e in
      let n = eqb-true c 0 (and_r (is_float sa && eqb b 0) (eqb c 0) e) in
      let r = eqb-true b 0 (and_r (is_float sa) (eqb b 0) q) in
      let f = and_l (is_float sa) (eqb b 0) q in
      says (text-22 a b c 1 x y z)
      (unary t p i after a b c sa sb sc x y z 1 22 (omega arith) refl refl (rw (some-float t.lowest sa i oa.under f)) f (rw (n, r)) oa)

  -- FSqrt, FRoundToIntegral
  term-23 : ((is_float sa && leb b 1) && eqb c 0) ≡ true → Op t i a sa x → Term t p i sa after (ended a b c sa x y z 23) 23 a b c
  unfolding opened opening_ok sort_taken word_ok termed defined arity
  term-23 e oa =
      let q = and_l (is_float sa && leb b 1) (eqb c 0) e in
      let n = eqb-true c 0 (and_r (is_float sa && leb b 1) (eqb c 0) e) in
      let r = leb-true b 1 (and_r (is_float sa) (leb b 1) q) in
      says (text-23 a b c sa x y z)
      (rounded₁ sa 23 (omega arith) refl refl refl r (rw (two b r)) (rw (float-not-bits sa (and_l (is_float sa) (leb b 1) q), lt-ltb _ _ oa.under)) (eq-eqb sa sa refl) (rw n) oa)

  term-24 : ((is_float sa && leb b 1) && eqb c 0) ≡ true → Op t i a sa x → Term t p i sa after (ended a b c sa x y z 24) 24 a b c
  unfolding opened opening_ok sort_taken word_ok termed defined arity
  term-24 e oa =
      let q = and_l (is_float sa && leb b 1) (eqb c 0) e in
      let n = eqb-true c 0 (and_r (is_float sa && leb b 1) (eqb c 0) e) in
      let r = leb-true b 1 (and_r (is_float sa) (leb b 1) q) in
      says (text-24 a b c sa x y z)
      (rounded₁ sa 24 (omega arith) refl refl refl r (rw (two b r)) (rw (float-not-bits sa (and_l (is_float sa) (leb b 1) q), lt-ltb _ _ oa.under)) (eq-eqb sa sa refl) (rw n) oa)

  -- BvToFp
  term-25 : ((is_float c && eqb sa (pattern_width c)) && eqb b 0) ≡ true → Op t i a sa x → Term t p i c after (ended a b c c x y z 25) 25 a b c
  unfolding opened opening_ok sort_taken termed defined arity
  term-25 e oa =
      let q = and_l (is_float c && eqb sa (pattern_width c)) (eqb b 0) e in
      let n = eqb-true b 0 (and_r (is_float c && eqb sa (pattern_width c)) (eqb b 0) e) in
      let f = and_r (is_float c) (eqb sa (pattern_width c)) q in
      let u : suits c sa ≡ true = or_l (eqb sa (pattern_width c) || is_float sa) _ (or_l (eqb sa (pattern_width c)) _ f) in
      says (text-25 a b c c x y z)
      (both (opens t p i c after 25 (at t p i c after 9 25 0 0 0) (omega arith)
      (rw (float-not-bits c (and_l (is_float c) (eqb sa (pattern_width c)) q)) (source_of t.lowest sa i oa.under c u)) refl)
      (ends (rw n) (only₉ t p i c after a sa x oa 25 refl refl f)))

  -- FpToSbv
  term-27 : ((is_float sa && leb b 1) && is_word c) ≡ true → Op t i a sa x → Term t p i c after (ended a b c c x y z 27) 27 a b c
  unfolding opened opening_ok sort_taken word_ok termed defined arity
  term-27 e oa =
      let q = and_l (is_float sa && leb b 1) (is_word c) e in
      let n = and_r (is_float sa && leb b 1) (is_word c) e in
      let r = leb-true b 1 (and_r (is_float sa) (leb b 1) q) in
      let f = and_l (is_float sa) (leb b 1) q in
      says (text-27 a b c c x y z)
      (rounded₁ c 27 (omega arith) refl refl refl r (rw (two b r)) (rw (word-is-bits c n, n) (some-float t.lowest sa i oa.under f)) f refl oa)

  -- SbvToFp, FpToFp
  converts : (k : ℕ) → is_float c ≡ true → b ≤ 1 → (is_float sa || (eqb c 3904 && is_word sa)) ≡ true
      → (some_float t.lowest i || (eqb c 3904 && some_word t.lowest i)) ≡ true
      → cond (is_float sa) 29 28 ≡ k → Op t i a sa x
      → Term t p i c after (opening_text 25 c ++ ((rounding_text b ++ bytes " ") ++ (x ++ mark_text 28 0))) k a b c
  unfolding opened opening_ok sort_taken word_ok termed defined arity
  converts k f r g h e oa =
      let u : suits c sa ≡ true = or_case (is_float sa) (eqb c 3904 && is_word sa) g (suits-float c sa) (or_r (eqb sa (pattern_width c) || is_float sa) (eqb c 3904 && is_word sa)) in
      both (opens t p i c after 25 (at t p i c after 9 25 0 0 0) (omega arith) (rw (float-not-bits c f) (source_of t.lowest sa i oa.under c u)) refl)
      (both (rounds t p i c after 25 b r (rw (two b r) h)) (ends (rw (oa.sort, ← e)) (only₁₀ t p i c after a sa x oa 28 b refl g)))

  term-28 : ((is_word sa && leb b 1) && eqb c 3904) ≡ true → Op t i a sa x → Term t p i c after (ended a b c c x y z 28) 28 a b c
  term-28 e oa =
      let q = and_l (is_word sa && leb b 1) (eqb c 3904) e in
      let n = and_r (is_word sa && leb b 1) (eqb c 3904) e in
      let f = and_l (is_word sa) (leb b 1) q in
      says (text-28 a b c c x y z)
      (converts 28 (or_r (eqb c 2072 || eqb c 2869) (eqb c 3904) n) (leb-true b 1 (and_r (is_word sa) (leb b 1) q))
      (or_r (is_float sa) _ (and_i (eqb c 3904) (is_word sa) n f))
      (or_r (some_float t.lowest i) _ (and_i (eqb c 3904) _ n (some_word_lem t.lowest sa i oa.under f)))
      (rw (word-not-float sa f)) oa)

  term-29 : ((is_float sa && leb b 1) && is_float c) ≡ true → Op t i a sa x → Term t p i c after (ended a b c c x y z 29) 29 a b c
  term-29 e oa =
      let q = and_l (is_float sa && leb b 1) (is_float c) e in
      let f = and_l (is_float sa) (leb b 1) q in
      says (text-29 a b c c x y z)
      (converts 29 (and_r (is_float sa && leb b 1) (is_float c) e) (leb-true b 1 (and_r (is_float sa) (leb b 1) q))
      (or_l (is_float sa) _ f)
      (or_l (some_float t.lowest i) _ (some-float t.lowest sa i oa.under f))
      (rw f) oa)

  -- ALL KINDS: the term of a row whose operands are there
  pub term_of_lem : (k : ℕ) → a < 2 ^ 64 → (sort_row k a b c sa sb sc ≡ 0 → ⊥)
      → (1 ≤ arity k → Op t i a sa x) → (2 ≤ arity k → Op t i b sb y) → (3 ≤ arity k → Op t i c sc z) → declared_is k ≡ false
      → Term t p i (sort_row k a b c sa sb sc) after (ended a b c (sort_row k a b c sa sb sc) x y z k) k a b c
  unfolding arity
  term_of_lem k word =
      by_row
      (λ k s. (1 ≤ arity k → Op t i a sa x) → (2 ≤ arity k → Op t i b sb y) → (3 ≤ arity k → Op t i c sc z) → declared_is k ≡ false → Term t p i s after (ended a b c s x y z k) k a b c)
      k a b c sa sb sc
      (λ e f g h d. clash (sym d)) (λ e f g h d. clash (sym d)) (λ e f g h d. clash (sym d)) (λ e f g h d. clash (sym d)) (λ e f g h d. clash (sym d))
      (λ e f g h d. term-6 t p i after a b c sa sb sc x y z e word)
      (λ e f g h d. term-7 t p i after a b c sa sb sc x y z e (f (omega arith)) (g (omega arith)))
      (λ e f g h d. term-8 t p i after a b c sa sb sc x y z e (f (omega arith)) (g (omega arith)))
      (λ e f g h d. term-9 t p i after a b c sa sb sc x y z e (f (omega arith)) (g (omega arith)))
      (λ e f g h d. term-10 t p i after a b c sa sb sc x y z e (f (omega arith)) (g (omega arith)))
      (λ e f g h d. term-11 t p i after a b c sa sb sc x y z e (f (omega arith)) (g (omega arith)))
      (λ e f g h d. term-12 t p i after a b c sa sb sc x y z e (f (omega arith)))
      (λ e f g h d. term-13 t p i after a b c sa sb sc x y z e (f (omega arith)) (g (omega arith)) (h (omega arith)))
      (λ e f g h d. term-14 t p i after a b c sa sb sc x y z e (f (omega arith)))
      (λ e f g h d. term-15 t p i after a b c sa sb sc x y z e (f (omega arith)) (g (omega arith)))
      (λ j u e f g h d. term-sum j u e (f (let l = sum-two j u in omega arith)) (g (sum-two j u)))
      (λ e f g h d. term-20 e (f (omega arith)) (g (omega arith)))
      (λ e f g h d. term-21 e (f (omega arith)) (g (omega arith)))
      (λ e f g h d. term-22 e (f (omega arith)))
      (λ e f g h d. term-23 e (f (omega arith)))
      (λ e f g h d. term-24 e (f (omega arith)))
      (λ e f g h d. term-25 e (f (omega arith)))
      (λ e f g h d. clash (sym d))
      (λ e f g h d. term-27 e (f (omega arith)))
      (λ e f g h d. term-28 e (f (omega arith)))
      (λ e f g h d. term-29 e (f (omega arith)))
