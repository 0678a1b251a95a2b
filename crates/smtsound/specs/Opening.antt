-- A choice keeps what is known: what opens a term, the places of an Extract, the digits of a constant, a word.
use Rattle.std.specs.Prelude.{◌≡◌, Bool, ◌&&◌, ◌||◌, ℕ, ◌+◌, ◌≤◌, ◌<◌, ltb}
use Rattle.std.proofs.Math.Path.{refl}
use Rattle.std.proofs.Common.{sym, arith}
use Rattle.std.proofs.Math.Bool.{true, false, cond}
use borrow.Author.Tests.{eqb-true, leb-true, ltb-true, ne_eqb}
use Rattle.std.proofs.Math.Dec.{leb, eqb}
use Rattle.words.specs.Tests.{and_l, and_r, or_case}
use Rattle.sorts.specs.Sorts.{is_bits, is_float, is_word}
use Rattle.viable.specs.Grammar.{clash}
use Rattle.smtgrammar.specs.declared.Place.{Place}
use Rattle.smtgrammar.specs.State.{Tables}
use Rattle.smtgrammar.specs.Present.{below, some_float, some_word, some_from, joins, source}
use Rattle.smtgrammar.specs.Allowed.{ok_at, opening_ok, bits_ok, float_ok, place_ok, word_ok}
use Rattle.smtgrammar.specs.Next.{next_at, opened, word}
use Rattle.smtsound.specs.Tables.{same?}
use Rattle.smtsound.specs.Nodes.{Nodes}
use Rattle.smtsound.specs.Lines.{line, Defines, Suits, Worded, Kinded, at9, at10, at13, at14, Some, Sound}

-- a number is one of three, or of four, in a row
pub among₂ : (P : ℕ → Type 0) (a k : ℕ) → a ≤ k → k ≤ a + 1 → P a → P (a + 1) → P k
among₂ P a k lo hi x y = same? k a (λ e. rw e x) (λ d. let e : k ≡ a + 1 = omega arith in rw e y)

pub among₃ : (P : ℕ → Type 0) (a k : ℕ) → a ≤ k → k ≤ a + 2 → P a → P (a + 1) → P (a + 2) → P k
among₃ P a k lo hi x y z = same? k (a + 2) (λ e. rw e z) (λ d. among₂ P a k lo (omega arith) x y)

pub among₄ : (P : ℕ → Type 0) (a k : ℕ) → a ≤ k → k ≤ a + 3 → P a → P (a + 1) → P (a + 2) → P (a + 3) → P k
among₄ P a k lo hi x y z w = same? k (a + 3) (λ e. rw e w) (λ d. among₃ P a k lo (omega arith) x y z)

-- a test of eight
eight : {P : Type 0} (a b c d e f g h : Bool) → (((a || b) || (c || (d || e))) || (f || (g || h))) ≡ true
    → (a ≡ true → P) → (b ≡ true → P) → (c ≡ true → P) → (d ≡ true → P) → (e ≡ true → P) → (f ≡ true → P) → (g ≡ true → P) → (h ≡ true → P) → P
eight a b c d e f g h x pa pb pc pd pe pf pg ph =
    or_case ((a || b) || (c || (d || e))) (f || (g || h)) x
    (λ x. or_case (a || b) (c || (d || e)) x (λ x. or_case a b x pa pb) (λ x. or_case c (d || e) x pc (λ x. or_case d e x pd pe)))
    (λ x. or_case f (g || h) x pf (λ x. or_case g h x pg ph))

module _ (t : Tables) (p : Place) (h : Nodes t p.part p.top p.owed) (has : 0 < p.count → Some t) (n s q : ℕ) (d : Defines t p n q) (f : Suits t n s) where
  -- stages 9, 10, 13 and 14
  worded : (k : ℕ) → Worded k s → Sound (record { tables = t; place = p; line = line 9 n k s 0 0 0 0 q })
  worded k w = record { nodes = h; some = has; lined = at9 d f w }

  kinded : (k r : ℕ) → Kinded k s r → Sound (record { tables = t; place = p; line = line 10 n k s 0 0 r 0 q })
  kinded k r w = record { nodes = h; some = has; lined = at10 d f w }

  -- the state behind what opens kind v
  abbrev Opened : ℕ → Type 0
  Opened v = Sound (opened t p (line 8 n 0 s 0 0 0 0 q) v)

  is : (k : ℕ) → Opened k → (v : ℕ) → eqb v k ≡ true → Opened v
  is k x v e = rw (eqb-true v k e) x

  three : (a : ℕ) → Opened a → Opened (a + 1) → Opened (a + 2) → (v : ℕ) → (leb a v && leb v (a + 2)) ≡ true → Opened v
  three a x y z v e = among₃ Opened a v (leb-true a v (and_l (leb a v) (leb v (a + 2)) e)) (leb-true v (a + 2) (and_r (leb a v) (leb v (a + 2)) e)) x y z

  -- what opens a term of one bit, of bits, and of a float
  bit : s ≡ 1 → (v : ℕ) → (leb 10 v && leb v 12) ≡ true → Opened v
  unfolding opened
  bit e = three 10
      (kinded 10 0 (rw e (Kinded.both {k = 10} (omega arith) (omega arith))))
      (kinded 11 0 (rw e (Kinded.both {k = 11} (omega arith) (omega arith))))
      (kinded 12 0 (rw e Kinded.negation))

  test : s ≡ 1 → (v : ℕ) → (leb 20 v && leb v 22) ≡ true → Opened v
  unfolding opened
  test e = three 20
      (kinded 20 0 (rw e (Kinded.compare {k = 20} (omega arith) (omega arith))))
      (kinded 21 0 (rw e (Kinded.compare {k = 21} (omega arith) (omega arith))))
      (kinded 22 0 (rw e Kinded.nan))

  bits : is_bits s ≡ true → (v : ℕ) → bits_ok t p (line 8 n 0 s 0 0 0 0 q) v s n ≡ true → Opened v
  unfolding opened
  bits b v e =
      eight (eqb v 6)
      ((eqb v 7 || eqb v 8) && below t.lowest s n)
      (eqb v 9 && ((below t.lowest 1 n && below t.lowest s n) || (eqb s 1 && some_from t.lowest 1 n)))
      ((leb 10 v && leb v 12) && (eqb s 1 && below t.lowest 1 n))
      (eqb v 14 && some_from t.lowest s n)
      (eqb v 15 && joins t.lowest s n)
      ((leb 20 v && leb v 22) && (eqb s 1 && some_float t.lowest n))
      (eqb v 27 && (is_word s && some_float t.lowest n))
      e
      (is 6 (record { nodes = h; some = has; lined = at14 {a = 0} {b = 0} 0 d f b (leb-true 1 s (and_l (leb 1 s) (leb s 80) b)) (omega arith) (omega arith) }) v)
      (λ e. or_case (eqb v 7) (eqb v 8) (and_l (eqb v 7 || eqb v 8) (below t.lowest s n) e)
      (is 7 (kinded 7 0 (Kinded.mask (omega arith) (omega arith) b)) v)
      (is 8 (kinded 8 0 (Kinded.mask (omega arith) (omega arith) b)) v))
      (λ e. is 9 (worded 9 (Worded.equal b)) v (and_l (eqb v 9) _ e))
      (λ e. bit (eqb-true s 1 (and_l (eqb s 1) (below t.lowest 1 n) (and_r (leb 10 v && leb v 12) _ e))) v (and_l (leb 10 v && leb v 12) _ e))
      (λ e. is 14 (record { nodes = h; some = has; lined = at13 d f b }) v (and_l (eqb v 14) _ e))
      (λ e. is 15 (kinded 15 0 (Kinded.join b)) v (and_l (eqb v 15) _ e))
      (λ e. test (eqb-true s 1 (and_l (eqb s 1) (some_float t.lowest n) (and_r (leb 20 v && leb v 22) _ e))) v (and_l (leb 20 v && leb v 22) _ e))
      (λ e. is 27 (worded 27 (Worded.whole (and_l (is_word s) (some_float t.lowest n) (and_r (eqb v 27) _ e)))) v (and_l (eqb v 27) _ e))

  float : is_float s ≡ true → (v : ℕ) → float_ok t p (line 8 n 0 s 0 0 0 0 q) v s n ≡ true → Opened v
  unfolding opened
  float b v e =
      or_case (((leb 16 v && leb v 19) || (eqb v 23 || eqb v 24)) && below t.lowest s n) (eqb v 25 && source t.lowest s n) e
      (λ e. or_case (leb 16 v && leb v 19) (eqb v 23 || eqb v 24) (and_l ((leb 16 v && leb v 19) || (eqb v 23 || eqb v 24)) (below t.lowest s n) e)
      (λ e. among₄ Opened 16 v (leb-true 16 v (and_l (leb 16 v) (leb v 19) e)) (leb-true v 19 (and_r (leb 16 v) (leb v 19) e))
      (worded 16 (Worded.sum (omega arith) (omega arith) b))
      (worded 17 (Worded.sum (omega arith) (omega arith) b))
      (worded 18 (Worded.sum (omega arith) (omega arith) b))
      (worded 19 (Worded.sum (omega arith) (omega arith) b)))
      (λ e. or_case (eqb v 23) (eqb v 24) e
      (is 23 (worded 23 (Worded.root (omega arith) (omega arith) b)) v)
      (is 24 (worded 24 (Worded.root (omega arith) (omega arith) b)) v)))
      (λ e. is 25 (worded 25 (Worded.pattern b)) v (and_l (eqb v 25) _ e))

  pub opening : (v : ℕ) → ok_at t p (line 8 n 0 s 0 0 0 0 q) v ≡ true → Sound (next_at t p (line 8 n 0 s 0 0 0 0 q) v)
  unfolding ok_at opening_ok next_at
  opening v e = go (is_bits s) refl e f.is
    where
      go : (x : Bool) → is_bits s ≡ x → cond x (bits_ok t p (line 8 n 0 s 0 0 0 0 q) v s n) (float_ok t p (line 8 n 0 s 0 0 0 0 q) v s n) ≡ true → (is_bits s || is_float s) ≡ true → Opened v
      go true b e g = bits b v e
      go false b e g = float (rw b at g) v e

  -- the high place of an Extract
  pub place : is_bits s ≡ true → (v : ℕ) → ok_at t p (line 13 n 14 s 0 0 0 0 q) v ≡ true → Sound (next_at t p (line 13 n 14 s 0 0 0 0 q) v)
  unfolding ok_at place_ok next_at
  place b v e = kinded 14 v (Kinded.extract b (leb-true s (v + 1) (and_l (leb s (v + 1)) _ e)) (ltb-true v 80 (and_l (ltb v 80) _ (and_r (leb s (v + 1)) _ e))))

  -- a word: `#b1`, or a rounding
  rounded : (k v : ℕ) → Worded k s → (eqb k 9 ≡ false) → (eqb v 1 || eqb v 2) ≡ true → Sound (word t p (line 9 n k s 0 0 0 0 q) v)
  unfolding word
  rounded k v w z e =
      or_case (eqb v 1) (eqb v 2) e
      (λ e. rw (eqb-true v 1 e) (turns k 0 w z (omega arith)))
      (λ e. rw (eqb-true v 2 e) (turns k 1 w z (omega arith)))
    where
      turns : (k r : ℕ) → Worded k s → eqb k 9 ≡ false → r ≤ 1 → Sound (record { tables = t; place = p; line = line 10 n (cond (eqb k 25) 28 k) s 0 0 r 0 q })
      turns k r (Worded.equal b) z l = clash (sym z)
      turns k r (Worded.sum lo hi b) z l = rw (ne_eqb k 25 (λ e. omega arith)) (kinded k r (Kinded.sum lo hi b l))
      turns k r (Worded.root lo hi b) z l = rw (ne_eqb k 25 (λ e. omega arith)) (kinded k r (Kinded.root lo hi b l))
      turns k r (Worded.pattern b) z l = kinded 28 r (Kinded.convert b l)
      turns k r (Worded.whole b) z l = kinded 27 r (Kinded.whole b l)

  pub worded-by : (k : ℕ) → Worded k s → (v : ℕ) → word_ok t p (line 9 n k s 0 0 0 0 q) v ≡ true → Sound (word t p (line 9 n k s 0 0 0 0 q) v)
  unfolding word_ok word
  worded-by k w v e = go (eqb k 9) refl e
    where
      bit : (k : ℕ) → Worded k s → eqb k 9 ≡ true → is_bits s ≡ true
      bit k (Worded.equal b) e = b
      bit k (Worded.sum lo hi b) e = absurd (let z = eqb-true k 9 e in omega arith)
      bit k (Worded.root lo hi b) e = absurd (let z = eqb-true k 9 e in omega arith)
      bit k (Worded.pattern b) e = clash e
      bit k (Worded.whole b) e = clash e

      go : (x : Bool) → eqb k 9 ≡ x
          → cond x (eqb v 0 && (below t.lowest 1 n && below t.lowest s n))
          ((eqb v 1 || eqb v 2) && cond (eqb k 25) (some_float t.lowest n || (eqb s 3904 && some_word t.lowest n)) true) ≡ true
          → Sound (word t p (line 9 n k s 0 0 0 0 q) v)
      go true z e = rw (eqb-true v 0 (and_l (eqb v 0) (below t.lowest 1 n && below t.lowest s n) e)) (kinded 13 0 (Kinded.choice (bit k w z)))
      go false z e = rounded k v w z (and_l (eqb v 1 || eqb v 2) _ e)
