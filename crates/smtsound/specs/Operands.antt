-- A choice keeps what is known: the operands of a term.
use Rattle.std.specs.Prelude.{◌≡◌, Bool, not, ◌&&◌, ◌||◌, ℕ, ◌+◌, ◌-◌, ◌≤◌, ◌<◌, ltb}
use Rattle.std.proofs.Math.Path.{refl}
use Rattle.std.proofs.Common.{◌∙◌, arith}
use Rattle.std.proofs.Math.Bool.{true, false, cond}
use borrow.Author.Tests.{eqb-true, eqb-false, ltb-true, le-leb, eq-eqb, not-true}
use Rattle.std.proofs.Math.Dec.{leb, eqb}
use Rattle.words.specs.Tests.{and_l, and_r, or_case}
use Rattle.sorts.specs.Sorts.{is_bits, is_float, is_word, pattern_width, sort_row}
use Rattle.sorts.specs.Good.{bits-lo, bits-hi}
use Rattle.needs.specs.Needed.{arity}
use Rattle.viable.specs.Grammar.{clash}
use Rattle.smtgrammar.specs.declared.Place.{Place}
use Rattle.smtgrammar.specs.State.{Tables}
use Rattle.smtgrammar.specs.Allowed.{ok_at, sort_taken, operand_ok, first_ok, word_ok}
use Rattle.smtgrammar.specs.Next.{next_at, defined, operand₀, operand₁, termed, word}
use Rattle.smtsound.specs.Tables.{kind_in, sort_in}
use Rattle.smtsound.specs.Nodes.{Has, Nodes}
use Rattle.smtsound.specs.Arities.{Fits, positive, one, two, three}
use Rattle.smtsound.specs.Lines.{line, Defines, Suits, Worded, Kinded, Paired, at11, at12, Some, Sound}
use Rattle.smtsound.specs.Defining.{finish}
use Rattle.smtsound.specs.Opening.{among₂, among₄, worded-by}

-- formats are small, and so are the widths of words
float_small : (s : ℕ) → is_float s ≡ true → s ≤ 3904
float_small s e =
    or_case (eqb s 2072 || eqb s 2869) (eqb s 3904) e
    (λ e. or_case (eqb s 2072) (eqb s 2869) e (λ e. let z = eqb-true s 2072 e in omega arith) (λ e. let z = eqb-true s 2869 e in omega arith))
    (λ e. let z = eqb-true s 3904 e in omega arith)

word_small : (s : ℕ) → is_word s ≡ true → s ≤ 64
word_small s e =
    or_case (eqb s 16 || eqb s 32) (eqb s 64) e
    (λ e. or_case (eqb s 16) (eqb s 32) e (λ e. let z = eqb-true s 16 e in omega arith) (λ e. let z = eqb-true s 32 e in omega arith))
    (λ e. let z = eqb-true s 64 e in omega arith)

neither : (k : ℕ) → (k ≡ 9 → ⊥) → (k ≡ 25 → ⊥) → (eqb k 9 || eqb k 25) ≡ true → ⊥
neither k x y e = or_case (eqb k 9) (eqb k 25) e (λ f. x (eqb-true k 9 f)) (λ f. y (eqb-true k 25 f))

-- two widths, and their sum
joined : (a b x s z : ℕ) → is_bits x ≡ true → x < s → s ≤ 80 → sort_row 15 a b 0 x (s - x) z ≡ s
unfolding sort_row
joined a b x s z i l m =
    let e : x + (s - x) ≡ s = omega arith in
    rw (e, i, le-leb 1 (s - x) (omega arith), le-leb (s - x) 80 (omega arith), le-leb s 80 m)

module _ (t : Tables) (p : Place) (h : Nodes t p.part p.top p.owed) (has : 0 < p.count → Some t) (n q : ℕ) (d : Defines t p n q) where
  -- an operand is there
  operand : (v : ℕ) (x : Bool) → ((ltb v n && not (eqb (kind_in t v) 0)) && x) ≡ true → Has t n v
  operand v x e =
      let y = and_l (ltb v n && not (eqb (kind_in t v) 0)) x e in
      let z = eqb-false (kind_in t v) 0 (not-true (eqb (kind_in t v) 0) (and_r (ltb v n) (not (eqb (kind_in t v) 0)) y)) in
      record { below = ltb-true v n (and_l (ltb v n) (not (eqb (kind_in t v) 0)) y); some = (h.nodes v z).row.some }

  taken : (v : ℕ) (x : Bool) → ((ltb v n && not (eqb (kind_in t v) 0)) && x) ≡ true → x ≡ true
  taken v x e = and_r (ltb v n && not (eqb (kind_in t v) 0)) x e

  -- a second operand follows
  pair : (k s a r x : ℕ) → Suits t n s → Has t n a → sort_in t a ≡ x → Paired k s r x → Sound (record { tables = t; place = p; line = line 11 n k s a 0 r 0 q })
  pair k s a r x f u e w = record { nodes = h; some = has; lined = at11 d f u e w }

  -- the words of a root, and of a conversion
  rooted : (k s r v : ℕ) → is_float s ≡ true → r ≤ 1 → Has t n v → 0 < k → k ≤ 29 → Fits k v r 0 s
  rooted k s r v b l u lo hi = let w = u.below in let i = d.inside in let z = positive is_float s refl b in omega arith

  turned : (k s r v : ℕ) → is_float s ≡ true → r ≤ 1 → Has t n v → 0 < k → k ≤ 29 → Fits k v r s s
  turned k s r v b l u lo hi = let w = u.below in let i = d.inside in let y = float_small s b in let z = positive is_float s refl b in omega arith

  -- a float, or a whole number, becomes a float
  converted : (s r v : ℕ) → is_float s ≡ true → r ≤ 1 → Suits t n s → Has t n v
      → (is_float (sort_in t v) || (eqb s 3904 && is_word (sort_in t v))) ≡ true → Sound (operand₀ t p (line 10 n 28 s 0 0 r 0 q) v)
  unfolding operand₀ termed arity sort_row
  converted s r v b l f u e = go (is_float (sort_in t v)) refl e
    where
      go : (i : Bool) → is_float (sort_in t v) ≡ i → (i || (eqb s 3904 && is_word (sort_in t v))) ≡ true
          → Sound (defined t p (line 10 n 28 s 0 0 r 0 q) (cond i 29 28) v r s)
      go true i e =
          finish t p h has 10 n 28 s 0 0 r 0 q 29 v r s d f
          (one t n 29 v r s s (turned 29 s r v b l u (omega arith) (omega arith)) refl u (λ x y z g. rw (g, i, le-leb r 1 l, b)))
      go false i e =
          finish t p h has 10 n 28 s 0 0 r 0 q 28 v r s d f
          (one t n 28 v r s s (turned 28 s r v b l u (omega arith) (omega arith)) refl u
          (λ x y z g. rw (g, and_r (eqb s 3904) (is_word (sort_in t v)) e, le-leb r 1 l, and_l (eqb s 3904) (is_word (sort_in t v)) e)))

  -- a first operand of kind k
  abbrev First : ℕ → ℕ → ℕ → ℕ → Type 0
  First k s r v = sort_taken t p (line 10 n k s 0 0 r 0 q) 0 (sort_in t v) ≡ true → Sound (operand₀ t p (line 10 n k s 0 0 r 0 q) v)

  first : (k s r v : ℕ) → Kinded k s r → Suits t n s → Has t n v → First k s r v
  unfolding sort_taken operand₀ termed arity sort_row
  first k s r v (Kinded.mask lo hi b) f u =
      among₂ (λ k. First k s 0 v) 7 k lo hi
      (λ e. pair 7 s v 0 s f u (eqb-true _ s e) (Paired.mask (omega arith) (omega arith) b))
      (λ e. pair 8 s v 0 s f u (eqb-true _ s e) (Paired.mask (omega arith) (omega arith) b))
  first k s r v (Kinded.both lo hi) f u =
      among₂ (λ k. First k 1 0 v) 10 k lo hi
      (λ e. pair 10 1 v 0 1 f u (eqb-true _ 1 e) (Paired.both (omega arith) (omega arith)))
      (λ e. pair 11 1 v 0 1 f u (eqb-true _ 1 e) (Paired.both (omega arith) (omega arith)))
  first k s r v Kinded.negation f u = λ e.
      finish t p h has 10 n 12 1 0 0 0 0 q 12 v 0 0 d f
      (one t n 12 v 0 0 1 (let w = u.below in let l = d.inside in omega arith) refl u (λ x y z g. rw (g ∙ eqb-true _ 1 e)))
  first k s r v (Kinded.choice b) f u = λ e. pair 13 s v 0 1 f u (eqb-true _ 1 e) (Paired.choice b)
  first k s r v (Kinded.extract b lo hi) f u = λ e.
      let m = bits-lo s b in
      let o : leb (r + 1 - s) r ≡ true = le-leb (r + 1 - s) r (omega arith) in
      finish t p h has 10 n 14 s 0 0 r 0 q 14 v r (r + 1 - s) d f
      (one t n 14 v r (r + 1 - s) s (let w = u.below in let l = d.inside in omega arith) refl u
      (λ x y z g. rw (g, o, and_r (is_bits (sort_in t v)) (ltb r (sort_in t v)) e, and_l (is_bits (sort_in t v)) (ltb r (sort_in t v)) e) (omega arith)))
  first k s r v (Kinded.join b) f u = λ e.
      let w = and_r (is_bits (sort_in t v)) _ e in
      pair 15 s v 0 (sort_in t v) f u refl (Paired.join b (and_l (is_bits (sort_in t v)) _ e) (ltb-true (sort_in t v) s (and_l (ltb (sort_in t v) s) _ w)))
  first k s r v (Kinded.sum lo hi b l) f u =
      among₄ (λ k. First k s r v) 16 k lo hi
      (λ e. pair 16 s v r s f u (eqb-true _ s e) (Paired.sum (omega arith) (omega arith) b l))
      (λ e. pair 17 s v r s f u (eqb-true _ s e) (Paired.sum (omega arith) (omega arith) b l))
      (λ e. pair 18 s v r s f u (eqb-true _ s e) (Paired.sum (omega arith) (omega arith) b l))
      (λ e. pair 19 s v r s f u (eqb-true _ s e) (Paired.sum (omega arith) (omega arith) b l))
  first k s r v (Kinded.compare lo hi) f u =
      among₂ (λ k. First k 1 0 v) 20 k lo hi
      (λ e. pair 20 1 v 0 _ f u refl (Paired.compare (omega arith) (omega arith) e))
      (λ e. pair 21 1 v 0 _ f u refl (Paired.compare (omega arith) (omega arith) e))
  first k s r v Kinded.nan f u = λ e.
      finish t p h has 10 n 22 1 0 0 0 0 q 22 v 0 0 d f
      (one t n 22 v 0 0 1 (let w = u.below in let l = d.inside in omega arith) refl u (λ x y z g. rw (g, e)))
  first k s r v (Kinded.root lo hi b l) f u =
      among₂ (λ k. First k s r v) 23 k lo hi
      (λ e. finish t p h has 10 n 23 s 0 0 r 0 q 23 v r 0 d f (one t n 23 v r 0 s (rooted 23 s r v b l u (omega arith) (omega arith)) refl u (λ x y z g. rw (g ∙ eqb-true _ s e, b, le-leb r 1 l))))
      (λ e. finish t p h has 10 n 24 s 0 0 r 0 q 24 v r 0 d f (one t n 24 v r 0 s (rooted 24 s r v b l u (omega arith) (omega arith)) refl u (λ x y z g. rw (g ∙ eqb-true _ s e, b, le-leb r 1 l))))
  first k s r v (Kinded.whole b l) f u = λ e.
      finish t p h has 10 n 27 s 0 0 r 0 q 27 v r s d f
      (one t n 27 v r s s (let w = u.below in let i = d.inside in let y = word_small s b in let z = positive is_word s refl b in omega arith) refl u
      (λ x y z g. rw (g, e, le-leb r 1 l, b)))
  first k s r v (Kinded.convert b l) f u = converted s r v b l f u

  -- a first operand where a word might follow
  begun : (k s v : ℕ) → Worded k s → Suits t n s → (eqb k 9 || eqb k 25) ≡ true → operand_ok t p (line 9 n k s 0 0 0 0 q) 0 v ≡ true
      → Sound (operand₀ t p (line 9 n k s 0 0 0 0 q) v)
  unfolding sort_taken operand₀ termed arity sort_row
  begun k s v (Worded.equal b) f c e =
      let i = taken v (eqb s 1 && is_bits (sort_in t v)) e in
      let y = eqb-true s 1 (and_l (eqb s 1) (is_bits (sort_in t v)) i) in
      pair 9 s v 0 (sort_in t v) f (operand v _ e) refl (rw y (Paired.equal (and_r (eqb s 1) (is_bits (sort_in t v)) i)))
  begun k s v (Worded.sum lo hi b) f c e = absurd (neither k (λ z. omega arith) (λ z. omega arith) c)
  begun k s v (Worded.root lo hi b) f c e = absurd (neither k (λ z. omega arith) (λ z. omega arith) c)
  begun k s v (Worded.pattern b) f c e =
      let u = operand v (eqb (sort_in t v) (pattern_width s)) e in
      finish t p h has 9 n 25 s 0 0 0 0 q 25 v 0 s d f
      (one t n 25 v 0 s s (turned 25 s 0 v b (omega arith) u (omega arith) (omega arith)) refl u
      (λ x y z g. rw (g, b, taken v (eqb (sort_in t v) (pattern_width s)) e)))
  begun k s v (Worded.whole b) f c e = clash c

  -- a second operand of kind k, whose first one has the sort x
  abbrev Second : ℕ → ℕ → ℕ → ℕ → ℕ → Type 0
  Second k s r a v = sort_taken t p (line 11 n k s a 0 r 0 q) 1 (sort_in t v) ≡ true → Sound (operand₁ t p (line 11 n k s a 0 r 0 q) v)

  -- two operands end it
  ended : (k s r a v c : ℕ) → Suits t n s → Has t n a → Has t n v → 0 < s → 0 < k → k ≤ 29 → c ≤ 1 → arity k ≡ 2
      → ((x y z : ℕ) → x ≡ sort_in t a → y ≡ sort_in t v → sort_row k a v c x y z ≡ s) → Sound (defined t p (line 11 n k s a 0 r 0 q) k a v c)
  ended k s r a v c f u w some lo hi l e g =
      finish t p h has 11 n k s a 0 r 0 q k a v c d f
      (two t n k a v c s (let y = u.below in let z = w.below in let i = d.inside in omega arith) e u w g)

  second : (k s r x a v : ℕ) → Paired k s r x → Suits t n s → Has t n a → sort_in t a ≡ x → Has t n v → Second k s r a v
  unfolding sort_taken operand₁ termed arity sort_row
  second k s r x a v (Paired.mask lo hi b) f u g w =
      among₂ (λ k. Second k s 0 a v) 7 k lo hi
      (λ e. ended 7 s 0 a v 0 f u w (bits-lo s b) (omega arith) (omega arith) (omega arith) refl (λ x y z i j. rw (i ∙ g, j ∙ eqb-true _ s e, b, eq-eqb s s refl)))
      (λ e. ended 8 s 0 a v 0 f u w (bits-lo s b) (omega arith) (omega arith) (omega arith) refl (λ x y z i j. rw (i ∙ g, j ∙ eqb-true _ s e, b, eq-eqb s s refl)))
  second k s r x a v (Paired.equal b) f u g w = λ e.
      ended 9 1 0 a v 0 f u w (omega arith) (omega arith) (omega arith) (omega arith) refl (λ x' y z i j. rw (i ∙ g, j ∙ eqb-true _ _ e ∙ g, b, eq-eqb x x refl))
  second k s r x a v (Paired.both lo hi) f u g w =
      among₂ (λ k. Second k 1 0 a v) 10 k lo hi
      (λ e. ended 10 1 0 a v 0 f u w (omega arith) (omega arith) (omega arith) (omega arith) refl (λ x y z i j. rw (i ∙ g, j ∙ eqb-true _ 1 e)))
      (λ e. ended 11 1 0 a v 0 f u w (omega arith) (omega arith) (omega arith) (omega arith) refl (λ x y z i j. rw (i ∙ g, j ∙ eqb-true _ 1 e)))
  second k s r x a v (Paired.choice b) f u g w = λ e. record { nodes = h; some = has; lined = at12 d f u w g (eqb-true _ s e) b }
  second k s r x a v (Paired.join b i l) f u g w = λ e.
      ended 15 s 0 a v 0 f u w (bits-lo s b) (omega arith) (omega arith) (omega arith) refl
      (λ x' y z j m. rw (j ∙ g, m ∙ eqb-true _ _ e, g) (joined a v x s z i l (bits-hi s b)))
  second k s r x a v (Paired.sum lo hi b l) f u g w =
      among₄ (λ k. Second k s r a v) 16 k lo hi
      (λ e. ended 16 s r a v r f u w (positive is_float s refl b) (omega arith) (omega arith) l refl (λ x y z i j. rw (i ∙ g, j ∙ eqb-true _ s e, b, eq-eqb s s refl, le-leb r 1 l)))
      (λ e. ended 17 s r a v r f u w (positive is_float s refl b) (omega arith) (omega arith) l refl (λ x y z i j. rw (i ∙ g, j ∙ eqb-true _ s e, b, eq-eqb s s refl, le-leb r 1 l)))
      (λ e. ended 18 s r a v r f u w (positive is_float s refl b) (omega arith) (omega arith) l refl (λ x y z i j. rw (i ∙ g, j ∙ eqb-true _ s e, b, eq-eqb s s refl, le-leb r 1 l)))
      (λ e. ended 19 s r a v r f u w (positive is_float s refl b) (omega arith) (omega arith) l refl (λ x y z i j. rw (i ∙ g, j ∙ eqb-true _ s e, b, eq-eqb s s refl, le-leb r 1 l)))
  second k s r x a v (Paired.compare lo hi b) f u g w =
      among₂ (λ k. Second k 1 0 a v) 20 k lo hi
      (λ e. ended 20 1 0 a v 0 f u w (omega arith) (omega arith) (omega arith) (omega arith) refl (λ x' y z i j. rw (i ∙ g, j ∙ eqb-true _ _ e ∙ g, b, eq-eqb x x refl)))
      (λ e. ended 21 1 0 a v 0 f u w (omega arith) (omega arith) (omega arith) (omega arith) refl (λ x' y z i j. rw (i ∙ g, j ∙ eqb-true _ _ e ∙ g, b, eq-eqb x x refl)))

  -- stages 9 to 12
  pub at-nine : (k s v : ℕ) → Worded k s → Suits t n s → ok_at t p (line 9 n k s 0 0 0 0 q) v ≡ true → Sound (next_at t p (line 9 n k s 0 0 0 0 q) v)
  unfolding ok_at first_ok next_at
  at-nine k s v w f e = go (ltb v 65536) e
    where
      go : (x : Bool) → cond x ((eqb k 9 || eqb k 25) && operand_ok t p (line 9 n k s 0 0 0 0 q) 0 v) (word_ok t p (line 9 n k s 0 0 0 0 q) (v - 65536)) ≡ true
          → Sound (cond x (operand₀ t p (line 9 n k s 0 0 0 0 q) v) (word t p (line 9 n k s 0 0 0 0 q) (v - 65536)))
      go true e = begun k s v w f (and_l (eqb k 9 || eqb k 25) (operand_ok t p (line 9 n k s 0 0 0 0 q) 0 v) e) (and_r (eqb k 9 || eqb k 25) (operand_ok t p (line 9 n k s 0 0 0 0 q) 0 v) e)
      go false e = worded-by t p h has n s q d f k w (v - 65536) e

  pub at-ten : (k s r v : ℕ) → Kinded k s r → Suits t n s → ok_at t p (line 10 n k s 0 0 r 0 q) v ≡ true → Sound (next_at t p (line 10 n k s 0 0 r 0 q) v)
  unfolding ok_at next_at
  at-ten k s r v w f e = first k s r v w f (operand v _ e) (taken v _ e)

  pub at-eleven : (k s r x a v : ℕ) → Paired k s r x → Suits t n s → Has t n a → sort_in t a ≡ x
      → ok_at t p (line 11 n k s a 0 r 0 q) v ≡ true → Sound (next_at t p (line 11 n k s a 0 r 0 q) v)
  unfolding ok_at next_at
  at-eleven k s r x a v w f u g e = second k s r x a v w f u g (operand v _ e) (taken v _ e)

  pub at-twelve : (s a b v : ℕ) → Suits t n s → Has t n a → Has t n b → sort_in t a ≡ 1 → sort_in t b ≡ s → is_bits s ≡ true
      → ok_at t p (line 12 n 13 s a b 0 0 q) v ≡ true → Sound (next_at t p (line 12 n 13 s a b 0 0 q) v)
  unfolding ok_at next_at sort_taken termed arity sort_row
  at-twelve s a b v f u w i j l e =
      let y = operand v (eqb (sort_in t v) s) e in
      finish t p h has 12 n 13 s a b 0 0 q 13 a b v d f
      (three t n 13 a b v s (let x = u.below in let z = w.below in let o = y.below in let m = d.inside in let k = bits-lo s l in omega arith) refl u w y
      (λ x y z c g k. rw (c ∙ i, g ∙ j, k ∙ eqb-true _ s (taken v (eqb (sort_in t v) s) e), l, eq-eqb s s refl)))
