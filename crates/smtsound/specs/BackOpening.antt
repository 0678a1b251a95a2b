-- What the end says behind a choice it says before: what opens a term, a place, a word.
use Rattle.std.specs.Prelude.{◌≡◌, Bool, ◌&&◌, ◌||◌, ℕ, ◌+◌, ◌-◌, ◌≤◌, ◌<◌}
use Rattle.std.proofs.Math.Path.{refl}
use Rattle.std.proofs.Common.{sym, ◌∙◌, arith}
use Rattle.std.proofs.Math.Bool.{true, false, cond}
use borrow.Author.Tests.{eqb-true, eqb-false, ltb-false, le-leb, lt-leb, ne_eqb}
use Rattle.std.proofs.Math.Dec.{leb, ltb, eqb}
use Rattle.words.specs.Tests.{and_l, and_i, or_case}
use Rattle.sorts.specs.Sorts.{is_bits}
use Rattle.viable.specs.Grammar.{clash}
use Rattle.smtgrammar.specs.declared.Place.{Place}
use Rattle.smtgrammar.specs.State.{Tables}
use Rattle.smtgrammar.specs.Present.{below, some_float, some_word}
use Rattle.smtgrammar.specs.Allowed.{ok_at, opening_ok, bits_ok, float_ok, first_ok, word_ok, operand_ok}
use Rattle.smtgrammar.specs.Next.{next_at, opened, operand₀, word}
use Rattle.smtsound.specs.Tables.{Long}
use Rattle.smtsound.specs.Lines.{line, Defines, Worded}
use Rattle.smtsound.specs.Opening.{among₂}
use Rattle.smtsound.specs.Final.{Final, open_of, early_of, holds₂, holds₃, Line10, Ends}
use Rattle.smtsound.specs.BackDeclaring.{Within}
use Rattle.smtsound.specs.BackDefining.{defining}
use Rattle.smtsound.specs.BackOperands.{first}

-- the kind in the end, from the one before the first operand
early-other : (x k : ℕ) → early_of x ≡ k → (k ≡ 28 → ⊥) → x ≡ k
early-other x k e d = go (eqb x 29) e
  where
    go : (y : Bool) → cond y 28 x ≡ k → x ≡ k
    go true e = absurd (d (sym e))
    go false e = e

early-turn : (x : ℕ) → early_of x ≡ 28 → open_of x ≡ 25
early-turn x e = go (eqb x 29) refl e
  where
    go : (y : Bool) → eqb x 29 ≡ y → cond y 28 x ≡ 28 → open_of x ≡ 25
    go true z e = rw (eqb-true x 29 z)
    go false z e = rw e

-- a kind that opens as itself
open_self : (k : ℕ) → (k ≡ 13 → ⊥) → k < 28 → open_of k ≡ k
open_self k d l = rw (ne_eqb k 13 d, ne_eqb k 28 (λ z. omega arith), ne_eqb k 29 (λ z. omega arith))

-- the word or the first operand, where a word may stand
abbrev word_by : ℕ → ℕ → ℕ → ℕ → ℕ → ℕ
word_by k x a b c =
    cond (eqb k 9) (cond (eqb x 9) a 65536)
    (cond (eqb k 25) (cond (eqb x 25) a (65537 + b)) (cond (holds₃ k) (65537 + c) (65537 + b)))

module _ (t : Tables) (p : Place) (F : Final) (h : Long t) (n q : ℕ) (d : Defines t p n q) where
  -- a high place
  pub record High (s v : ℕ) : Type 0 where
    pub ends : Within t p F (line 13 n 14 s 0 0 0 0 q)
    pub second : F.second n ≡ v

  pub high : (s v : ℕ) → Ends (next_at t p (line 13 n 14 s 0 0 0 0 q) v) F → High s v
  unfolding next_at
  high s v e =
      let y = e.said in
      record {
        ends = defining t p F n q d (line 13 n 14 s 0 0 0 0 q) e.rows (e.defs d.part) y.line.node.low (record { line = y.line; kind = early-other _ 14 y.kind (λ z. omega arith) });
        second = y.round₂ refl;
      }

  -- what opens a term
  pub record Opens (s v : ℕ) : Type 0 where
    pub ends : Within t p F (line 8 n 0 s 0 0 0 0 q)
    pub opens : open_of (F.kind n) ≡ v

  -- no term is opened by kind 13
  not-choice : (s v : ℕ) → ok_at t p (line 8 n 0 s 0 0 0 0 q) v ≡ true → v ≡ 13 → ⊥
  unfolding ok_at opening_ok
  not-choice s v e z = go (is_bits s) (rw z at e)
    where
      go : (x : Bool) → cond x (bits_ok t p (line 8 n 0 s 0 0 0 0 q) 13 s n) (float_ok t p (line 8 n 0 s 0 0 0 0 q) 13 s n) ≡ true → ⊥
      go true e = clash e
      go false e = clash e

  pub opens : (s v : ℕ) → v < 28 → ok_at t p (line 8 n 0 s 0 0 0 0 q) v ≡ true → Ends (next_at t p (line 8 n 0 s 0 0 0 0 q) v) F → Opens s v
  unfolding next_at opened
  opens s v l ok e = go (eqb v 6) (eqb v 14) ((eqb v 9 || eqb v 25) || ((leb 16 v && leb v 19) || ((eqb v 23 || eqb v 24) || eqb v 27))) refl refl e
    where
      go : (x y z : Bool) → eqb v 6 ≡ x → eqb v 14 ≡ y
          → Ends (cond x (record { tables = t; place = p; line = line 14 n v s 0 0 0 s q })
          (record { tables = t; place = p; line = line (cond y 13 (cond z 9 10)) n v s 0 0 0 0 q })) F
          → Opens s v
      go true y z a b e =
          let u = e.said in
          record { ends = defining t p F n q d (line 8 n 0 s 0 0 0 0 q) e.rows (e.defs d.part) u.line.node.low u.line; opens = rw (u.kind, eqb-true v 6 a) }
      go false true z a b e =
          let u = e.said in
          record { ends = defining t p F n q d (line 8 n 0 s 0 0 0 0 q) e.rows (e.defs d.part) u.line.node.low u.line; opens = rw (u.kind, eqb-true v 14 b) }
      go false false true a b e =
          let u = e.said in
          record { ends = defining t p F n q d (line 8 n 0 s 0 0 0 0 q) e.rows (e.defs d.part) u.line.node.low u.line; opens = u.opens }
      go false false false a b e =
          let u = e.said in
          record {
            ends = defining t p F n q d (line 8 n 0 s 0 0 0 0 q) e.rows (e.defs d.part) u.line.node.low u.line;
            opens = rw (early-other (F.kind n) v u.kind (λ z. omega arith)) (open_self v (not-choice s v ok) l);
          }

  -- a word, or a first operand in its place
  pub record Word (k s v : ℕ) : Type 0 where
    pub ends : Within t p F (line 9 n k s 0 0 0 0 q)
    pub is : v ≡ word_by k (F.kind n) (F.first n) (F.second n) (F.third n)

  -- a rounding
  record Rounded (k w : ℕ) : Type 0 where
    opens : open_of (F.kind n) ≡ k
    is : 65536 + w ≡ word_by k (F.kind n) (F.first n) (F.second n) (F.third n)

  rounded : (k s w : ℕ) → Worded k s → eqb k 9 ≡ false → 1 ≤ w → Line10 t F n s (cond (eqb k 25) 28 k) (w - 1) → Rounded k w
  rounded k s w (Worded.equal b) z l y = clash (sym z)
  rounded k s w (Worded.sum lo hi b) z l y =
      let e = ne_eqb k 25 (λ z. omega arith) in
      let u = rw e at y in
      let o = and_i (leb 16 k) (leb k 19) (le-leb 16 k lo) (le-leb k 19 hi) in
      record {
        opens = rw (early-other (F.kind n) k u.kind (λ z. omega arith)) (open_self k (λ z. omega arith) (omega arith));
        is = rw (z, e, o) (let v = u.round₃ o in omega arith);
      }
  rounded k s w (Worded.root lo hi b) z l y =
      let e = ne_eqb k 25 (λ z. omega arith) in
      let u = rw e at y in
      let o = among₂ (λ k. holds₂ k ≡ true) 23 k lo hi refl refl in
      record {
        opens = rw (early-other (F.kind n) k u.kind (λ z. omega arith)) (open_self k (λ z. omega arith) (omega arith));
        is = rw (z, e, le-leb 16 k (omega arith), lt-leb k 19 (omega arith)) (let v = u.round₂ o in omega arith);
      }
  rounded k s w (Worded.pattern b) z l y = record {
    opens = early-turn (F.kind n) y.kind;
    is = rw (ne_eqb (F.kind n) 25 (λ x. other (rw x at y.kind))) (let v = y.round₂ refl in omega arith);
  }
    where
      other : ◌≡◌ {A = ℕ} 25 28 → ⊥
      other e = omega arith
  rounded k s w (Worded.whole b) z l y = record {
    opens = rw (early-other (F.kind n) 27 y.kind (λ z. omega arith));
    is = let v = y.round₂ refl in omega arith;
  }

  -- an operand: the kind is Eq or BvToFp
  operand : (k s v : ℕ) → (eqb k 9 || eqb k 25) ≡ true → Ends (operand₀ t p (line 9 n k s 0 0 0 0 q) v) F → Word k s v
  operand k s v o e =
      or_case (eqb k 9) (eqb k 25) o
      (λ z. let x = eqb-true k 9 z in rw x (nine (rw x at e)))
      (λ z. let x = eqb-true k 25 z in rw x (pattern (rw x at e)))
    where
      nine : Ends (operand₀ t p (line 9 n 9 s 0 0 0 0 q) v) F → Word 9 s v
      nine e =
          let y = first t p F h n q d 9 9 s 0 v (omega arith) e in
          let i = early-other (F.kind n) 9 y.line.line.kind (λ z. omega arith) in
          record {
            ends = defining t p F n q d (line 9 n 9 s 0 0 0 0 q) y.rows y.rest y.line.line.line.node.low (record { line = y.line.line.line; opens = rw i });
            is = rw i (sym y.line.first);
          }

      pattern : Ends (operand₀ t p (line 9 n 25 s 0 0 0 0 q) v) F → Word 25 s v
      pattern e =
          let y = first t p F h n q d 9 25 s 0 v (omega arith) e in
          let i = early-other (F.kind n) 25 y.line.line.kind (λ z. omega arith) in
          record {
            ends = defining t p F n q d (line 9 n 25 s 0 0 0 0 q) y.rows y.rest y.line.line.line.node.low (record { line = y.line.line.line; opens = rw i });
            is = rw i (sym y.line.first);
          }

  -- a word
  said : (k s w : ℕ) → Worded k s → word_ok t p (line 9 n k s 0 0 0 0 q) w ≡ true → Ends (word t p (line 9 n k s 0 0 0 0 q) w) F → Word k s (65536 + w)
  unfolding word_ok word
  said k s w f ok e = go (eqb k 9) refl (eqb w 0) refl ok e
    where
      go : (x : Bool) → eqb k 9 ≡ x → (y : Bool) → eqb w 0 ≡ y
          → cond x (eqb w 0 && (below t.lowest 1 n && below t.lowest s n))
          ((eqb w 1 || eqb w 2) && cond (eqb k 25) (some_float t.lowest n || (eqb s 3904 && some_word t.lowest n)) true) ≡ true
          → Ends (cond y (record { tables = t; place = p; line = line 10 n 13 s 0 0 0 0 q }) (record { tables = t; place = p; line = line 10 n (cond (eqb k 25) 28 k) s 0 0 (w - 1) 0 q })) F
          → Word k s (65536 + w)
      go true x true y ok e =
          let u = e.said in
          let i = early-other (F.kind n) 13 u.kind (λ z. omega arith) in
          record {
            ends = defining t p F n q d (line 9 n k s 0 0 0 0 q) e.rows (e.defs d.part) u.line.node.low (record { line = u.line; opens = rw i (sym (eqb-true k 9 x)) });
            is = rw (x, i) (let z = eqb-true w 0 y in omega arith);
          }
      go true x false y ok e = clash (sym y ∙ and_l (eqb w 0) _ ok)
      go false x true y ok e =
          let z = eqb-true w 0 y in
          or_case (eqb w 1) (eqb w 2) (and_l (eqb w 1 || eqb w 2) _ ok) (λ a. absurd (let b = eqb-true w 1 a in omega arith)) (λ a. absurd (let b = eqb-true w 2 a in omega arith))
      go false x false y ok e =
          let u = e.said in
          let r = rounded k s w f x (let z = eqb-false w 0 y in omega arith) u in
          record {
            ends = defining t p F n q d (line 9 n k s 0 0 0 0 q) e.rows (e.defs d.part) u.line.node.low (record { line = u.line; opens = r.opens });
            is = r.is;
          }

  pub at-nine : (k s v : ℕ) → Worded k s → ok_at t p (line 9 n k s 0 0 0 0 q) v ≡ true → Ends (next_at t p (line 9 n k s 0 0 0 0 q) v) F → Word k s v
  unfolding ok_at first_ok next_at
  at-nine k s v f ok e = go (ltb v 65536) refl ok e
    where
      go : (x : Bool) → ltb v 65536 ≡ x
          → cond x ((eqb k 9 || eqb k 25) && operand_ok t p (line 9 n k s 0 0 0 0 q) 0 v) (word_ok t p (line 9 n k s 0 0 0 0 q) (v - 65536)) ≡ true
          → Ends (cond x (operand₀ t p (line 9 n k s 0 0 0 0 q) v) (word t p (line 9 n k s 0 0 0 0 q) (v - 65536))) F
          → Word k s v
      go true x ok e = operand k s v (and_l (eqb k 9 || eqb k 25) (operand_ok t p (line 9 n k s 0 0 0 0 q) 0 v) ok) e
      go false x ok e =
          let z : 65536 + (v - 65536) ≡ v = (let y = ltb-false v 65536 x in omega arith) in
          rw z at (said k s (v - 65536) f ok e)
