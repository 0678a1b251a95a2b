-- Operands: each allowed one leaves a state that is live.
use Rattle.std.specs.Prelude.{◌≡◌, Bool, cond, not, ◌&&◌, ◌||◌, ℕ, ◌+◌, ◌-◌, ◌/◌, ◌%◌, ◌^◌, ◌≤◌, ◌<◌, ltb, get_or}
use Rattle.std.proofs.Math.Path.{refl}
use Rattle.std.proofs.Math.Bool.{true, false}
use Rattle.std.proofs.Common.{arith}
use borrow.Author.Tests.{eqb-true, eqb-false, eq-eqb, ltb-true, lt-ltb, le-leb}
use Rattle.std.proofs.Math.Dec.{leb, eqb}
use Rattle.needs.specs.Needed.{arity}
use Rattle.sorts.specs.Sorts.{is_bits, is_float}
use Rattle.smtgrammar.specs.State.{Tables}
use Rattle.smtgrammar.specs.Present.{below}
use Rattle.smtgrammar.specs.Allowed.{sort_taken, operand_ok, place_ok}
use Rattle.smtgrammar.specs.Next.{onward, turned, termed, kind_of, second_field, third_field, defined, grown, operand₀, operand₁, digit}
use Rattle.smtgrammar.specs.declared.Place.{Place}
use Rattle.smtgrammar.specs.declared.Line.{Line}
use Rattle.smtlive.specs.Tests.{either, and_both, and_left, and_right, not-zero}
use Rattle.smtlive.specs.Sources.{some-from}
use Rattle.smtlive.specs.Live.{Tabled, Sorted, Fit, seconds, first, second, third, digits, Live}
use Rattle.smtlive.specs.Defined.{defined-live}

-- the same facts at another stage of the line
pub resorted : (t : Tables) (p : Place) (l : Line) (stage kind a b r left : ℕ) → Sorted t p l
    → Sorted t p (record { stage = stage; node = l.node; kind = kind; sort = l.sort; a = a; b = b; r = r; left = left; after = l.after })
resorted t p l stage kind a b r left w =
    let d = w.defining in
    record {
      kept = w.kept;
      defining =
          record {
            high = d.high;
            free = d.free;
            over = d.over;
            after-over = d.after-over;
            after-high = d.after-high;
            after_free = d.after_free;
            after-least = d.after-least;
            turn = d.turn;
          };
      low = w.low;
      some = w.some;
      obliged = w.obliged;
      chance = w.chance;
    }

-- the lowest node of a sort fits where the sort does
pub make-fit : (t : Tables) (p : Place) (l : Line) → Tabled t → l.node ≤ 65535 → (j s : ℕ) → get_or t.lowest s 65535 < l.node → sort_taken t p l j s ≡ true
    → Fit t p l j
make-fit t p l h k j s low e =
    let i = get_or t.lowest s 65535 in
    record {
      node = i;
      fits =
          and_both (ltb i l.node && not (eqb (get_or t.kinds i 0) 0)) _
          (and_both (ltb i l.node) _ (lt-ltb i l.node low) (not-zero (get_or t.kinds i 0) (h.there s (omega arith))))
          (rw (h.sorted s (omega arith)) e);
    }

module _ (t : Tables) (p : Place) (l : Line) (w : Sorted t p l) where
  -- an operand that is there and below fits again where its sort does
  again : (m : Line) (i j j' : ℕ) → m.node ≡ l.node → operand_ok t p l j i ≡ true → sort_taken t p m j' (get_or t.sorts i 0) ≡ true → Fit t p m j'
  again m i j j' e o f =
      let a = and_left (ltb i l.node && not (eqb (get_or t.kinds i 0) 0)) _ o in
      record { node = i; fits = and_both (ltb i m.node && not (eqb (get_or t.kinds i 0) 0)) _ (rw e a) f }

  taken : (j i : ℕ) → operand_ok t p l j i ≡ true → sort_taken t p l j (get_or t.sorts i 0) ≡ true
  taken j i o = and_right (ltb i l.node && not (eqb (get_or t.kinds i 0) 0)) _ o

  low-node : l.node ≤ 65535
  low-node = let h = w.defining.high in omega arith

  -- the kinds whose second operand has the sort of the first one; a bit; the rest of a width
  like-first : Bool
  like-first = (eqb l.kind 9 || eqb l.kind 20) || eqb l.kind 21

  a-bit : Bool
  a-bit = eqb l.kind 10 || eqb l.kind 11

  bit-first : a-bit ≡ true → (s : ℕ) → sort_taken t p l 0 s ≡ true → eqb s 1 ≡ true
  unfolding sort_taken a-bit
  bit-first e s o =
      either (eqb l.kind 10) (eqb l.kind 11) e
      (λ e. rw (eqb-true l.kind 10 e) at o)
      (λ e. rw (eqb-true l.kind 11 e) at o)

  rest-first : eqb l.kind 15 ≡ true → (s : ℕ) → sort_taken t p l 0 s ≡ true → below t.lowest (l.sort - s) l.node ≡ true
  unfolding sort_taken
  rest-first e s o = and_right (ltb s l.sort) _ (and_right (is_bits s) _ (rw (eqb-true l.kind 15 e) at o))

  second-taken : (i r : ℕ) (x y z : Bool) → like-first ≡ x → a-bit ≡ y → eqb l.kind 15 ≡ z → (s : ℕ)
      → cond x (eqb s (get_or t.sorts i 0)) (cond y (eqb s 1) (cond z (eqb s (l.sort - get_or t.sorts i 0)) (eqb s l.sort))) ≡ true
      → sort_taken t p (turned t p l 11 l.kind i 0 r) 1 s ≡ true
  unfolding sort_taken like-first a-bit
  second-taken i r x y z a b c s e = rw (a, b, c) e

  second-fit : (i : ℕ) → seconds t l ≡ true → leb 2 (arity l.kind) ≡ true → operand_ok t p l 0 i ≡ true → Fit t p (turned t p l 11 l.kind i 0 l.r) 1
  unfolding like-first a-bit
  second-fit i e h o = go like-first a-bit (eqb l.kind 15) refl refl refl e
    where
      m : Line
      m = turned t p l 11 l.kind i 0 l.r

      go : (x y z : Bool) → like-first ≡ x → a-bit ≡ y → eqb l.kind 15 ≡ z
          → ((x || y) || (z || (not (leb 2 (arity l.kind)) || below t.lowest l.sort l.node))) ≡ true → Fit t p m 1
      go true y z a b c e = again m i 0 1 refl o (second-taken i l.r true y z a b c _ (eq-eqb (get_or t.sorts i 0) (get_or t.sorts i 0) refl))
      go false true z a b c e = again m i 0 1 refl o (second-taken i l.r false true z a b c _ (bit-first b _ (taken 0 i o)))
      go false false true a b c e =
          make-fit t p m w.kept.tabled low-node 1 (l.sort - get_or t.sorts i 0) (ltb-true _ l.node (rest-first c _ (taken 0 i o)))
          (second-taken i l.r false false true a b c _ (eq-eqb (l.sort - get_or t.sorts i 0) (l.sort - get_or t.sorts i 0) refl))
      go false false false a b c e =
          make-fit t p m w.kept.tabled low-node 1 l.sort (ltb-true _ l.node (rw h at e))
          (second-taken i l.r false false false a b c _ (eq-eqb l.sort l.sort refl))

  -- the kind of a node stays one
  kind-some : (l.kind ≡ 0 → ⊥) → (i : ℕ) → kind_of t p l i ≡ 0 → ⊥
  kind-some q i = go (eqb l.kind 28 && is_float (get_or t.sorts i 0))
    where
      go : (x : Bool) → cond x 29 l.kind ≡ 0 → ⊥
      go true e = omega arith
      go false e = q e

  pub termed-live : (l.kind ≡ 0 → ⊥) → (a b c : ℕ) → Live (termed t p l a b c)
  unfolding termed
  termed-live q a b c = defined-live t p l w (kind_of t p l a) a (second_field t p l b) (third_field t p l c) (kind-some q a)

  pub first_live : (l.kind ≡ 0 → ⊥) → seconds t l ≡ true → (i : ℕ) → operand_ok t p l 0 i ≡ true → Live (operand₀ t p l i)
  unfolding operand₀
  first_live q e i o = go (leb 2 (arity l.kind)) refl
    where
      go : (x : Bool) → leb 2 (arity l.kind) ≡ x → Live (cond x (onward t p l (turned t p l 11 l.kind i 0 l.r)) (termed t p l i 0 0))
      go true h = second refl (resorted t p l 11 l.kind i 0 l.r l.left w) q (second-fit i e h o)
      go false h = termed-live q i 0 0

  own-second : eqb l.kind 13 ≡ true → (s : ℕ) → sort_taken t p l 1 s ≡ true → eqb s l.sort ≡ true
  unfolding sort_taken
  own-second e s o = rw (eqb-true l.kind 13 e) at o

  pub second_live : (l.kind ≡ 0 → ⊥) → (i : ℕ) → operand_ok t p l 1 i ≡ true → Live (operand₁ t p l i)
  unfolding operand₁ sort_taken
  second_live q i o = go (eqb l.kind 13) refl
    where
      m : Line
      m = turned t p l 12 l.kind l.a i l.r

      go : (x : Bool) → eqb l.kind 13 ≡ x → Live (cond x (onward t p l (turned t p l 12 l.kind l.a i l.r)) (termed t p l l.a i 0))
      go true h = third refl (resorted t p l 12 l.kind l.a i l.r l.left w) q (again m i 1 2 refl o (own-second h _ (taken 1 i o)))
      go false h = termed-live q l.a i 0

  pub place-live : l.kind ≡ 14 → 1 ≤ l.sort → (v : ℕ) → place_ok t p l v ≡ true → Live (onward t p l (turned t p l 10 l.kind 0 0 v))
  unfolding place_ok sort_taken arity
  place-live e h v o =
      let f = and_right (leb l.sort (v + 1)) _ o in
      let high = ltb-true v 80 (and_left (ltb v 80) _ f) in
      let x = some-from t.lowest (v + 1) l.node (omega arith) (and_right (ltb v 80) _ f) in
      let a = x.least in
      let b = x.most in
      first refl (resorted t p l 10 l.kind 0 0 v l.left w) (record {
        some = λ z. omega arith;
        first =
            make-fit t p (turned t p l 10 l.kind 0 0 v) w.kept.tabled low-node 0 x.width x.low
            (rw e
            (and_both (is_bits x.width) _
            (and_both (leb 1 x.width) _ (le-leb 1 x.width (omega arith)) (le-leb x.width 80 (omega arith)))
            (lt-ltb v x.width (omega arith))));
        second = rw e;
      })

  pub digit-live : 1 ≤ l.left → l.left < 3905 → (v : ℕ) → Live (digit t p l v)
  unfolding digit
  digit-live h k v = go (eqb l.left 1) refl
    where
      go : (x : Bool) → eqb l.left 1 ≡ x
          → Live (cond x
          (defined t p l 6 (grown t p l v % 2 ^ 64) (grown t p l v / 2 ^ 64) l.sort)
          (onward t p l (record { stage = 14; node = l.node; kind = 6; sort = l.sort; a = grown t p l v % 2 ^ 64; b = grown t p l v / 2 ^ 64; r = 0; left = l.left - 1; after = l.after })))
      go true e = defined-live t p l w 6 (grown t p l v % 2 ^ 64) (grown t p l v / 2 ^ 64) l.sort (λ z. omega arith)
      go false e =
          let q = eqb-false l.left 1 e in
          digits refl (resorted t p l 14 6 (grown t p l v % 2 ^ 64) (grown t p l v / 2 ^ 64) 0 (l.left - 1) w) (omega arith) (omega arith)
