-- A node of a declared kind that is here can be declared in its turn.
use Rattle.std.specs.Prelude.{◌≡◌, Bool, cond, ◌&&◌, ◌||◌, List, ℕ, ◌≤◌, ◌<◌, ltb, get_or}
use Rattle.std.proofs.Math.Path.{refl, sym}
use Rattle.std.proofs.Common.{◌∙◌, arith}
use Rattle.std.proofs.Math.Bool.{true, false}
use borrow.Author.Tests.{eqb-true, eqb-false, eq-eqb, leb-true, lt-ltb, ltb-true, ltb-false}
use Rattle.std.proofs.Math.Dec.{leb, eqb}
use Rattle.viable.specs.Grammar.{clash}
use Rattle.words.specs.Tests.{and_l, and_r, and_i, or_l, or_r}
use Rattle.sorts.specs.Sorts.{is_float, is_stored, pattern_width, sort_row}
use Rattle.sorts.specs.Lists.{field}
use Rattle.needs.specs.Needed.{arity}
use Rattle.smttext.specs.Names.{kind_at, declared_is}
use Rattle.smtgrammar.specs.declared.Place.{Place}
use Rattle.smtgrammar.specs.State.{limit, Tables}
use Rattle.smtgrammar.specs.Present.{source}
use Rattle.smtgrammar.specs.Allowed.{format_of, kind_ok, number_ok, width_ok}
use Rattle.smtcomplete.specs.Facts.{by_row, sort_at, own_row, has-sort}
use Rattle.smtcomplete.specs.Sources.{by-float, width_small, input-small, stored-small, sum-defined}
use Rattle.smtcomplete.specs.Stands.{Given, here, Stands, inside, operand-here, made, sourced}
use Rattle.smtcomplete.specs.Declaring.{in_part, declaring}

-- what the tokens of kind k need, and what its row says of the fields that they leave out
pub record Fits (t : Tables) (p : Place) (i k a b c s : ℕ) : Type 0 where
  pub kind : kind_ok t (in_part 0 p) (declaring 2 i 0 0) k ≡ true
  pub few : k < 27
  pub number : leb k 3 ≡ false → (number_ok t (in_part 0 p) (declaring 3 i k 0) a ≡ true) × (a < limit)
  pub width : width_ok t (in_part 0 p) (declaring 5 i k a) s ≡ true
  pub small : s ≤ 80
  pub second : cond (leb k 3) s 0 ≡ b
  pub third : 0 ≡ c

-- kinds 1 to 5
module _ (t : Tables) (p : Place) (i a b c sa sb sc : ℕ) where
  plain : (k : ℕ) → (sort_row k a b c sa sb sc ≡ 0 → ⊥) → declared_is k ≡ true → (k ≡ 26 → ⊥) → Fits t p i k a b c (sort_row k a b c sa sb sc)
  unfolding kind_ok number_ok width_ok
  plain k =
      by_row (λ k s. declared_is k ≡ true → (k ≡ 26 → ⊥) → Fits t p i k a b c s) k a b c sa sb sc
      (λ e _ _. record {
        kind = refl;
        few = omega arith;
        number = λ z. clash (sym z);
        width = and_l (eqb b 79 || eqb b 16) (eqb c 0) e;
        small = input-small b (and_l (eqb b 79 || eqb b 16) (eqb c 0) e);
        second = refl;
        third = sym (eqb-true c 0 (and_r (eqb b 79 || eqb b 16) (eqb c 0) e));
      })
      (λ e _ _. stored 2 refl (omega arith) refl refl e)
      (λ e _ _. stored 3 refl (omega arith) refl refl e)
      (λ e _ _. let z = eqb-true a 0 (and_l (eqb a 0) (eqb b 0) (and_l (eqb a 0 && eqb b 0) (eqb c 0) e)) in record {
        kind = refl;
        few = omega arith;
        number = λ _. (and_l (eqb a 0) (eqb b 0) (and_l (eqb a 0 && eqb b 0) (eqb c 0) e), omega arith);
        width = refl;
        small = omega arith;
        second = sym (eqb-true b 0 (and_r (eqb a 0) (eqb b 0) (and_l (eqb a 0 && eqb b 0) (eqb c 0) e)));
        third = sym (eqb-true c 0 (and_r (eqb a 0 && eqb b 0) (eqb c 0) e));
      })
      (λ e _ _. let z = leb-true a 2 (and_l (leb a 2) (eqb b 0) (and_l (leb a 2 && eqb b 0) (eqb c 0) e)) in record {
        kind = refl;
        few = omega arith;
        number = λ _. (and_l (leb a 2) (eqb b 0) (and_l (leb a 2 && eqb b 0) (eqb c 0) e), omega arith);
        width = refl;
        small = omega arith;
        second = sym (eqb-true b 0 (and_r (leb a 2) (eqb b 0) (and_l (leb a 2 && eqb b 0) (eqb c 0) e)));
        third = sym (eqb-true c 0 (and_r (leb a 2 && eqb b 0) (eqb c 0) e));
      })
      (λ e d. clash d) (λ e d. clash d) (λ e d. clash d) (λ e d. clash d) (λ e d. clash d) (λ e d. clash d) (λ e d. clash d)
      (λ e d. clash d) (λ e d. clash d) (λ e d. clash d)
      (λ j h e d. clash (sym (sum-defined j h) ∙ d))
      (λ e d. clash d) (λ e d. clash d) (λ e d. clash d) (λ e d. clash d) (λ e d. clash d) (λ e d. clash d)
      (λ e d z. absurd (z refl))
      (λ e d. clash d) (λ e d. clash d) (λ e d. clash d)
    where
      stored : (k : ℕ) → kind_ok t (in_part 0 p) (declaring 2 i 0 0) k ≡ true → k < 27 → leb k 3 ≡ true → eqb k 1 ≡ false → (is_stored b && eqb c 0) ≡ true → Fits t p i k a b c b
      stored k f h l z e = record {
        kind = f;
        few = h;
        number = λ y. clash (sym y ∙ l);
        width = rw (z, l) (and_l (is_stored b) (eqb c 0) e);
        small = stored-small b (and_l (is_stored b) (eqb c 0) e);
        second = rw l;
        third = sym (eqb-true c 0 (and_r (is_stored b) (eqb c 0) e));
      }

-- an FpToIeeeBv reads a float
pub record Reads (b c s sa : ℕ) : Type 0 where
  pub float : is_float sa ≡ true
  pub width : s ≡ pattern_width sa
  pub second : b ≡ 0
  pub third : c ≡ 0

module _ (a b c sa sb sc : ℕ) where
  reads : (k : ℕ) → (sort_row k a b c sa sb sc ≡ 0 → ⊥) → k ≡ 26 → Reads b c (sort_row k a b c sa sb sc) sa
  reads k =
      by_row (λ k s. k ≡ 26 → Reads b c s sa) k a b c sa sb sc
      (λ _ z. absurd (omega arith)) (λ _ z. absurd (omega arith)) (λ _ z. absurd (omega arith)) (λ _ z. absurd (omega arith))
      (λ _ z. absurd (omega arith)) (λ _ z. absurd (omega arith)) (λ _ z. absurd (omega arith)) (λ _ z. absurd (omega arith))
      (λ _ z. absurd (omega arith)) (λ _ z. absurd (omega arith)) (λ _ z. absurd (omega arith)) (λ _ z. absurd (omega arith))
      (λ _ z. absurd (omega arith)) (λ _ z. absurd (omega arith)) (λ _ z. absurd (omega arith))
      (λ j h _ z. clash (sym (sum-defined j h) ∙ rw z))
      (λ _ z. absurd (omega arith)) (λ _ z. absurd (omega arith)) (λ _ z. absurd (omega arith)) (λ _ z. absurd (omega arith))
      (λ _ z. absurd (omega arith)) (λ _ z. absurd (omega arith))
      (λ e _. record {
        float = and_l (is_float sa) (eqb b 0) (and_l (is_float sa && eqb b 0) (eqb c 0) e);
        width = refl;
        second = eqb-true b 0 (and_r (is_float sa) (eqb b 0) (and_l (is_float sa && eqb b 0) (eqb c 0) e));
        third = eqb-true c 0 (and_r (is_float sa && eqb b 0) (eqb c 0) e);
      })
      (λ _ z. absurd (omega arith)) (λ _ z. absurd (omega arith)) (λ _ z. absurd (omega arith))

-- the format of a float's patterns is its own
pub format_width : (f : ℕ) → is_float f ≡ true → format_of (pattern_width f) ≡ f
format_width f e = by-float (λ f. format_of (pattern_width f) ≡ f) f e refl refl refl

is-width : (f : ℕ) → is_float f ≡ true → ((eqb (pattern_width f) 32 || eqb (pattern_width f) 64) || eqb (pattern_width f) 79) ≡ true
is-width f e = by-float (λ f. ((eqb (pattern_width f) 32 || eqb (pattern_width f) 64) || eqb (pattern_width f) 79) ≡ true) f e refl refl refl

-- the operand of an FpToIeeeBv that is here
pub record Operated (w m : List ℕ) (n i : ℕ) : Type 0 where
  pub reads : Reads (field w i 2) (field w i 3) (sort_at w n i) (sort_at w n (field w i 1))
  pub there : here m n (field w i 1) ≡ true
  pub earlier : field w i 1 < i
  pub defined : declared_is (kind_at w (field w i 1)) ≡ false

module _ (w m : List ℕ) (n : ℕ) (given : Given w m n) where
  pub operated : (i : ℕ) → here m n i ≡ true → kind_at w i ≡ 26 → Operated w m n i
  unfolding arity
  operated i h e =
      let row = own_row w n given.passes i (inside w m n i h) in
      let r = reads (field w i 1) (field w i 2) (field w i 3) (sort_at w n (field w i 1)) (sort_at w n (field w i 2)) (sort_at w n (field w i 3)) (kind_at w i)
      (rw row at (has-sort w n given.passes i (inside w m n i h))) e in
      let o = operand-here w m n given i 0 h (rw e (omega arith)) in
      record {
        reads = rw row r;
        there = o.0;
        earlier = o.1;
        defined = (made w m n given (field w i 1) o.0 r.float).defined;
      }

  -- node i in its turn, where P has no defined node and the place knows the next free number
  module _ (P : ℕ → Bool) (t : Tables) (p : Place) (s : Stands w m n P 0 0 t p)
      (next : (x : ℕ) → P x ≡ false → p.gap < x → p.next ≤ x) (bare : (j : ℕ) → declared_is (kind_at w j) ≡ false → P j ≡ false)
      (i : ℕ) (h : here m n i ≡ true) where
    read_fits : kind_at w i ≡ 26 → Fits t p i 26 (field w i 1) (field w i 2) (field w i 3) (sort_at w n i)
    unfolding kind_ok number_ok width_ok
    read_fits e =
        record {
          kind = and_i (ltb p.gap i) _ (lt-ltb p.gap i (omega (arith, under, before))) (free (ltb p.gap q) refl);
          few = omega arith;
          number = λ _. (and_i (ltb q i && eqb (get_or t.kinds q 0) 0) _ (and_i (ltb q i) _ (lt-ltb q i o.earlier) (eq-eqb _ 0 gone)) from.1, low);
          width = rw (o.reads.width, is-width (sort_at w n q) f, format_width (sort_at w n q) f) (fit (eqb (get_or t.sorts q 0) 0) refl);
          small = rw o.reads.width (width_small (sort_at w n q));
          second = sym o.reads.second;
          third = sym o.reads.third;
        }
      where
        o : Operated w m n i
        o = operated i h e

        q : ℕ
        q = field w i 1

        f : is_float (sort_at w n q) ≡ true
        f = o.reads.float

        not_there : P q ≡ false
        not_there = bare q o.defined

        gone : get_or t.kinds q 0 ≡ 0
        gone = s.holds.kinds q ∙ rw not_there

        from : ((ltb p.gap q || source t.lowest (sort_at w n q) q) ≡ true) × ((ltb p.gap q || source t.lowest 3904 q) ≡ true)
        from = sourced w m n given P t p 0 q s o.there f

        low : q < 65535
        low = let b = inside w m n q o.there in let z = given.size in omega arith

        under : p.gap ≤ q
        under = s.gap q not_there (omega arith) low

        before : q < i
        before = o.earlier

        free : (b : Bool) → ltb p.gap q ≡ b → (ltb p.next i || source t.lowest 3904 p.gap) ≡ true
        free true z = or_l (ltb p.next i) _ (lt-ltb p.next i (let l = next q not_there (ltb-true p.gap q z) in omega (arith, before)))
        free false z =
            let g : p.gap ≡ q = (let l = ltb-false p.gap q z in omega (arith, under)) in
            or_r (ltb p.next i) _ (rw g (rw z at from.1))

        fit : (b : Bool) → eqb (get_or t.sorts q 0) 0 ≡ b
            → cond b (ltb p.gap q || source t.lowest (sort_at w n q) q) (eqb (get_or t.sorts q 0) (sort_at w n q)) ≡ true
        fit true z = from.0
        fit false z = eq-eqb _ _ (s.holds.owing q not_there (eqb-false _ 0 z)).is

    pub fits : declared_is (kind_at w i) ≡ true → Fits t p i (kind_at w i) (field w i 1) (field w i 2) (field w i 3) (sort_at w n i)
    fits d = go (eqb (kind_at w i) 26) refl
      where
        go : (b : Bool) → eqb (kind_at w i) 26 ≡ b → Fits t p i (kind_at w i) (field w i 1) (field w i 2) (field w i 3) (sort_at w n i)
        go true e = let k = eqb-true (kind_at w i) 26 e in rw k (read_fits k)
        go false e =
            let row = own_row w n given.passes i (inside w m n i h) in
            rw row
            (plain t p i (field w i 1) (field w i 2) (field w i 3) (sort_at w n (field w i 1)) (sort_at w n (field w i 2)) (sort_at w n (field w i 3)) (kind_at w i)
            (rw row at (has-sort w n given.passes i (inside w m n i h))) d (eqb-false (kind_at w i) 26 e))
