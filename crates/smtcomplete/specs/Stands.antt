-- What holds between two lines: which nodes are there, and what the place knows of the others.
use Rattle.std.specs.Prelude.{◌≡◌, refl, Bool, true, false, ◌&&◌, ◌||◌, List, ℕ, suc, ◌^◌, ◌≤◌, ◌<◌, ltb, get_or}
use Rattle.std.proofs.Common.{sym, ◌∙◌, arith, eqb-true, lt-ltb, ltb-true, get_or-set_other}
use Rattle.words.specs.Tests.{and_l, and_r, or_l, or_r}
use Rattle.sorts.specs.Sorts.{is_float}
use Rattle.sorts.specs.Lists.{field}
use Rattle.sorts.specs.Laws.{Passes}
use Rattle.needs.specs.Needed.{arity}
use Rattle.smttext.specs.Names.{kind_at, declared_is}
use Rattle.smttext.specs.Text.{on}
use Rattle.smttext.specs.Subset.{Kept}
use Rattle.smtgrammar.specs.declared.Place.{Place}
use Rattle.smtgrammar.specs.State.{limit, Tables}
use Rattle.smtgrammar.specs.Present.{source}
use Rattle.smtgrammar.specs.Next.{entered, obliged}
use Rattle.smtcomplete.specs.Facts.{sort_at, operand-of}
use Rattle.smtcomplete.specs.Sources.{Made, node_made, source_of, source-any}
use Rattle.smtcomplete.specs.Tally.{tally, tally-same}
use Rattle.smtcomplete.specs.Holds.{Owes, Holds, Adds, by-entry, again}

-- a list that passes, whose words are words, and marks that are closed
pub record Given (w m : List ℕ) (n : ℕ) : Type 0 where
  pub size : n ≤ 65535
  pub passes : Passes w n
  pub kept : Kept w m n
  pub words : (j : ℕ) → get_or w j 0 < 2 ^ 64

-- below n and marked
abbrev pub here : List ℕ → ℕ → ℕ → Bool
here m n j = ltb j n && on m j

module _ (w m : List ℕ) (n : ℕ) where
  -- number j is obliged, and not there yet
  pub record Waits (P : ℕ → Bool) (t : Tables) (j : ℕ) : Type 0 where
    pub not : P j ≡ false
    pub owes : Owes w m n j (get_or t.sorts j 0)

  -- node j is the FpToIeeeBv that comes next
  pub record Due (P : ℕ → Bool) (since j : ℕ) : Type 0 where
    pub there : P j ≡ true
    pub kind : kind_at w j ≡ 26
    pub late : since ≤ j

  pub record Stands (P : ℕ → Bool) (from since : ℕ) (t : Tables) (p : Place) : Type 0 where
    pub holds : Holds w m n P t
    pub only : (j : ℕ) → P j ≡ true → here m n j ≡ true
    pub gap : (x : ℕ) → P x ≡ false → from ≤ x → x < limit → p.gap ≤ x
    pub owed : (p.owed ≡ limit → ⊥) → Waits P t p.owed
    pub top : (j : ℕ) → P j ≡ true → declared_is (kind_at w j) ≡ true → j < p.top
    pub count : p.count ≡ tally P n
    pub first : (j : ℕ) → P j ≡ true → kind_at w j ≡ 26 → since ≤ j → p.due ≤ j
    pub due : (p.due ≡ limit → ⊥) → Due P since p.due

  pub inside : (j : ℕ) → here m n j ≡ true → j < n
  inside j e = ltb-true j n (and_l (ltb j n) (on m j) e)

  pub marked : (j : ℕ) → here m n j ≡ true → get_or m j 0 ≡ 1
  marked j e = eqb-true (get_or m j 0) 1 (and_r (ltb j n) (on m j) e)

  pub here-is : (j : ℕ) → j < n → get_or m j 0 ≡ 1 → here m n j ≡ true
  here-is j h e = rw (lt-ltb j n h, e)

  -- what waits, waits on when another node comes or is obliged
  pub waits-enter : (P Q : ℕ → Bool) (t : Tables) (i k a b c s j : ℕ) → Adds P Q i → (j ≡ i → ⊥) → Waits P t j → Waits Q (entered t i k a b c s) j
  unfolding entered
  waits-enter P Q t i k a b c s j new h o =
      record { not = new.old j h ∙ o.not; owes = rw (get_or-set_other t.sorts i j s 0 h) o.owes }

  pub waits-oblige : (P : ℕ → Bool) (t : Tables) (q s j : ℕ) → q < 65536 → Holds w m n P t → s ≡ sort_at w n q → Waits P t j → Waits P (obliged true q s t) j
  unfolding obliged
  waits-oblige P t q s j h o e v =
      record {
        not = v.not;
        owes =
            by-entry (λ j v. Owes w m n j (get_or t.sorts j 0) → Owes w m n j v) t.sorts 0 q s j (omega (arith, o.sized.sorts))
            (λ z u. record { is = rw z e; inside = u.inside; marked = u.marked; float = u.float })
            (λ _ u. u)
            v.owes;
      }

  -- the same nodes, said otherwise, from a later number on
  pub stands-again : (P Q : ℕ → Bool) (from from' since : ℕ) (t : Tables) (p : Place) → ((j : ℕ) → Q j ≡ P j) → from ≤ from' → Stands P from since t p → Stands Q from' since t p
  stands-again P Q from from' since t p e l s =
      record {
        holds = again w m n P Q t e s.holds;
        only = λ j q. s.only j (sym (e j) ∙ q);
        gap = λ x q h. s.gap x (sym (e x) ∙ q) (omega arith);
        owed = λ z. let u = s.owed z in record { not = e _ ∙ u.not; owes = u.owes };
        top = λ j q. s.top j (sym (e j) ∙ q);
        count = s.count ∙ tally-same P Q e n;
        first = λ j q. s.first j (sym (e j) ∙ q);
        due = λ z. let u = s.due z in record { there = e _ ∙ u.there; kind = u.kind; late = u.late };
      }

  module _ (given : Given w m n) where
    -- operand number p of a node is here, and earlier
    pub operand-here : (j p : ℕ) → here m n j ≡ true → p < arity (kind_at w j) → (here m n (field w j (suc p)) ≡ true) × (field w j (suc p) < j)
    operand-here j p h l =
        let o = operand-of w n given.passes j p (inside j h) l in
        let e = o.earlier in
        let b = inside j h in
        (here-is _ (omega arith) (given.kept.operands j _ b (marked j h) o), e)

    -- a float that is here is made of an earlier node that suits it
    pub made : (j : ℕ) → here m n j ≡ true → is_float (sort_at w n j) ≡ true → Made (kind_at w j) (sort_at w n j) (sort_at w n (field w j 1))
    made j h = node_made w n given.passes j (inside j h)

    -- .. which is there already, or has a number that is still free
    pub sourced : (P : ℕ → Bool) (t : Tables) (p : Place) (since q : ℕ) → Stands P 0 since t p → here m n q ≡ true → is_float (sort_at w n q) ≡ true
        → ((ltb p.gap q || source t.lowest (sort_at w n q) q) ≡ true) × ((ltb p.gap q || source t.lowest 3904 q) ≡ true)
    sourced P t p since q s h f =
        let u = made q h f in
        let o = operand-here q 0 h u.has in
        go u o (P (field w q 1)) refl
      where
        go : Made (kind_at w q) (sort_at w n q) (sort_at w n (field w q 1)) → (here m n (field w q 1) ≡ true) × (field w q 1 < q) → (b : Bool) → P (field w q 1) ≡ b
            → ((ltb p.gap q || source t.lowest (sort_at w n q) q) ≡ true) × ((ltb p.gap q || source t.lowest 3904 q) ≡ true)
        go u o true e =
            let l = s.holds.lowest (field w q 1) e in
            let k : get_or t.lowest (sort_at w n (field w q 1)) limit < q = omega arith in (
              or_r (ltb p.gap q) _ (source_of t.lowest _ q k (sort_at w n q) u.suits),
              or_r (ltb p.gap q) _ (source-any t.lowest _ q k (sort_at w n q) f u.suits),
            )
        go u o false e =
            let b = inside (field w q 1) o.0 in
            let z = given.size in
            let l = s.gap (field w q 1) e (omega arith) (omega arith) in
            let k = lt-ltb p.gap q (omega arith) in
            (or_l (ltb p.gap q) _ k, or_l (ltb p.gap q) _ k)
