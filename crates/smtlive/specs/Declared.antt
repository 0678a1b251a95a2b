-- The end of a declaration leaves a state that is live.
use Rattle.std.specs.Prelude.{◌≡◌, Bool, ◌&&◌, ◌||◌, ◌⊎◌, ℕ, ◌+◌, ◌≤◌, ◌<◌, min, leb, ltb, length, set}
use Rattle.std.proofs.Math.Path.{refl, sym, ap}
use Rattle.std.proofs.Common.{◌∙◌, ⊎_elim}
use Rattle.std.proofs.Math.Bool.{true, false, cond}
use mathlib.Core.List.{List}
use Rattle.std.proofs.Math.Logic.{inl, inr}
use native.Mathlib.Omega.{arith}
use borrow.Author.Tests.{eqb-true, eqb-false, eq-eqb, ne_eqb, ltb-true, ltb-false}
use Rattle.std.proofs.Math.Dec.{eqb}
use Rattle.std.proofs.Math.ListN.{get_or}
use Rattle.std.proofs.Math.Seq.{get_or-set_same}
use Rattle.viable.specs.Grammar.{clash}
use Rattle.sorts.specs.Sorts.{is_float}
use Rattle.smtgrammar.specs.State.{Tables, no_line}
use Rattle.smtgrammar.specs.Present.{source, suits}
use Rattle.smtgrammar.specs.Allowed.{format_of}
use Rattle.smtgrammar.specs.Next.{entered, obliged, declared}
use Rattle.smtgrammar.specs.declared.Place.{Place}
use Rattle.smtgrammar.specs.declared.Line.{Line}
use Rattle.smtlive.specs.Tests.{either, by-test, by-eq, at_set}
use Rattle.smtlive.specs.Sources.{Lower, source-some, float-high, still}
use Rattle.smtlive.specs.Live.{Tabled, Kept, Declaring, Numbered, Reading, between, Live}
use Rattle.smtlive.specs.Entered.{kept-kind, other-kind, other-sort, lowest-down, entered-tabled, obliged-kinds, obliged-lowest, obliged-tabled}

-- the format of a width is a format
format_float : (w : ℕ) → is_float (format_of w) ≡ true
format_float w = go (eqb w 32) (eqb w 64)
  where
    go : (x y : Bool) → is_float (cond x 2072 (cond y 2869 3904)) ≡ true
    go true y = refl
    go false true = refl
    go false false = refl

module _ (t : Tables) (p : Place) (l : Line) (o : Kept t p) (d : Declaring t p) (n : Numbered p l) (some : l.kind ≡ 0 → ⊥) (w : ℕ) (small : w < 81)
    (is : Bool) (free : is ≡ true → get_or t.kinds l.a 0 ≡ 0) where
  -- the tables with the operand obliged, where there is one, and with the node
  bound : Tables
  bound = obliged is l.a (format_of w) t

  second : ℕ
  second = cond (leb l.kind 3) w 0

  new : Tables
  new = entered bound l.node l.kind l.a second 0 w

  gap' : ℕ
  gap' = cond (eqb l.node p.gap) (l.node + 1) p.gap

  next' : ℕ
  next' = cond (eqb l.node p.gap) (l.node + 2) (cond (eqb l.node p.next) (l.node + 1) p.next)

  due' : ℕ
  due' = cond (is && eqb p.due 65535) l.node p.due

  leaves : ℕ → Place
  leaves owed = record { part = 0; top = l.node + 1; gap = gap'; next = next'; owed = owed; due = due'; count = p.count + 1 }

  same-kinds : (m : ℕ) → get_or bound.kinds m 0 ≡ get_or t.kinds m 0
  unfolding bound
  same-kinds m = rw (obliged-kinds t o.tabled is l.a (format_of w) free)

  unmade : get_or bound.kinds l.node 0 ≡ 0
  unmade = same-kinds l.node ∙ d.free l.node n.over

  tabled' : Tabled bound
  unfolding bound
  tabled' = obliged-tabled t o.tabled is l.a (format_of w) free

  before-it : (m : ℕ) → get_or new.kinds m 0 ≡ 0 → (m ≡ l.node → ⊥) × (get_or t.kinds m 0 ≡ 0) × (get_or new.sorts m 0 ≡ get_or bound.sorts m 0)
  unfolding new
  before-it m e =
      let z = kept-kind bound tabled' l.node l.kind l.a second 0 w n.high unmade some (omega arith) m e in
      (z.0, sym (same-kinds m) ∙ z.1, other-sort bound tabled' l.node l.kind l.a second 0 w n.high unmade some (omega arith) m z.0)

  still-free : (m : ℕ) → (m ≡ l.node → ⊥) → get_or t.kinds m 0 ≡ 0 → get_or new.kinds m 0 ≡ 0
  unfolding new
  still-free m q e =
      other-kind bound tabled' l.node l.kind l.a second 0 w n.high unmade some (omega arith) m q ∙ same-kinds m ∙ e

  still-sort : (m : ℕ) → (m ≡ l.node → ⊥) → get_or new.sorts m 0 ≡ get_or bound.sorts m 0
  unfolding new
  still-sort m q = other-sort bound tabled' l.node l.kind l.a second 0 w n.high unmade some (omega arith) m q

  down : (s : ℕ) → get_or new.lowest s 65535 ≤ get_or t.lowest s 65535
  unfolding new bound
  down s =
      let z = ap (λ (x : List ℕ). get_or x s 65535) (obliged-lowest t o.tabled is l.a (format_of w) free) in
      let a = lowest-down bound tabled' l.node l.kind l.a second 0 w n.high unmade some (omega arith) s in
      omega arith

  -- the gaps behind it
  gap-stays : (l.node ≡ p.gap → ⊥) → gap' ≡ p.gap
  unfolding gap'
  gap-stays q = rw (ne_eqb l.node p.gap q)

  record Gaps (gap next : ℕ) : Type 0 where
    high : gap ≤ 65535
    over : gap < next
    unmade-gap : gap < 65535 → get_or new.kinds gap 0 ≡ 0
    next-free : get_or new.kinds next 0 ≡ 0
    first : (i : ℕ) → i < gap → get_or new.kinds i 0 ≡ 0 → ⊥

  gaps : Gaps gap' next'
  unfolding gap' next'
  gaps = go (eqb l.node p.gap) (eqb l.node p.next) refl refl
    where
      go : (x y : Bool) → eqb l.node p.gap ≡ x → eqb l.node p.next ≡ y
          → Gaps (cond x (l.node + 1) p.gap) (cond x (l.node + 2) (cond y (l.node + 1) p.next))
      go true y e f =
          let z = eqb-true l.node p.gap e in
          let h = n.high in
          let v = n.over in
          record {
            high = omega arith;
            over = omega arith;
            unmade-gap = λ a. still-free (l.node + 1) (λ q. omega arith) (d.free (l.node + 1) (omega arith));
            next-free = still-free (l.node + 2) (λ q. omega arith) (d.free (l.node + 2) (omega arith));
            first = λ i a q. let b = before-it i q in let c : i ≡ l.node → ⊥ = b.0 in d.first i (omega arith) b.1;
          }
      go false true e f =
          let q = eqb-false l.node p.gap e in
          let z = eqb-true l.node p.next f in
          let u = d.next-over in
          let v = n.over in
          record {
            high = o.gap-high;
            over = omega arith;
            unmade-gap = λ a. still-free p.gap (λ z. q (sym z)) (o.gap-free a);
            next-free = still-free (l.node + 1) (λ q. omega arith) (d.free (l.node + 1) (omega arith));
            first = λ i a q. d.first i a (before-it i q).1;
          }
      go false false e f =
          let q = eqb-false l.node p.gap e in
          let r = eqb-false l.node p.next f in
          record {
            high = o.gap-high;
            over = d.next-over;
            unmade-gap = λ a. still-free p.gap (λ z. q (sym z)) (o.gap-free a);
            next-free = still-free p.next (λ z. r (sym z)) d.next-free;
            first = λ i a q. d.first i a (before-it i q).1;
          }

  due-high' : due' ≤ 65535
  unfolding due'
  due-high' = go (is && eqb p.due 65535)
    where
      go : (x : Bool) → cond x l.node p.due ≤ 65535
      go true = let h = n.high in omega arith
      go false = o.due-high

  declaring' : (owed : ℕ) → Declaring new (leaves owed)
  unfolding leaves
  declaring' owed = record {
    free = λ i h. let v = n.over in still-free i (λ z. omega arith) (d.free i (omega arith));
    first = gaps.first;
    next-free = gaps.next-free;
    next-over = gaps.over;
  }

  with-owed : (owed : ℕ)
      → ((m : ℕ) → get_or t.kinds m 0 ≡ 0 → (get_or bound.sorts m 0 ≡ 0 → ⊥) → (owed ≤ m) × (m < l.node) × (is_float (get_or bound.sorts m 0) ≡ true))
      → owed ≤ 65535
      → (owed < 65535 → get_or t.kinds owed 0 ≡ 0)
      → (owed < 65535 → get_or bound.sorts owed 0 ≡ 0 → ⊥)
      → (owed < 65535 → p.gap ≤ owed)
      → (owed < 65535 → (p.gap < owed) ⊎ Lower t.lowest (suits (get_or bound.sorts owed 0)) owed)
      → Kept new (leaves owed)
  unfolding new leaves
  with-owed owed each high free sorted over can =
      let under : owed < 65535 → owed < l.node = λ h. (each owed (free h) (sorted h)).1 in
      let stays : owed < 65535 → gap' ≡ p.gap = λ h. gap-stays (λ z. let a = under h in let b = over h in omega arith) in
      let not-it : owed < 65535 → owed ≡ l.node → ⊥ = λ h z. (let a = under h in omega arith) in
      record {
        tabled = entered-tabled bound tabled' l.node l.kind l.a second 0 w n.high unmade some (omega arith);
        least = λ m e q. let z = before-it m e in (each m z.1 (λ y. q (z.2 ∙ y))).0;
        before = λ m e q. let z = before-it m e in let y = (each m z.1 (λ y. q (z.2 ∙ y))).1 in omega arith;
        float = λ m e q. let z = before-it m e in rw z.2 (each m z.1 (λ y. q (z.2 ∙ y))).2;
        gap-high = gaps.high;
        gap-free = gaps.unmade-gap;
        owed-high = high;
        owed-free = λ h. still-free owed (not-it h) (free h);
        owed-sorted = λ h z. sorted h (sym (still-sort owed (not-it h)) ∙ z);
        owed-over = λ h. rw (stays h) (over h);
        owed-can = λ h.
            rw (stays h, still-sort owed (not-it h))
            (⊎_elim inl (λ m. inr (still t.lowest new.lowest (suits (get_or bound.sorts owed 0)) owed owed down (omega arith) m)) (can h));
        due-high = due-high';
        top-high = (let a = n.high in omega arith);
      }

  live-with : (owed : ℕ) → Kept new (leaves owed) → Live (record { tables = new; place = leaves owed; line = no_line })
  unfolding leaves
  live-with owed kept = between refl (record {
    kept = kept;
    part-high = omega arith;
    declaring = λ e. declaring' owed;
    asserting = λ e. absurd (omega arith);
    fresh-part = λ e. absurd (omega arith);
    fresh-gap = λ e. absurd (omega arith);
    fresh-due = λ e. absurd (omega arith);
  })

module _ (t : Tables) (p : Place) (l : Line) (o : Kept t p) (d : Declaring t p) (n : Numbered p l) (some : l.kind ≡ 0 → ⊥) (w : ℕ) (small : w < 81) where
  -- a node that reads no other one
  pub plain-live : eqb l.kind 26 ≡ false → Live (declared t p l w)
  unfolding declared new bound second leaves gap' next' due' obliged
  plain-live e =
      rw e
      (live-with t p l o d n some w small false (λ q. clash q) p.owed
      (with-owed t p l o d n some w small false (λ q. clash q) p.owed
      (λ m z q. (o.least m z q, (let a = o.before m z q in let b = n.over in omega arith), o.float m z q))
      o.owed-high o.owed-free o.owed-sorted o.owed-over o.owed-can))

  module _ (r : Reading t p l)
      (fits : cond (eqb (get_or t.sorts l.a 0) 0) (ltb p.gap l.a || source t.lowest (format_of w) l.a) (eqb (get_or t.sorts l.a 0) (format_of w)) ≡ true) where
    -- the format of the operand, from now on
    fresh : get_or t.sorts l.a 0 ≡ 0 → (p.gap < l.a) ⊎ Lower t.lowest (suits (format_of w)) l.a
    fresh e =
        either (ltb p.gap l.a) (source t.lowest (format_of w) l.a) (rw (eq-eqb (get_or t.sorts l.a 0) 0 e) at fits)
        (λ e. inl (ltb-true p.gap l.a e))
        (λ e. inr (source-some t.lowest (format_of w) l.a e))

    told : (get_or t.sorts l.a 0 ≡ 0 → ⊥) → get_or t.sorts l.a 0 ≡ format_of w
    told q = eqb-true (get_or t.sorts l.a 0) (format_of w) (rw (ne_eqb (get_or t.sorts l.a 0) 0 q) at fits)

    marked : List ℕ
    marked = set t.sorts l.a (format_of w)

    in_list : l.a < length t.sorts
    in_list = let a = r.earlier in let b = n.high in let c = o.tabled.sorts-long in omega arith

    first-gap : p.gap ≤ l.a
    first-gap =
        by-test (ltb l.a p.gap)
        (λ e. absurd (d.first l.a (ltb-true l.a p.gap e) r.free))
        (λ e. ltb-false l.a p.gap e)

    format-some : format_of w ≡ 0 → ⊥
    format-some e = let a = (float-high (format_of w) (format_float w)).0 in omega arith

    all-owed : (m : ℕ) → get_or t.kinds m 0 ≡ 0 → (get_or marked m 0 ≡ 0 → ⊥) → (min p.owed l.a ≤ m) × (m < l.node) × (is_float (get_or marked m 0) ≡ true)
    unfolding marked
    all-owed m e =
        at_set (λ x. (x ≡ 0 → ⊥) → (min p.owed l.a ≤ m) × (m < l.node) × (is_float x ≡ true)) t.sorts l.a m (format_of w) 0 in_list
        (λ z q. (omega arith, (let a = r.earlier in omega arith), format_float w))
        (λ z q. ((let a = o.least m e q in omega arith), (let a = o.before m e q in let b = n.over in omega arith), o.float m e q))

    -- the operand is the first that is obliged, or another one is
    record Next (m : ℕ) : Type 0 where
      free : get_or t.kinds m 0 ≡ 0
      sorted : get_or marked m 0 ≡ 0 → ⊥
      over : p.gap ≤ m
      can : (p.gap < m) ⊎ Lower t.lowest (suits (get_or marked m 0)) m

    operand-next : l.a < p.owed → Next l.a
    unfolding marked
    operand-next h =
        let e : get_or (set t.sorts l.a (format_of w)) l.a 0 ≡ format_of w = get_or-set_same t.sorts l.a (format_of w) 0 in_list in
        record {
          free = r.free;
          sorted = λ z. format-some (sym e ∙ z);
          over = first-gap;
          can = rw e (by-eq (get_or t.sorts l.a 0) 0 fresh (λ q. absurd (let a = o.least l.a r.free q in omega arith)));
        }

    other-next : p.owed ≤ l.a → Next p.owed
    unfolding marked
    other-next h =
        let b : p.owed < 65535 = (let x = r.earlier in let y = n.high in omega arith) in
        let e : get_or (set t.sorts l.a (format_of w)) p.owed 0 ≡ get_or t.sorts p.owed 0 =
        at_set (λ x. x ≡ get_or t.sorts p.owed 0) t.sorts l.a p.owed (format_of w) 0 in_list
        (λ z. rw z (sym (told (λ y. o.owed-sorted b (rw z y)))))
        (λ z. refl) in
        record {
          free = o.owed-free b;
          sorted = λ z. o.owed-sorted b (sym e ∙ z);
          over = o.owed-over b;
          can = rw e (o.owed-can b);
        }

    next-owed : Next (min p.owed l.a)
    next-owed =
        by-test (ltb l.a p.owed)
        (λ e. let h = ltb-true l.a p.owed e in let z : min p.owed l.a ≡ l.a = omega arith in rw z (operand-next h))
        (λ e. let h = ltb-false l.a p.owed e in let z : min p.owed l.a ≡ p.owed = omega arith in rw z (other-next h))

    -- a node that reads another one
    pub reading-live : Live (declared t p l w)
    unfolding declared new bound second leaves gap' next' due' obliged marked
    reading-live =
        let e = eq-eqb l.kind 26 r.is in
        let x = next-owed in
        rw e
        (live-with t p l o d n some w small true (λ q. r.free) (min p.owed l.a)
        (with-owed t p l o d n some w small true (λ q. r.free) (min p.owed l.a)
        all-owed
        (let a = o.owed-high in omega arith)
        (λ h. x.free) (λ h. x.sorted) (λ h. x.over) (λ h. x.can)))
