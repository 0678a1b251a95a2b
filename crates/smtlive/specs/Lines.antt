-- What begins a line, a declaration and an assertion: each allowed choice leaves a state that is live.
use Rattle.std.specs.Prelude.{◌≡◌, cond, ◌&&◌, ◌||◌, ◌⊎◌, ℕ, ◌+◌, ◌*◌, ◌≤◌, ◌<◌, get_or}
use Rattle.std.proofs.Math.Path.{refl}
use Rattle.std.proofs.Math.Bool.{Bool, true, false}
use Rattle.std.proofs.Math.Logic.{inl, inr, ⊎_elim}
use native.Mathlib.Omega.{arith}
use borrow.Author.Tests.{eqb-true, ne_eqb, ltb-true, leb-true, leb-false}
use Rattle.std.proofs.Math.Dec.{leb, ltb, eqb}
use Rattle.smtgrammar.specs.State.{Tables}
use Rattle.smtgrammar.specs.Present.{source}
use Rattle.smtgrammar.specs.Allowed.{line_ok, declared_ok, kind_ok, number_ok, read_ok, width_ok, defined_ok}
use Rattle.smtgrammar.specs.Next.{gap_from, due_from, onward, begun, numeral, declared, asserted}
use Rattle.smtgrammar.specs.declared.Place.{Place}
use Rattle.smtgrammar.specs.declared.Line.{Line}
use Rattle.smtlive.specs.Closed.{none, ◌▸◌, each}
use Rattle.smtlive.specs.Tests.{either, and_left, and_right, by-test, by-eq}
use Rattle.smtlive.specs.Seek.{gap-found, due-found}
use Rattle.smtlive.specs.Sources.{source-some}
use Rattle.smtlive.specs.Live.{Kept, Declaring, Between, Numbered, ToRead, Reading, between, declares, numbered, kinded, counted, wide, defines, sorts, asserts, Live}
use Rattle.smtlive.specs.Declared.{plain-live, reading-live}

-- the same facts where the part, the assertion that is due or the count is another one
moved : (t : Tables) (p : Place) (part due count : ℕ) → due ≤ 65535 → Kept t p
    → Kept t (record { part = part; top = p.top; gap = p.gap; next = p.next; owed = p.owed; due = due; count = count })
moved t p part due count h o = record {
  tabled = o.tabled;
  least = o.least;
  before = o.before;
  float = o.float;
  gap-high = o.gap-high;
  gap-free = o.gap-free;
  owed-high = o.owed-high;
  owed-free = o.owed-free;
  owed-sorted = o.owed-sorted;
  owed-over = o.owed-over;
  owed-can = o.owed-can;
  due-high = h;
  top-high = o.top-high;
}

module _ (t : Tables) (p : Place) (l : Line) where
  pub begun-live : Between t p → (v : ℕ) → v < 3 → line_ok t p l v ≡ true → Live (begun t p l v)
  unfolding line_ok begun
  begun-live b =
      let o = b.kept in
      each (λ v. line_ok t p l v ≡ true → Live (begun t p l v)) 3
      (none
      ▸ (λ e.
      let d = b.declaring (eqb-true p.part 0 (and_left (eqb p.part 0) _ e)) in
      declares refl (moved t p 0 p.due p.count o.due-high o)
      (record { free = d.free; first = d.first; next-free = d.next-free; next-over = d.next-over })
      (ltb-true p.top 65535 (and_right (eqb p.part 0) _ e)))
      ▸ (λ e. defines refl (moved t p 1 p.due p.count o.due-high o) (ltb-true p.gap 65535 (and_right (leb p.part 1) _ e)))
      ▸ (λ e.
      let due = ltb-true p.due 65535 (and_right (eqb p.owed 65535) _ e) in
      asserts refl (moved t p 2 p.due p.count o.due-high o) (eqb-true p.owed 65535 (and_left (eqb p.owed 65535) _ e))
      (by-eq p.count 0 (λ z. absurd (let y = b.fresh-due z in omega arith)) (λ z. omega arith))
      due))

  module _ (o : Kept t p) (d : Declaring t p) where
    pub number-live : (v : ℕ) → declared_ok t p l v ≡ true
        → Live (onward t p l (record { stage = 2; node = v; kind = 0; sort = 0; a = 0; b = 0; r = 0; left = 0; after = 0 }))
    number-live v e =
        numbered refl o d (record { over = leb-true p.top v (and_left (leb p.top v) _ e); high = ltb-true v 65535 (and_right (leb p.top v) _ e) })

    pub kind-live : Numbered p l → (v : ℕ) → kind_ok t p l v ≡ true
        → Live (onward t p l (record { stage = cond (leb v 3) 4 3; node = l.node; kind = v; sort = 0; a = 0; b = 0; r = 0; left = 0; after = 0 }))
    unfolding kind_ok
    kind-live n v e =
        let r : Bool = ltb p.gap l.node && (ltb p.next l.node || source t.lowest 3904 p.gap) in
        by-test (leb v 3)
        (λ q.
        let h = leb-true v 3 q in
        counted (rw q) o d (record { over = n.over; high = n.high })
        (either (leb 1 v && leb v 5) (eqb v 26 && r) e
        (λ e. leb-true 1 v (and_left (leb 1 v) _ e))
        (λ e. absurd (let z = eqb-true v 26 (and_left (eqb v 26) r e) in omega arith)))
        h (inl (refl, refl)))
        (λ q.
        let h = leb-false v 3 q in
        kinded (rw q) o d (record { over = n.over; high = n.high })
        (either (leb 1 v && leb v 5) (eqb v 26 && r) e
        (λ e. let k = leb-true v 5 (and_right (leb 1 v) _ e) in inl (by-eq v 4 inl (λ z. inr (omega arith))))
        (λ e.
        let k = and_right (eqb v 26) r e in
        inr (record {
          is = eqb-true v 26 (and_left (eqb v 26) r e);
          over = ltb-true p.gap l.node (and_left (ltb p.gap l.node) _ k);
          some =
              either (ltb p.next l.node) (source t.lowest 3904 p.gap) (and_right (ltb p.gap l.node) _ k)
              (λ e. inl (ltb-true p.next l.node e))
              (λ e. inr (source-some t.lowest 3904 p.gap e));
        }))))

    pub operand-live : Numbered p l → ((l.kind ≡ 4) ⊎ (l.kind ≡ 5)) ⊎ ToRead t p l → (v : ℕ) → number_ok t p l v ≡ true
        → Live (onward t p l (record { stage = 5; node = l.node; kind = l.kind; sort = 0; a = v; b = 0; r = 0; left = 0; after = 0 }))
    unfolding number_ok
    operand-live n k v e =
        wide refl o d (record { over = n.over; high = n.high })
        (⊎_elim
        (λ q. inl (⊎_elim (λ z. (omega arith, omega arith)) (λ z. (omega arith, omega arith)) q))
        (λ r.
        let f = rw r.is at e in
        let b = and_left (ltb v l.node && eqb (get_or t.kinds v 0) 0) _ f in
        let c = and_right (ltb v l.node && eqb (get_or t.kinds v 0) 0) (read_ok t p l v) f in
        inr (record {
          is = r.is;
          earlier = ltb-true v l.node (and_left (ltb v l.node) _ b);
          free = eqb-true (get_or t.kinds v 0) 0 (and_right (ltb v l.node) _ b);
          can =
              either (ltb p.gap v) (source t.lowest 3904 v) c
              (λ e. inl (ltb-true p.gap v e))
              (λ e. inr (source-some t.lowest 3904 v e));
        }))
        k)

    pub numeral-live : Numbered p l → 1 ≤ l.kind → l.kind ≤ 3 → (v : ℕ) → Live (numeral t p l v)
    unfolding numeral
    numeral-live n h k v = go (eqb v 10)
      where
        go : (x : Bool)
            → Live (cond x
            (onward t p l (record { stage = 5; node = l.node; kind = l.kind; sort = 0; a = l.a; b = 0; r = 0; left = 0; after = 0 }))
            (onward t p l (record { stage = 4; node = l.node; kind = l.kind; sort = 0; a = 10 * l.a + v; b = 0; r = 0; left = 1; after = 0 })))
        go true = wide refl o d (record { over = n.over; high = n.high }) (inl (h, omega arith))
        go false = counted refl o d (record { over = n.over; high = n.high }) h k (inr refl)

    pub width-live : Numbered p l → ((1 ≤ l.kind) × (l.kind ≤ 5)) ⊎ Reading t p l → (v : ℕ) → v < 81 → width_ok t p l v ≡ true → Live (declared t p l v)
    unfolding width_ok
    width-live n k v h e =
        ⊎_elim
        (λ q.
        let a = q.0 in
        let b = q.1 in
        plain-live t p l o d n (λ z. omega arith) v h (ne_eqb l.kind 26 (λ z. omega arith)))
        (λ r.
        let z = r.is in
        reading-live t p l o d n (λ z. omega arith) v h r (and_right ((eqb v 32 || eqb v 64) || eqb v 79) _ (rw z at e)))
        k

  pub defines-live : Kept t p → (v : ℕ) → defined_ok t p l v ≡ true
      → Live (onward t p l (record { stage = 7; node = v; kind = 0; sort = 0; a = 0; b = 0; r = 0; left = 0; after = gap_from t (v + 1) }))
  unfolding defined_ok
  defines-live o v e =
      let x = (leb p.gap v && ltb v 65535) && eqb (get_or t.kinds v 0) 0 in
      let y = ltb v p.owed || (eqb v p.owed && source t.lowest (get_or t.sorts v 0) v) in
      let f = and_left x y e in
      let f' = and_left (leb p.gap v && ltb v 65535) _ f in
      let high = ltb-true v 65535 (and_right (leb p.gap v) _ f') in
      let g = gap-found t (v + 1) (omega arith) in
      sorts refl o (record {
        high = high;
        free = eqb-true (get_or t.kinds v 0) 0 (and_right (leb p.gap v && ltb v 65535) _ f);
        over = leb-true p.gap v (and_left (leb p.gap v) _ f');
        after-over = (let a = g.low in omega arith);
        after-high = g.high;
        after_free = g.free;
        after-least = λ m a b. g.least m (omega arith) b;
        turn =
            either (ltb v p.owed) (eqb v p.owed && source t.lowest (get_or t.sorts v 0) v) (and_right x y e)
            (λ e. inl (ltb-true v p.owed e))
            (λ e. inr (eqb-true v p.owed (and_left (eqb v p.owed) _ e), source-some t.lowest (get_or t.sorts v 0) v (and_right (eqb v p.owed) _ e)));
      })

  pub asserted-live : Kept t p → p.owed ≡ 65535 → 1 ≤ p.count → p.due < 65535 → Live (asserted t p l)
  unfolding asserted
  asserted-live o z h k =
      between refl (record {
        kept = moved t p 2 (due_from t p.top (p.due + 1)) p.count (due-found t p.top (p.due + 1) o.top-high (omega arith)).1 o;
        part-high = omega arith;
        declaring = λ e. absurd (omega arith);
        asserting = λ e. z;
        fresh-part = λ e. absurd (omega arith);
        fresh-gap = λ e. absurd (omega arith);
        fresh-due = λ e. absurd (omega arith);
      })
