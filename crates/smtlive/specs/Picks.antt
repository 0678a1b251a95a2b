-- In a live state that is not done some allowed choice comes nearer to the end: between lines, and in a declaration.
use Rattle.std.specs.Prelude.{◌≡◌, false, ◌&&◌, ◌||◌, ◌⊎◌, ℕ, ◌+◌, ◌≤◌, ◌<◌, leb}
use Rattle.std.proofs.Math.Path.{refl}
use Rattle.std.proofs.Common.{sym, ◌∙◌}
use Rattle.std.proofs.Math.Bool.{true}
use Rattle.std.proofs.Math.Logic.{⊎_elim}
use native.Mathlib.Omega.{arith}
use borrow.Author.Tests.{eq-eqb, lt-ltb, le-leb}
use Rattle.std.proofs.Math.Dec.{ltb, eqb}
use Rattle.std.proofs.Math.ListN.{get_or}
use Rattle.viable.specs.Grammar.{clash}
use Rattle.smtgrammar.specs.State.{Tables}
use Rattle.smtgrammar.specs.Present.{source}
use Rattle.smtgrammar.specs.Allowed.{line_ok, kind_ok, number_ok, read_ok, digit_ok, width_ok, defined_ok}
use Rattle.smtgrammar.specs.Next.{begun, numeral, asserted}
use Rattle.smtgrammar.specs.Grammar.{done}
use Rattle.smtgrammar.specs.declared.Place.{Place}
use Rattle.smtgrammar.specs.declared.Line.{Line}
use Rattle.smtlive.specs.Tests.{or_left, or_right, and_both, by-eq}
use Rattle.smtlive.specs.Seek.{gap-found, due-found}
use Rattle.smtlive.specs.Sources.{by-float, some-source}
use Rattle.smtlive.specs.Live.{Kept, Declaring, Between, Numbered, ToRead, Reading}
use Rattle.smtlive.specs.At.{at-0, at_1, at-2, at-3, at-4, at_5, at-6, at-15}
use Rattle.smtlive.specs.Rank.{room, ahead, rank_at, Pick, pick, rank-0, rank-1, rank-2, rank-3, rank-4, rank-5, rank-6, rank-15, declared-rank}

module _ (t : Tables) (p : Place) (l : Line) where
  -- a line is begun: a definition where one is obliged or nothing is there, else an assertion
  begin : (v : ℕ) → l.stage ≡ 0 → v < 3 → (v ≡ 0 → ⊥) → line_ok t p l v ≡ true → Pick t p l
  unfolding begun rank_at
  begin v e h q a =
      pick t p l (at-0 t p l v e) (rank-0 t p l e) h a
      (by-eq v 1 (λ z. rw z (omega arith)) (λ z. let y : v ≡ 2 = omega arith in rw y (omega arith)))

  define : l.stage ≡ 0 → p.part ≤ 1 → p.gap < 65535 → Pick t p l
  unfolding line_ok
  define e h k = begin 1 e (omega arith) (λ z. omega arith) (and_both (leb p.part 1) _ (le-leb p.part 1 h) (lt-ltb p.gap 65535 k))

  pub between-pick : l.stage ≡ 0 → Between t p → done (record { tables = t; place = p; line = l }) ≡ false → Pick t p l
  unfolding line_ok
  between-pick e b d =
      let o = b.kept in
      by-eq p.count 0
      (λ z. define e (let y = b.fresh-part z in omega arith) (b.fresh-gap z))
      (λ z.
      by-eq p.owed 65535
      (λ y.
      by-eq p.due 65535
      (λ x. clash (sym d ∙ (rw (e, le-leb 1 p.count (omega arith), y, x))))
      (λ x.
      let h = o.due-high in
      begin 2 e (omega arith) (λ z. omega arith)
      (and_both (eqb p.owed 65535) _ (eq-eqb p.owed 65535 y) (lt-ltb p.due 65535 (omega arith)))))
      (λ y.
      let h = o.owed-high in
      let k = o.owed-over (omega arith) in
      let c = b.part-high in
      let a : p.part ≡ 2 → ⊥ = λ x. y (b.asserting x) in
      define e (omega arith) (omega arith)))

  module _ (o : Kept t p) (d : Declaring t p) where
    pub number-pick : l.stage ≡ 1 → p.top < 65535 → Pick t p l
    unfolding rank_at
    number-pick e h =
        pick t p l (at_1 t p l p.top e) (rank-1 t p l e) h
        (and_both (leb p.top p.top) _ (le-leb p.top p.top (omega arith)) (lt-ltb p.top 65535 h))
        (omega arith)

    pub kind-pick : l.stage ≡ 2 → Pick t p l
    unfolding kind_ok rank_at
    kind-pick e =
        pick t p l (at-2 t p l 4 e) (rank-2 t p l e) (omega arith) refl (omega arith)

    operand : (v : ℕ) → l.stage ≡ 3 → v < 65535 → number_ok t p l v ≡ true → Pick t p l
    unfolding rank_at
    operand v e h a =
        pick t p l (at-3 t p l v e) (rank-3 t p l e) h a (omega arith)

    pub operand-pick : l.stage ≡ 3 → Numbered p l → ((l.kind ≡ 4) ⊎ (l.kind ≡ 5)) ⊎ ToRead t p l → Pick t p l
    unfolding number_ok
    operand-pick e n k =
        ⊎_elim
        (λ q. ⊎_elim (λ z. operand 0 e (omega arith) (rw z)) (λ z. operand 0 e (omega arith) (rw z)) q)
        (λ r.
        let high = n.high in
        ⊎_elim
        (λ h.
        operand p.next e (omega arith)
        (rw r.is
        (and_both (ltb p.next l.node && eqb (get_or t.kinds p.next 0) 0) (read_ok t p l p.next)
        (and_both (ltb p.next l.node) _ (lt-ltb p.next l.node h) (eq-eqb (get_or t.kinds p.next 0) 0 d.next-free))
        (or_left (ltb p.gap p.next) _ (lt-ltb p.gap p.next d.next-over)))))
        (λ m.
        let h = r.over in
        operand p.gap e (omega arith)
        (rw r.is
        (and_both (ltb p.gap l.node && eqb (get_or t.kinds p.gap 0) 0) (read_ok t p l p.gap)
        (and_both (ltb p.gap l.node) _ (lt-ltb p.gap l.node h) (eq-eqb (get_or t.kinds p.gap 0) 0 (o.gap-free (omega arith))))
        (or_right (ltb p.gap p.gap) _ (some-source t.lowest 3904 p.gap m)))))
        r.some)
        k

    pub numeral-pick : l.stage ≡ 4 → ((l.left ≡ 0) × (l.a ≡ 0)) ⊎ (l.left ≡ 1) → Pick t p l
    unfolding digit_ok numeral rank_at
    numeral-pick e k =
        ⊎_elim
        (λ z.
        let y = z.0 in
        pick t p l (at-4 t p l 0 e) (rank-4 t p l e) (omega arith) (rw (z.0, z.1)) (omega arith))
        (λ z.
        pick t p l (at-4 t p l 10 e) (rank-4 t p l e) (omega arith) (rw z) (omega arith))
        k

    width : (v : ℕ) → l.stage ≡ 5 → v < 81 → width_ok t p l v ≡ true → Pick t p l
    width v e h a =
        pick t p l (at_5 t p l v e) (rank-5 t p l e) h a (let x = declared-rank t p l v in omega arith)

    pub width-pick : l.stage ≡ 5 → ((1 ≤ l.kind) × (l.kind ≤ 5)) ⊎ Reading t p l → Pick t p l
    unfolding width_ok
    width-pick e k =
        let f = get_or t.sorts l.a 0 in
        ⊎_elim
        (λ q.
        let h = q.0 in
        let h' = q.1 in
        by-eq l.kind 5
        (λ z. width 1 e (omega arith) (rw z))
        (λ z.
        width 16 e (omega arith)
        (by-eq l.kind 1 (λ y. rw y)
        (λ y. by-eq l.kind 2 (λ x. rw x) (λ x. by-eq l.kind 3 (λ u. rw u) (λ u. let s : l.kind ≡ 4 = omega arith in rw s))))))
        (λ r.
        by-eq f 0
        (λ z.
        width 79 e (omega arith)
        (rw (r.is, z)
        (⊎_elim
        (λ h. or_left (ltb p.gap l.a) _ (lt-ltb p.gap l.a h))
        (λ m. or_right (ltb p.gap l.a) _ (some-source t.lowest 3904 l.a m))
        r.can)))
        (λ z.
        by-float f (o.float l.a r.free z)
        (λ y. width 32 e (omega arith) (rw (r.is, y)))
        (λ y. width 64 e (omega arith) (rw (r.is, y)))
        (λ y. width 79 e (omega arith) (rw (r.is, y)))))
        k

  pub defines-pick : l.stage ≡ 6 → Kept t p → p.gap < 65535 → Pick t p l
  unfolding defined_ok rank_at room ahead
  defines-pick e o h =
      let g = gap-found t (p.gap + 1) (omega arith) in
      let low = g.low in
      let high = o.owed-high in
      let free : get_or t.kinds p.gap 0 ≡ 0 = o.gap-free h in
      let before : p.gap < p.owed → (ltb p.gap p.owed || (eqb p.gap p.owed && source t.lowest (get_or t.sorts p.gap 0) p.gap)) ≡ true =
      λ n. or_left (ltb p.gap p.owed) _ (lt-ltb p.gap p.owed n) in
      pick t p l (at-6 t p l p.gap e) (rank-6 t p l e) h
      (and_both ((leb p.gap p.gap && ltb p.gap 65535) && eqb (get_or t.kinds p.gap 0) 0) _
      (and_both (leb p.gap p.gap && ltb p.gap 65535) _
      (and_both (leb p.gap p.gap) _ (le-leb p.gap p.gap (omega arith)) (lt-ltb p.gap 65535 h))
      (eq-eqb (get_or t.kinds p.gap 0) 0 free))
      (by-eq p.owed 65535
      (λ z. before (omega arith))
      (λ z.
      ⊎_elim before
      (λ m.
      by-eq p.gap p.owed
      (λ y.
      or_right (ltb p.gap p.owed) _
      (and_both (eqb p.gap p.owed) _ (eq-eqb p.gap p.owed y)
      (rw y (some-source t.lowest (get_or t.sorts p.owed 0) p.owed m))))
      (λ y. let k = o.owed-over (omega arith) in before (omega arith)))
      (o.owed-can (omega arith)))))
      (omega arith)

  pub asserts-pick : l.stage ≡ 15 → Kept t p → p.due < 65535 → Pick t p l
  unfolding asserted rank_at room
  asserts-pick e o h =
      let f = due-found t p.top (p.due + 1) o.top-high (omega arith) in
      let low = f.0 in
      pick t p l (at-15 t p l 0 e) (rank-15 t p l e) (omega arith) refl (omega arith)
