-- The end of a definition leaves a state that is live.
use Rattle.std.specs.Prelude.{◌≡◌, Bool, cond, ◌||◌, ◌⊎◌, ℕ, ◌+◌, ◌≤◌, ◌<◌, ltb}
use Rattle.std.proofs.Math.Path.{refl}
use Rattle.std.proofs.Common.{sym, ◌∙◌}
use Rattle.std.proofs.Math.Bool.{true, false}
use Rattle.std.proofs.Math.Logic.{inl, inr, ⊎_elim}
use native.Mathlib.Omega.{arith}
use borrow.Author.Tests.{eqb-true, eqb-false, ltb-true}
use Rattle.std.proofs.Math.Dec.{eqb}
use Rattle.std.proofs.Math.ListN.{get_or}
use Rattle.smtgrammar.specs.State.{Tables}
use Rattle.smtgrammar.specs.Present.{source, suits}
use Rattle.smtgrammar.specs.Next.{entered, owed_from, defined}
use Rattle.smtgrammar.specs.declared.Place.{Place}
use Rattle.smtgrammar.specs.declared.Line.{Line}
use Rattle.smtlive.specs.Tests.{either}
use Rattle.smtlive.specs.Seek.{owed-found}
use Rattle.smtlive.specs.Sources.{Lower, source-some, suits-float, still}
use Rattle.smtlive.specs.Live.{Kept, Sorted, between, Live}
use Rattle.smtlive.specs.Entered.{kept-kind, other-kind, other-sort, lowest-down, lowest-own, entered-tabled}

module _ (t : Tables) (p : Place) (l : Line) (w : Sorted t p l) (k a b c : ℕ) (some : k ≡ 0 → ⊥) where
  new : Tables
  new = entered t l.node k a b c l.sort

  leaves : ℕ → Place
  leaves owed = record { part = 1; top = p.top; gap = l.after; next = p.next; owed = owed; due = p.due; count = p.count + 1 }

  -- a number that is not there now was not there before, with the sort that it has
  before-it : (m : ℕ) → get_or new.kinds m 0 ≡ 0 → (m ≡ l.node → ⊥) × (get_or t.kinds m 0 ≡ 0) × (get_or new.sorts m 0 ≡ get_or t.sorts m 0)
  unfolding new
  before-it m e =
      let d = w.defining in
      let z = kept-kind t w.kept.tabled l.node k a b c l.sort d.high d.free some w.low m e in
      (z.0, z.1, other-sort t w.kept.tabled l.node k a b c l.sort d.high d.free some w.low m z.0)

  -- what does not depend on the number that is obliged next
  with-owed : (owed : ℕ)
      → ((m : ℕ) → get_or new.kinds m 0 ≡ 0 → (get_or new.sorts m 0 ≡ 0 → ⊥) → owed ≤ m)
      → owed ≤ 65535
      → (owed < 65535 → get_or new.kinds owed 0 ≡ 0)
      → (owed < 65535 → get_or new.sorts owed 0 ≡ 0 → ⊥)
      → (owed < 65535 → l.node < owed)
      → (owed < 65535 → (l.after < owed) ⊎ Lower new.lowest (suits (get_or new.sorts owed 0)) owed)
      → Kept new (leaves owed)
  unfolding new leaves
  with-owed owed least high free sorted over can =
      let d = w.defining in
      let o = w.kept in
      record {
        tabled = entered-tabled t o.tabled l.node k a b c l.sort d.high d.free some w.low;
        least = least;
        before = λ m e q. let z = before-it m e in o.before m z.1 (λ y. q (z.2 ∙ y));
        float = λ m e q. let z = before-it m e in rw z.2 (o.float m z.1 (λ y. q (z.2 ∙ y)));
        gap-high = d.after-high;
        gap-free = λ h.
            other-kind t o.tabled l.node k a b c l.sort d.high d.free some w.low l.after (λ z. let y = d.after-over in omega arith)
            ∙ d.after_free h;
        owed-high = high;
        owed-free = free;
        owed-sorted = sorted;
        owed-over = λ h. d.after-least owed (over h) (before-it owed (free h)).1;
        owed-can = can;
        due-high = o.due-high;
        top-high = o.top-high;
      }

  -- the node was the one that was obliged: the next one can be made of it
  was-owed : l.node ≡ p.owed → Kept new (leaves (owed_from new p.top (l.node + 1)))
  unfolding new
  was-owed e =
      let d = w.defining in
      let o = owed-found new p.top (l.node + 1) w.kept.top-high in
      with-owed (owed_from new p.top (l.node + 1))
      (λ m z q.
      let y = before-it m z in
      let s : get_or t.sorts m 0 ≡ 0 → ⊥ = λ x. q (y.2 ∙ x) in
      let n : m ≡ l.node → ⊥ = y.0 in
      let i = w.kept.least m y.1 s in
      o.least m (omega arith) (w.kept.before m y.1 s) z q)
      o.high o.free o.sorted
      (λ h. let i = o.low h in omega arith)
      (λ h.
      inr (record {
        sort = l.sort;
        passes = suits-float (get_or new.sorts (owed_from new p.top (l.node + 1)) 0) l.sort (w.obliged e);
        low =
            let i = o.low h in
            let j = lowest-own t w.kept.tabled l.node k a b c l.sort d.high d.free some w.low in
            omega arith;
      }))

  -- the node was another one: it is made, or there is room before, or the node suits
  not-owed : l.node < p.owed → Kept new (leaves p.owed)
  unfolding new
  not-owed n =
      let d = w.defining in
      let o = w.kept in
      let q : p.owed ≡ l.node → ⊥ = λ z. omega arith in
      let same = other-sort t o.tabled l.node k a b c l.sort d.high d.free some w.low p.owed q in
      let down = lowest-down t o.tabled l.node k a b c l.sort d.high d.free some w.low in
      let mine = lowest-own t o.tabled l.node k a b c l.sort d.high d.free some w.low in
      let f = get_or t.sorts p.owed 0 in
      with-owed p.owed
      (λ m z s. let y = before-it m z in o.least m y.1 (λ x. s (y.2 ∙ x)))
      o.owed-high
      (λ h. other-kind t o.tabled l.node k a b c l.sort d.high d.free some w.low p.owed q ∙ o.owed-free h)
      (λ h z. o.owed-sorted h (sym same ∙ z))
      (λ h. n)
      (λ h. rw same
      (either (eqb p.owed 65535 || source t.lowest f p.owed) (ltb l.after p.owed || suits f l.sort) (w.chance n)
      (λ e.
      either (eqb p.owed 65535) (source t.lowest f p.owed) e
      (λ e. absurd (let z = eqb-true p.owed 65535 e in omega arith))
      (λ e. inr (still t.lowest new.lowest (suits f) p.owed p.owed down (omega arith) (source-some t.lowest f p.owed e))))
      (λ e.
      either (ltb l.after p.owed) (suits f l.sort) e
      (λ e. inl (ltb-true l.after p.owed e))
      (λ e. inr (record { sort = l.sort; passes = e; low = omega arith })))))

  pub defined-live : Live (defined t p l k a b c)
  unfolding defined new leaves
  defined-live = between refl (record {
    kept = go (eqb l.node p.owed) refl;
    part-high = omega arith;
    declaring = λ e. absurd (omega arith);
    asserting = λ e. absurd (omega arith);
    fresh-part = λ e. absurd (omega arith);
    fresh-gap = λ e. absurd (omega arith);
    fresh-due = λ e. absurd (omega arith);
  })
    where
      go : (y : Bool) → eqb l.node p.owed ≡ y → Kept new (leaves (cond y (owed_from new p.top (l.node + 1)) p.owed))
      go true e = was-owed (eqb-true l.node p.owed e)
      go false e = ⊎_elim (λ n. not-owed n) (λ n. absurd (eqb-false l.node p.owed e n.0)) w.defining.turn
