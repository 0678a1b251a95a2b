-- .. and in a definition.
use Rattle.std.specs.Prelude.{◌≡◌, refl, Bool, cond, not, ◌&&◌, ◌||◌, ℕ, ◌+◌, ◌-◌, ◌≤◌, ◌<◌, leb}
use Rattle.std.proofs.Math.Bool.{true, false}
use Rattle.std.proofs.Math.Logic.{⊎_elim}
use native.Mathlib.Omega.{arith}
use borrow.Author.Tests.{eq-eqb, ne_eqb, ltb-true, lt-ltb, le-ltb, le-leb}
use Rattle.std.proofs.Math.Dec.{ltb, eqb}
use Rattle.std.proofs.Math.ListN.{get_or}
use Rattle.sorts.specs.Sorts.{is_bits, is_float, pattern_width}
use Rattle.smtgrammar.specs.State.{Tables}
use Rattle.smtgrammar.specs.Present.{below, some_from, source}
use Rattle.smtgrammar.specs.Allowed.{sort_ok, chance_ok, opening_ok, sort_taken, word_ok, first_ok, place_ok}
use Rattle.smtgrammar.specs.Next.{opened}
use Rattle.smtgrammar.specs.declared.Place.{Place}
use Rattle.smtgrammar.specs.declared.Line.{Line}
use Rattle.smtlive.specs.Tests.{either, or_left, or_right, and_both, and_left, and_right, by-test, by-eq}
use Rattle.smtlive.specs.Sources.{Wide, by-float, float-high, suits-pattern, some-source, some-from, from_some}
use Rattle.smtlive.specs.Live.{Kept, Defining, Sorted, Fit, Choosing, equal, convert, round}
use Rattle.smtlive.specs.Operands.{make-fit}
use Rattle.smtlive.specs.At.{at_7, at_8, at_9, at-10, at-11, at-12, at-13, at-14}
use Rattle.smtlive.specs.Rank.{ahead, rank_at, Pick, pick, rank-7, rank-8, rank-9, rank-10, rank-11, rank-12, rank-13, rank-14, third-rank, first-rank, second-rank, word-rank, digit-rank}

-- a format's patterns are bits, and a format is none
pattern-bits : (f : ℕ) → (is_bits (pattern_width f) ≡ true) × (pattern_width f < 81)
pattern-bits f = go (eqb f 2072) (eqb f 2869)
  where
    go : (x y : Bool) → (is_bits (cond x 32 (cond y 64 79)) ≡ true) × (cond x 32 (cond y 64 79) < 81)
    go true y = (refl, omega arith)
    go false true = (refl, omega arith)
    go false false = (refl, omega arith)

float-bits : (s : ℕ) → is_float s ≡ true → is_bits s ≡ false
float-bits s e = by-float s e (λ z. rw z) (λ z. rw z) (λ z. rw z)

module _ (t : Tables) (p : Place) (l : Line) where
  -- bits that suit what is obliged next, or what the node is obliged to
  pub sort-pick : l.stage ≡ 7 → Kept t p → Defining t p l → Pick t p l
  unfolding sort_ok rank_at ahead
  sort-pick e o d =
      let s = get_or t.sorts l.node 0 in
      let f = get_or t.sorts p.owed 0 in
      let x = pattern-bits f in
      let small = x.1 in
      by-eq s 0
      (λ z.
      pick t p l (at_7 t p l (pattern_width f) e) (rank-7 t p l e) (omega arith)
      (rw z
      (and_both (is_bits (pattern_width f) || (is_float (pattern_width f) && source t.lowest (pattern_width f) l.node)) (chance_ok t p l (pattern_width f))
      (or_left (is_bits (pattern_width f)) _ x.0)
      (or_right (eqb p.owed 65535 || source t.lowest f p.owed) _ (or_right (ltb l.after p.owed) _ (suits-pattern f)))))
      (omega arith))
      (λ z.
      pick t p l (at_7 t p l s e) (rank-7 t p l e) (float-high s (o.float l.node d.free z)).1
      (rw (ne_eqb s 0 z) (eq-eqb s s refl))
      (omega arith))

  module _ (w : Sorted t p l) where
    low-node : l.node ≤ 65535
    low-node = let h = w.defining.high in omega arith

    -- a constant, or what a float can be made of
    pub opens-pick : l.stage ≡ 8 → Pick t p l
    unfolding opening_ok opened rank_at ahead
    opens-pick e =
        ⊎_elim
        (λ b.
        let h = w.low in
        pick t p l (at_8 t p l 6 e) (rank-8 t p l e) (omega arith) (rw b) (omega arith))
        (λ f.
        pick t p l (at_8 t p l 25 e) (rank-8 t p l e) (omega arith)
        (rw (float-bits l.sort f.0) (some-source t.lowest l.sort l.node f.1))
        (omega arith))
        w.some

    -- an operand is below the node
    fit_low : (j : ℕ) (x : Fit t p l j) → x.node < 65535
    fit_low j x =
        let i = x.node in
        let a = and_left (ltb i l.node && not (eqb (get_or t.kinds i 0) 0)) _ x.fits in
        let b = ltb-true i l.node (and_left (ltb i l.node) _ a) in
        let c = low-node in
        omega arith

    -- an operand at once
    by-operand : l.stage ≡ 9 → (eqb l.kind 9 || eqb l.kind 25) ≡ true → Fit t p l 0 → Pick t p l
    unfolding first_ok
    by-operand e k x =
        let i = x.node in
        let h = fit_low 0 x in
        let q : ltb i 65536 ≡ true = lt-ltb i 65536 (omega arith) in
        pick t p l (at_9 t p l i e) (rank-9 t p l e) (omega arith)
        (rw q (and_both (eqb l.kind 9 || eqb l.kind 25) _ k x.fits))
        (rw q (let r = first-rank t p l i in omega arith))

    -- the word `#b1`, or RNE
    by_word : (v : ℕ) → l.stage ≡ 9 → v < 2 → word_ok t p l v ≡ true → Pick t p l
    unfolding first_ok
    by_word v e h a =
        let q : ltb (65536 + v) 65536 ≡ false = le-ltb (65536 + v) 65536 (omega arith) in
        let z : 65536 + v - 65536 ≡ v = omega arith in
        pick t p l (at_9 t p l (65536 + v) e) (rank-9 t p l e) (omega arith)
        (rw (q, z) a)
        (rw (q, z) (word-rank t p l v))

    equal-taken : l.kind ≡ 9 → eqb l.sort 1 ≡ true → (s : ℕ) → is_bits s ≡ true → sort_taken t p l 0 s ≡ true
    unfolding sort_taken
    equal-taken k e s b = rw k (and_both (eqb l.sort 1) _ e b)

    equal-fit : l.kind ≡ 9 → (eqb l.sort 1 && some_from t.lowest 1 l.node) ≡ true → Fit t p l 0
    equal-fit k e =
        let x = some-from t.lowest 1 l.node (omega arith) (and_right (eqb l.sort 1) _ e) in
        let m = x.most in
        make-fit t p l w.kept.tabled low-node 0 x.width x.low
        (equal-taken k (and_left (eqb l.sort 1) _ e) x.width
        (and_both (leb 1 x.width) _ (le-leb 1 x.width x.least) (le-leb x.width 80 (omega arith))))

    convert-fit : l.kind ≡ 25 → below t.lowest (pattern_width l.sort) l.node ≡ true → Fit t p l 0
    unfolding sort_taken
    convert-fit k e =
        make-fit t p l w.kept.tabled low-node 0 (pattern_width l.sort) (ltb-true _ l.node e)
        (rw k (eq-eqb (pattern_width l.sort) (pattern_width l.sort) refl))

    pub chooses-pick : l.stage ≡ 9 → Choosing t p l → Pick t p l
    unfolding word_ok
    chooses-pick e (equal k f) =
        either (below t.lowest 1 l.node && below t.lowest l.sort l.node) (eqb l.sort 1 && some_from t.lowest 1 l.node) f
        (λ g. by_word 0 e (omega arith) (rw k g))
        (λ g. by-operand e (rw k) (equal-fit k g))
    chooses-pick e (convert k f) =
        by-test (below t.lowest (pattern_width l.sort) l.node)
        (λ g. by-operand e (rw k) (convert-fit k g))
        (λ g. by_word 1 e (omega arith) (rw k (rw g at f)))
    chooses-pick e (round k k' f) = by_word 1 e (omega arith) (rw (k, k'))

    pub first-pick : l.stage ≡ 10 → Fit t p l 0 → Pick t p l
    first-pick e x =
        let i = x.node in
        let h = fit_low 0 x in
        pick t p l (at-10 t p l i e) (rank-10 t p l e) (omega arith) x.fits (first-rank t p l i)

    pub second-pick : l.stage ≡ 11 → Fit t p l 1 → Pick t p l
    second-pick e x =
        let i = x.node in
        let h = fit_low 1 x in
        pick t p l (at-11 t p l i e) (rank-11 t p l e) (omega arith) x.fits (second-rank t p l i)

    pub third-pick : l.stage ≡ 12 → Fit t p l 2 → Pick t p l
    third-pick e x =
        let i = x.node in
        let h = fit_low 2 x in
        pick t p l (at-12 t p l i e) (rank-12 t p l e) (omega arith) x.fits (third-rank t p l i)

    pub places-pick : l.stage ≡ 13 → 1 ≤ l.sort → Wide t.lowest l.sort 81 l.node → Pick t p l
    unfolding place_ok rank_at ahead
    places-pick e h x =
        let v = x.width - 1 in
        let a = x.least in
        let b = x.most in
        let z : v + 1 ≡ x.width = omega arith in
        pick t p l (at-13 t p l v e) (rank-13 t p l e) (omega arith)
        (rw z
        (and_both (leb l.sort x.width) _ (le-leb l.sort x.width a)
        (and_both (ltb v 80) _ (lt-ltb v 80 (omega arith)) (from_some t.lowest x.width l.node b x.low))))
        (omega arith)

    pub digits-pick : l.stage ≡ 14 → 1 ≤ l.left → Pick t p l
    digits-pick e h =
        pick t p l (at-14 t p l 0 e) (rank-14 t p l e) (omega arith) refl (digit-rank t p l 0 h)
