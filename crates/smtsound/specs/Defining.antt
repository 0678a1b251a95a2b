-- A choice keeps what is known: number and sort of a definition, its end, and an assertion.
use Rattle.std.specs.Prelude.{◌≡◌, Bool, not, ◌&&◌, ◌||◌, leb, get_or}
use Rattle.std.proofs.Math.Path.{refl, sym}
use Rattle.std.proofs.Common.{◌∙◌}
use Rattle.std.proofs.Math.Bool.{true, false, cond}
use Prim.Native.Nat.{ℕ, zero, suc, ◌+◌, ◌-◌, ◌≤◌, ◌<◌}
use native.Mathlib.Omega.{arith}
use borrow.Author.Tests.{eqb-true, eqb-false, not-true, leb-true, ltb-true, eq-eqb, ne_eqb}
use Rattle.std.proofs.Math.Dec.{ltb, eqb}
use Rattle.words.specs.Tests.{and_l, and_r, and_i, or_l, or_r, or_case}
use Rattle.sorts.specs.Sorts.{is_bits, is_float}
use Rattle.viable.specs.Grammar.{clash}
use Rattle.smtgrammar.specs.declared.Place.{Place}
use Rattle.smtgrammar.specs.State.{limit, Tables}
use Rattle.smtgrammar.specs.Present.{source}
use Rattle.smtgrammar.specs.Allowed.{ok_at, defined_ok, sort_ok, chance_ok}
use Rattle.smtgrammar.specs.Next.{seek, gap_from, owed_from, next_at, defined, entered, asserted}
use Rattle.smtsound.specs.Tables.{kind_in, sort_in, put, same?}
use Rattle.smtsound.specs.Nodes.{Sorted, Owed, Nodes, add, turn}
use Rattle.smtsound.specs.Lines.{line, Defines, Suits, at0, at7, at8, Some, Sound}

-- the first number that passes is not before the first of all, and not behind one that passes
seek-from : (ok : ℕ → Bool) (i k none : ℕ) → i + k ≤ none → i ≤ seek ok i k none
unfolding seek
seek-from ok i zero none h = omega arith
seek-from ok i (suc k) none h = go (ok i) (seek-from ok (i + 1) k none (omega arith))
  where
    go : (x : Bool) → i + 1 ≤ seek ok (i + 1) k none → i ≤ cond x i (seek ok (i + 1) k none)
    go true f = omega arith
    go false f = omega arith

seek_finds : (ok : ℕ → Bool) (i k none j : ℕ) → i ≤ j → j < i + k → ok j ≡ true → seek ok i k none ≤ j
unfolding seek
seek_finds ok i zero none j l h e = absurd (omega arith)
seek_finds ok i (suc k) none j l h e = go (ok i) refl (seek_finds ok (i + 1) k none j)
  where
    go : (x : Bool) → ok i ≡ x → (i + 1 ≤ j → j < i + 1 + k → ok j ≡ true → seek ok (i + 1) k none ≤ j) → cond x i (seek ok (i + 1) k none) ≤ j
    go true q f = l
    go false q f = same? i j (λ d. clash (sym q ∙ rw d e)) (λ d. f (omega arith) (omega arith) e)

-- .. and passes itself
seek_is : (ok : ℕ → Bool) (i k none : ℕ) → (seek ok i k none ≡ none → ⊥) → ok (seek ok i k none) ≡ true
unfolding seek
seek_is ok i zero none h = absurd (h refl)
seek_is ok i (suc k) none h = go (ok i) refl (seek_is ok (i + 1) k none) h
  where
    go : (x : Bool) → ok i ≡ x → ((seek ok (i + 1) k none ≡ none → ⊥) → ok (seek ok (i + 1) k none) ≡ true)
        → (cond x i (seek ok (i + 1) k none) ≡ none → ⊥) → ok (cond x i (seek ok (i + 1) k none)) ≡ true
    go true e f h = e
    go false e f h = f h

module _ (t : Tables) (p : Place) (h : Nodes t p.part p.top p.owed) (has : 0 < p.count → Some t) where
  -- the number of a defined node
  pub number : p.part ≡ 1 → (v : ℕ) → ok_at t p (line 6 0 0 0 0 0 0 0 0) v ≡ true → Sound (next_at t p (line 6 0 0 0 0 0 0 0 0) v)
  unfolding ok_at defined_ok next_at gap_from
  number q v e =
      let f = and_l ((leb p.gap v && ltb v limit) && eqb (kind_in t v) 0) _ e in
      let g = and_l (leb p.gap v && ltb v limit) (eqb (kind_in t v) 0) f in
      let l = ltb-true v limit (and_r (leb p.gap v) (ltb v limit) g) in
      record {
        nodes = h;
        some = has;
        lined = at7 {q = gap_from t (v + 1)} (record {
          part = q;
          was = eqb-true (kind_in t v) 0 (and_r (leb p.gap v && ltb v limit) (eqb (kind_in t v) 0) f);
          over = leb-true p.gap v (and_l (leb p.gap v) (ltb v limit) g);
          inside = l;
          after = let z = seek-from (λ j. eqb (kind_in t j) 0) (v + 1) (limit - (v + 1)) limit (omega arith) in omega arith;
        });
      }

  -- its sort
  pub sort : (n q : ℕ) → Defines t p n q → (v : ℕ) → ok_at t p (line 7 n 0 0 0 0 0 0 q) v ≡ true → Sound (next_at t p (line 7 n 0 0 0 0 0 0 q) v)
  unfolding ok_at sort_ok next_at
  sort n q d v e = record { nodes = h; some = has; lined = at8 d (go (eqb (sort_in t n) 0) refl e) }
    where
      go : (x : Bool) → eqb (sort_in t n) 0 ≡ x
          → cond x ((is_bits v || (is_float v && source t.lowest v n)) && chance_ok t p (line 7 n 0 0 0 0 0 0 q) v) (eqb v (sort_in t n)) ≡ true
          → Suits t n v
      go true z f = record {
        is =
            or_case (is_bits v) (is_float v && source t.lowest v n) (and_l (is_bits v || (is_float v && source t.lowest v n)) _ f)
            (or_l (is_bits v) (is_float v))
            (λ g. or_r (is_bits v) (is_float v) (and_l (is_float v) (source t.lowest v n) g));
        free = λ s. absurd (let y = eqb-true (sort_in t n) 0 z in omega arith);
      }
      go false z f =
          let y = eqb-true v (sort_in t n) f in
          let s = eqb-false (sort_in t n) 0 z in
          record {
            is = or_r (is_bits v) (is_float v) (rw y (h.waits n d.was (some_of (sort_in t n) s)).float);
            free = λ _. sym y;
          }
        where
          some_of : (s : ℕ) → (s ≡ 0 → ⊥) → 0 < s
          some_of zero z = absurd (z refl)
          some_of (suc s) z = omega arith

  -- a definition ends
  pub finish : (stage n k₀ s a₀ b₀ r₀ m q k a b c : ℕ) → Defines t p n q → Suits t n s → Sorted t n k a b c s
      → Sound (defined t p (line stage n k₀ s a₀ b₀ r₀ m q) k a b c)
  unfolding defined owed_from
  finish stage n k₀ s a₀ b₀ r₀ m q k a b c d f r =
      let w = put t n k a b c s h.long d.inside in
      record {
        nodes =
            add t (entered t n k a b c s) n k a b c s d.was f.free w p.part p.top p.owed 1 _ h d.inside r
            (later (eqb n p.owed) refl)
            (owing (eqb n p.owed) refl)
            (λ z. absurd (omega arith));
        some = λ _. record { at = n; is = λ z. let y = sym w.here.kind ∙ z in let x = r.kind in omega arith };
        lined = at0;
      }
    where
      later : (x : Bool) → eqb n p.owed ≡ x → (i : ℕ) → kind_in (entered t n k a b c s) i ≡ 0 → 0 < sort_in (entered t n k a b c s) i → (i ≡ n → ⊥)
          → p.owed ≤ i → i < p.top → cond x (owed_from (entered t n k a b c s) p.top (n + 1)) p.owed ≤ i
      later true x i e v z l g =
          let y = eqb-true n p.owed x in
          seek_finds _ (n + 1) (p.top - (n + 1)) limit i (omega arith) (omega arith)
          (and_i _ _ (eq-eqb _ 0 e) (rw (ne_eqb (sort_in (entered t n k a b c s) i) 0 (λ q. omega arith))))
      later false x i e v z l g = l

      owing : (x : Bool) → eqb n p.owed ≡ x → (cond x (owed_from (entered t n k a b c s) p.top (n + 1)) p.owed ≡ 65535 → ⊥)
          → Owed (entered t n k a b c s) (cond x (owed_from (entered t n k a b c s) p.top (n + 1)) p.owed)
      owing true x z =
          let u = entered t n k a b c s in
          let i = seek (λ j. eqb (get_or u.kinds j 0) 0 && not (eqb (get_or u.sorts j 0) 0)) (n + 1) (p.top - (n + 1)) limit in
          let w = seek_is (λ j. eqb (get_or u.kinds j 0) 0 && not (eqb (get_or u.sorts j 0) 0)) (n + 1) (p.top - (n + 1)) limit z in
          let y = eqb-false (sort_in u i) 0 (not-true (eqb (sort_in u i) 0) (and_r (eqb (kind_in u i) 0) (not (eqb (sort_in u i) 0)) w)) in
          record { was = eqb-true (kind_in u i) 0 (and_l (eqb (kind_in u i) 0) (not (eqb (sort_in u i) 0)) w); some = omega arith }
      owing false x z =
          let w = h.owes z in
          let o = (put t n k a b c s h.long d.inside).others p.owed (λ e. eqb-false n p.owed x (sym e)) in
          record { was = o.kind ∙ w.was; some = rw o.sort w.some }

  -- an assertion ends
  pub assert : p.part ≡ 2 → (v : ℕ) → Sound (next_at t p (line 15 0 0 0 0 0 0 0 0) v)
  unfolding next_at asserted
  assert q v = record { nodes = turn t p.part p.top p.owed 2 (λ z. absurd (omega arith)) h; some = has; lined = at0 }
