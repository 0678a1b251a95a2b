-- The sort of a term, what opens it and the words: each allowed choice leaves a state that is live.
use Rattle.std.specs.Prelude.{◌≡◌, Bool, ◌&&◌, ◌||◌, ℕ, ◌-◌, ◌≤◌, ◌<◌, leb, ltb, get_or}
use Rattle.std.proofs.Math.Path.{refl}
use Rattle.std.proofs.Math.Bool.{true, false, cond}
use Rattle.std.proofs.Common.{inl, inr, ⊎_elim, arith}
use borrow.Author.Tests.{eqb-true, eq-eqb, ne_eqb, ltb-true, lt-ltb, leb-true, le-leb}
use Rattle.std.proofs.Math.Dec.{eqb}
use Rattle.viable.specs.Grammar.{clash}
use Rattle.needs.specs.Needed.{arity}
use Rattle.sorts.specs.Sorts.{is_bits, is_float, is_word}
use Rattle.smtgrammar.specs.State.{Tables}
use Rattle.smtgrammar.specs.Present.{below, some_float, some_word, some_from, joins, source}
use Rattle.smtgrammar.specs.Allowed.{sort_ok, chance_ok, opening_ok, sort_taken, operand_ok, word_ok, first_ok}
use Rattle.smtgrammar.specs.Next.{onward, turned, opened, operand₀, word}
use Rattle.smtgrammar.specs.declared.Place.{Place}
use Rattle.smtgrammar.specs.declared.Line.{Line}
use Rattle.smtlive.specs.Closed.{none, ◌▸◌, each}
use Rattle.smtlive.specs.Tests.{either, neither, or_left, or_right, and_both, and_left, and_right, by-eq}
use Rattle.smtlive.specs.Sources.{source-some, some-float, some_word_lem, some-from, some-join, float-high}
use Rattle.smtlive.specs.Live.{Kept, Defining, Sorted, Ready, seconds, Choosing, equal, convert, round, opens, chooses, first, places, digits, Live}
use Rattle.smtlive.specs.Operands.{resorted, make-fit, first_live}

pub sort-live : (t : Tables) (p : Place) (l : Line) → Kept t p → Defining t p l → (v : ℕ) → sort_ok t p l v ≡ true
    → Live (onward t p l (record { stage = 8; node = l.node; kind = 0; sort = v; a = 0; b = 0; r = 0; left = 0; after = l.after }))
unfolding sort_ok
sort-live t p l o d v e =
    let s = get_or t.sorts l.node 0 in
    let d' : Defining t p (record { stage = 8; node = l.node; kind = 0; sort = v; a = 0; b = 0; r = 0; left = 0; after = l.after }) =
    record {
      high = d.high;
      free = d.free;
      over = d.over;
      after-over = d.after-over;
      after-high = d.after-high;
      after_free = d.after_free;
      after-least = d.after-least;
      turn = d.turn;
    } in
    by-eq s 0
    (λ z.
    let f = rw (eq-eqb s 0 z) at e in
    let g = and_left (is_bits v || (is_float v && source t.lowest v l.node)) (chance_ok t p l v) f in
    opens refl (record {
      kept = o;
      defining = d';
      low =
          either (is_bits v) (is_float v && source t.lowest v l.node) g
          (λ e. let k = leb-true v 80 (and_right (leb 1 v) _ e) in omega arith)
          (λ e. (float-high v (and_left (is_float v) _ e)).1);
      some =
          either (is_bits v) (is_float v && source t.lowest v l.node) g
          inl
          (λ e. inr (and_left (is_float v) _ e, source-some t.lowest v l.node (and_right (is_float v) _ e)));
      obliged = λ y. absurd (o.owed-sorted (let h = d.high in omega arith) (rw (← y) z));
      chance = λ h. and_right (is_bits v || (is_float v && source t.lowest v l.node)) (chance_ok t p l v) f;
    }))
    (λ q.
    let z = eqb-true v s (rw (ne_eqb s 0 q) at e) in
    let f : is_float v ≡ true = rw z (o.float l.node d.free q) in
    let h = o.least l.node d.free q in
    opens refl (record {
      kept = o;
      defining = d';
      low = (float-high v f).1;
      some = ⊎_elim (λ n. absurd (omega arith)) (λ n. inr (f, rw z n.1)) d.turn;
      obliged = λ y. f;
      chance = λ n. absurd (omega arith);
    }))

-- a test that only bits pass, or only floats, beside others that fail
is-bits : (b x : Bool) → cond b x false ≡ true → b ≡ true
is-bits true x e = refl
is-bits false x e = clash e

bits₀ : (b x : Bool) → cond b x false ≡ true → x ≡ true
bits₀ true x e = e
bits₀ false x e = clash e

bits₁ : (b x : Bool) → cond b (x || false) false ≡ true → x ≡ true
bits₁ b true e = refl
bits₁ b false e = neither b e

bits₂ : (b x : Bool) → cond b ((x || false) || false) false ≡ true → x ≡ true
bits₂ b true e = refl
bits₂ b false e = neither b e

floats₀ : (b x : Bool) → cond b false x ≡ true → x ≡ true
floats₀ true x e = clash e
floats₀ false x e = e

floats₁ : (b x : Bool) → cond b false (x || false) ≡ true → x ≡ true
floats₁ b true e = refl
floats₁ b false e = neither b e

module _ (t : Tables) (p : Place) (l : Line) (w : Sorted t p l) where
  low-node : l.node ≤ 65535
  low-node = let h = w.defining.high in omega arith

  -- the line at a first operand of kind k
  at : ℕ → ℕ → Line
  at k r = turned t p l 10 k 0 0 r

  -- a first operand of this sort is there
  ready : (k r s : ℕ) → (k ≡ 0 → ⊥) → get_or t.lowest s 65535 < l.node → sort_taken t p (at k r) 0 s ≡ true → seconds t (at k r) ≡ true → Ready t p (at k r)
  unfolding at
  ready k r s q low e f = record { some = q; first = make-fit t p (turned t p l 10 k 0 0 r) w.kept.tabled low-node 0 s low e; second = f }

  -- .. of the node's own sort; of a float; of a float or a whole number; of a bit; of a part of the width
  own : (k r : ℕ) → (k ≡ 0 → ⊥) → below t.lowest l.sort l.node ≡ true
      → ((s : ℕ) → eqb s l.sort ≡ true → sort_taken t p (at k r) 0 s ≡ true) → seconds t (at k r) ≡ true → Ready t p (at k r)
  own k r q e f g = ready k r l.sort q (ltb-true _ l.node e) (f l.sort (eq-eqb l.sort l.sort refl)) g

  floats : (k r : ℕ) → (k ≡ 0 → ⊥) → some_float t.lowest l.node ≡ true
      → ((s : ℕ) → is_float s ≡ true → sort_taken t p (at k r) 0 s ≡ true) → seconds t (at k r) ≡ true → Ready t p (at k r)
  floats k r q e f g = let x = some-float t.lowest l.node e in ready k r x.sort q x.low (f x.sort x.passes) g

  converted : (r : ℕ) → (some_float t.lowest l.node || (eqb l.sort 3904 && some_word t.lowest l.node)) ≡ true → Ready t p (at 28 r)
  unfolding at sort_taken arity
  converted r e =
      either (some_float t.lowest l.node) (eqb l.sort 3904 && some_word t.lowest l.node) e
      (λ e. floats 28 r (λ z. omega arith) e (λ s f. or_left (is_float s) _ f) refl)
      (λ e.
      let x = some_word_lem t.lowest l.node (and_right (eqb l.sort 3904) _ e) in
      ready 28 r x.sort (λ z. omega arith) x.low
      (or_right (is_float x.sort) _ (and_both (eqb l.sort 3904) _ (and_left (eqb l.sort 3904) _ e) x.passes)) refl)

  bit : (k r : ℕ) → (k ≡ 0 → ⊥) → below t.lowest 1 l.node ≡ true → sort_taken t p (at k r) 0 1 ≡ true → seconds t (at k r) ≡ true → Ready t p (at k r)
  bit k r q e f g = ready k r 1 q (ltb-true _ l.node e) f g

  joined : joins t.lowest l.sort l.node ≡ true → 1 ≤ l.sort → l.sort ≤ 80 → Ready t p (at 15 0)
  unfolding at sort_taken arity
  joined e h k =
      let x = some-join t.lowest l.sort l.node h e in
      let a = x.least in
      let b = x.most in
      ready 15 0 x.width (λ z. omega arith) x.low
      (and_both (is_bits x.width) _
      (and_both (leb 1 x.width) _ (le-leb 1 x.width a) (le-leb x.width 80 (omega arith)))
      (and_both (ltb x.width l.sort) _ (lt-ltb x.width l.sort b) (lt-ltb _ l.node x.rest)))
      refl

  stays : (stage k r : ℕ) → Sorted t p (turned t p l stage k 0 0 r)
  stays stage k r = resorted t p l stage k 0 0 r l.left w

  -- how wide bits are
  bits-high : is_bits l.sort ≡ true → (1 ≤ l.sort) × (l.sort ≤ 80)
  bits-high e = (leb-true 1 l.sort (and_left (leb 1 l.sort) _ e), leb-true l.sort 80 (and_right (leb 1 l.sort) _ e))

  -- a first operand comes at once, or behind a rounding
  begins : (k : ℕ) → Ready t p (at k 0) → Live (onward t p l (at k 0))
  unfolding at
  begins k r = first refl (stays 10 k 0) r

  rounds-first : (k : ℕ) → eqb k 9 ≡ false → eqb k 25 ≡ false → ((r : ℕ) → Ready t p (at k r)) → Live (onward t p l (turned t p l 9 k 0 0 0))
  unfolding at
  rounds-first k x y f = chooses refl (stays 9 k 0) (round x y f)

  pub opened-live : (v : ℕ) → v < 28 → opening_ok t p l v ≡ true → Live (opened t p l v)
  unfolding opening_ok opened at sort_taken arity
  opened-live =
      let B = is_bits l.sort in
      let n = l.node in
      let s = l.sort in
      let L = t.lowest in
      each (λ v. opening_ok t p l v ≡ true → Live (opened t p l v)) 28
      (none
      ▸ neither B ▸ neither B ▸ neither B ▸ neither B ▸ neither B ▸ neither B
      ▸ (λ e. digits refl (resorted t p l 14 6 0 0 0 s w) (bits-high (is-bits B true e)).0 w.low)
      ▸ (λ e. let f = bits₂ B (below L s n) e in begins 7 (own 7 0 (λ z. omega arith) f (λ s f. f) f))
      ▸ (λ e. let f = bits₂ B (below L s n) e in begins 8 (own 8 0 (λ z. omega arith) f (λ s f. f) f))
      ▸ (λ e. chooses refl (stays 9 9 0) (equal refl (bits₂ B ((below L 1 n && below L s n) || (eqb s 1 && some_from L 1 n)) e)))
      ▸ (λ e. begins 10 (bit 10 0 (λ z. omega arith) (and_right (eqb s 1) _ (bits₂ B (eqb s 1 && below L 1 n) e)) refl refl))
      ▸ (λ e. begins 11 (bit 11 0 (λ z. omega arith) (and_right (eqb s 1) _ (bits₂ B (eqb s 1 && below L 1 n) e)) refl refl))
      ▸ (λ e. begins 12 (bit 12 0 (λ z. omega arith) (and_right (eqb s 1) _ (bits₂ B (eqb s 1 && below L 1 n) e)) refl refl))
      ▸ neither B
      ▸ (λ e.
      let h = bits-high (is-bits B _ e) in
      let k = h.1 in
      places refl (stays 13 14 0) refl h.0 (some-from L s n (omega arith) (bits₁ B (some_from L s n) e)))
      ▸ (λ e. let h = bits-high (is-bits B _ e) in begins 15 (joined (bits₁ B (joins L s n) e) h.0 h.1))
      ▸ (λ e. let f = floats₁ B (below L s n) e in rounds-first 16 refl refl (λ r. own 16 r (λ z. omega arith) f (λ s f. f) f))
      ▸ (λ e. let f = floats₁ B (below L s n) e in rounds-first 17 refl refl (λ r. own 17 r (λ z. omega arith) f (λ s f. f) f))
      ▸ (λ e. let f = floats₁ B (below L s n) e in rounds-first 18 refl refl (λ r. own 18 r (λ z. omega arith) f (λ s f. f) f))
      ▸ (λ e. let f = floats₁ B (below L s n) e in rounds-first 19 refl refl (λ r. own 19 r (λ z. omega arith) f (λ s f. f) f))
      ▸ (λ e. begins 20 (floats 20 0 (λ z. omega arith) (and_right (eqb s 1) _ (bits₁ B (eqb s 1 && some_float L n) e)) (λ s f. f) refl))
      ▸ (λ e. begins 21 (floats 21 0 (λ z. omega arith) (and_right (eqb s 1) _ (bits₁ B (eqb s 1 && some_float L n) e)) (λ s f. f) refl))
      ▸ (λ e. begins 22 (floats 22 0 (λ z. omega arith) (and_right (eqb s 1) _ (bits₁ B (eqb s 1 && some_float L n) e)) (λ s f. f) refl))
      ▸ (λ e. rounds-first 23 refl refl (λ r. own 23 r (λ z. omega arith) (floats₁ B (below L s n) e) (λ s f. f) refl))
      ▸ (λ e. rounds-first 24 refl refl (λ r. own 24 r (λ z. omega arith) (floats₁ B (below L s n) e) (λ s f. f) refl))
      ▸ (λ e. chooses refl (stays 9 25 0) (convert refl (floats₀ B (source L s n) e)))
      ▸ neither B
      ▸ (λ e. rounds-first 27 refl refl (λ r. floats 27 r (λ z. omega arith) (and_right (is_word s) (some_float L n) (bits₀ B _ e)) (λ s f. f) refl)))

  -- a rounding is 1 or 2
  rounds : (v : ℕ) (x : Bool) → ((eqb v 1 || eqb v 2) && x) ≡ true → v ≡ 0 → ⊥
  rounds v x e z =
      either (eqb v 1) (eqb v 2) (and_left (eqb v 1 || eqb v 2) x e)
      (λ e. let y = eqb-true v 1 e in omega arith)
      (λ e. let y = eqb-true v 2 e in omega arith)

  rounded : (v k : ℕ) → (v ≡ 0 → ⊥) → cond (eqb l.kind 25) 28 l.kind ≡ k → Ready t p (at k (v - 1)) → Live (word t p l v)
  unfolding word at
  rounded v k q e r = rw (ne_eqb v 0 q, e) (first refl (stays 10 k (v - 1)) r)

  -- the words `#b1`, RNE and RTZ
  word_live : Choosing t p l → (v : ℕ) → word_ok t p l v ≡ true → Live (word t p l v)
  unfolding word_ok word at sort_taken arity
  word_live (equal k f) v e =
      let g = rw k at e in
      let z = eqb-true v 0 (and_left (eqb v 0) _ g) in
      let h = and_right (eqb v 0) (below t.lowest 1 l.node && below t.lowest l.sort l.node) g in
      rw z
      (first refl (stays 10 13 0)
      (bit 13 0 (λ z. omega arith) (and_left (below t.lowest 1 l.node) _ h) refl (and_right (below t.lowest 1 l.node) _ h)))
  word_live (convert k f) v e =
      let x = some_float t.lowest l.node || (eqb l.sort 3904 && some_word t.lowest l.node) in
      let g = rw k at e in
      rounded v 28 (rounds v x g) (rw k) (converted (v - 1) (and_right (eqb v 1 || eqb v 2) x g))
  word_live (round k k' f) v e =
      let g = rw (k, k') at e in
      rounded v l.kind (rounds v true g) (rw k') (f (v - 1))

  -- the kinds of which a first operand can follow at once
  operand-live : Choosing t p l → (v : ℕ) → ((eqb l.kind 9 || eqb l.kind 25) && operand_ok t p l 0 v) ≡ true → Live (operand₀ t p l v)
  unfolding arity
  operand-live (equal k f) v e = first_live t p l w (λ z. omega arith) (rw k) v (and_right (eqb l.kind 9 || eqb l.kind 25) _ e)
  operand-live (convert k f) v e = first_live t p l w (λ z. omega arith) (rw k) v (and_right (eqb l.kind 9 || eqb l.kind 25) _ e)
  operand-live (round k k' f) v e = clash (rw (k, k') at e)

  pub chosen_live : Choosing t p l → (v : ℕ) → first_ok t p l v ≡ true → Live (cond (ltb v 65536) (operand₀ t p l v) (word t p l (v - 65536)))
  unfolding first_ok
  chosen_live c v e = go (ltb v 65536) e
    where
      go : (x : Bool) → cond x ((eqb l.kind 9 || eqb l.kind 25) && operand_ok t p l 0 v) (word_ok t p l (v - 65536)) ≡ true
          → Live (cond x (operand₀ t p l v) (word t p l (v - 65536)))
      go true e = operand-live c v e
      go false e = word_live c (v - 65536) e
