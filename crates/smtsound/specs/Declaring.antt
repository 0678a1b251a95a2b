-- A choice keeps what is known: where a line begins, and in a declaration.
use Rattle.std.specs.Prelude.{◌≡◌, Bool, ◌&&◌, ◌||◌}
use Rattle.std.proofs.Math.Path.{refl}
use Rattle.std.proofs.Common.{sym, ◌∙◌}
use Rattle.std.proofs.Math.Bool.{true, false, cond, not}
use Prim.Native.Nat.{ℕ, zero, suc, ◌+◌, ◌*◌, ◌^◌, ◌≤◌, ◌<◌, min}
use native.Mathlib.Omega.{arith}
use borrow.Author.Tests.{eqb-true, leb-true, ltb-true, le-leb}
use Rattle.std.proofs.Math.Dec.{leb, ltb, eqb}
use Rattle.words.specs.Tests.{and_l, and_r, or_case}
use Rattle.sorts.specs.Sorts.{is_float, is_stored, sort_row, pattern_width}
use Rattle.needs.specs.Needed.{arity}
use Rattle.smtgrammar.specs.declared.Place.{Place}
use Rattle.smtgrammar.specs.State.{limit, Tables}
use Rattle.smtgrammar.specs.Present.{source}
use Rattle.smtgrammar.specs.Allowed.{ok_at, line_ok, kind_ok, number_ok, read_ok, digit_ok, width_ok, format_of}
use Rattle.smtgrammar.specs.Next.{next_at, begun, numeral, declared, entered, obliged}
use Rattle.smtsound.specs.Tables.{kind_in, sort_in, put, oblige, same?}
use Rattle.smtsound.specs.Nodes.{Sorted, Owed, Nodes, add, owe, widen, turn}
use Rattle.smtsound.specs.Arities.{positive, none, one}
use Rattle.smtsound.specs.Lines.{line, Declares, Late, Numbered, at0, at1, at2, at3, at4, at5, at6, at15, Some, Sound}

-- a declaration ends
ends : (t : Tables) (n k a b w top gap next owed due count : ℕ) → Nodes t 0 top owed → top ≡ n + 1 → n < 65535 → kind_in t n ≡ 0 → sort_in t n ≡ 0 → Sorted t n k a b 0 w
    → Sound (record {
      tables = entered t n k a b 0 w;
      place = record { part = 0; top = top; gap = gap; next = next; owed = owed; due = due; count = count };
      line = line 0 0 0 0 0 0 0 0 0;
    })
ends t n k a b w top gap next owed due count h e l was free r =
    let p = put t n k a b 0 w h.long l in
    record {
      nodes = add t (entered t n k a b 0 w) n k a b 0 w was (λ z. absurd (omega arith)) p 0 top owed 0 owed h l r (λ i _ _ _ f _. f) owing (λ _. (omega arith, refl));
      some = λ _. record { at = n; is = λ z. let y = sym p.here.kind ∙ z in let x = r.kind in omega arith };
      lined = at0;
    }
  where
    owing : (owed ≡ 65535 → ⊥) → Owed (entered t n k a b 0 w) owed
    owing z =
        let q = h.owes z in
        let o = (put t n k a b 0 w h.long l).others owed (λ e. let v = rw e at q.some in omega arith) in
        record { was = o.kind ∙ q.was; some = rw o.sort q.some }

-- the format of a width
record Format (w : ℕ) : Type 0 where
  float : is_float (format_of w) ≡ true
  width : pattern_width (format_of w) ≡ w
  some : 0 < format_of w
  wide : 0 < w

format : (w : ℕ) → ((eqb w 32 || eqb w 64) || eqb w 79) ≡ true → Format w
format w e =
    or_case (eqb w 32 || eqb w 64) (eqb w 79) e
    (λ f. or_case (eqb w 32) (eqb w 64) f
    (λ g. rw (eqb-true w 32 g) (record { float = refl; width = refl; some = omega arith; wide = omega arith }))
    (λ g. rw (eqb-true w 64 g) (record { float = refl; width = refl; some = omega arith; wide = omega arith })))
    (λ g. rw (eqb-true w 79 g) (record { float = refl; width = refl; some = omega arith; wide = omega arith }))

-- the declaration of an FpToIeeeBv obliges its operand
module _ (t : Tables) (p : Place) (h : Nodes t p.part p.top p.owed) (n : ℕ) (d : Declares p n) (fresh : kind_in t n ≡ 0) (unsorted : sort_in t n ≡ 0) where
  patterned : (a : ℕ) → a < n → kind_in t a ≡ 0 → (v : ℕ) → ok_at t p (line 5 n 26 0 a 0 0 0 0) v ≡ true → Sound (next_at t p (line 5 n 26 0 a 0 0 0 0) v)
  unfolding ok_at width_ok next_at declared sort_row arity
  patterned a b c v e =
      let f = format v (and_l ((eqb v 32 || eqb v 64) || eqb v 79) _ e) in
      let o = oblige t a (format_of v) h.long (let z = d.inside in omega arith) in
      let u = obliged true a (format_of v) t in
      let z : (n ≡ a → ⊥) = λ q. omega arith in
      ends u n 26 a 0 v (n + 1) _ _ (min p.owed a) _ _
      (owe t u a (format_of v) 0 p.top p.owed (n + 1) o (turn t p.part p.top p.owed 0 (λ _. d.part) h)
      (free (eqb (sort_in t a) 0) refl (and_r ((eqb v 32 || eqb v 64) || eqb v 79) _ e))
      f.float f.some c (omega arith) (let y = d.inside in omega arith) (let y = d.over in omega arith))
      refl d.inside (o.kind n ∙ fresh) (o.others n z ∙ unsorted)
      (one u n 26 a 0 0 v (let w = f.wide in let y = d.inside in omega arith) refl
      (record { below = b; some = rw o.here f.some })
      (λ x y z g. rw (g ∙ o.here, f.float) f.width))
    where
      free : (x : Bool) → eqb (sort_in t a) 0 ≡ x → cond x (ltb p.gap a || source t.lowest (format_of v) a) (eqb (sort_in t a) (format_of v)) ≡ true
          → 0 < sort_in t a → sort_in t a ≡ format_of v
      free true q g s = absurd (let y = eqb-true (sort_in t a) 0 q in omega arith)
      free false q g s = eqb-true (sort_in t a) (format_of v) g

module _ (t : Tables) (p : Place) (h : Nodes t p.part p.top p.owed) (has : 0 < p.count → Some t) where
  pub begin : (v : ℕ) → v < 3 → ok_at t p (line 0 0 0 0 0 0 0 0 0) v ≡ true → Sound (next_at t p (line 0 0 0 0 0 0 0 0 0) v)
  unfolding ok_at line_ok next_at begun
  begin zero l e =
      let q = eqb-true p.part 0 (and_l (eqb p.part 0) (ltb p.top limit) e) in
      record { nodes = turn t p.part p.top p.owed 0 (λ _. q) h; some = has; lined = at1 refl }
  begin (suc zero) l e = record { nodes = turn t p.part p.top p.owed 1 (λ z. absurd (omega arith)) h; some = has; lined = at6 refl }
  begin (suc (suc zero)) l e = record { nodes = turn t p.part p.top p.owed 2 (λ z. absurd (omega arith)) h; some = has; lined = at15 refl }
  begin (suc (suc (suc v))) l e = absurd (omega arith)

  -- the number of a declared node
  pub number : p.part ≡ 0 → (v : ℕ) → ok_at t p (line 1 0 0 0 0 0 0 0 0) v ≡ true → Sound (next_at t p (line 1 0 0 0 0 0 0 0 0) v)
  unfolding ok_at next_at
  number q v e = record {
    nodes = h;
    some = has;
    lined = at2 (record { part = q; over = leb-true p.top v (and_l (leb p.top v) (ltb v limit) e); inside = ltb-true v limit (and_r (leb p.top v) (ltb v limit) e) });
  }

  digit_at : (n k a m : ℕ) → Declares p n → 1 ≤ k → k ≤ 3 → a < 2 ^ 64 → (m ≡ 0 → a ≡ 0) → Sound (record { tables = t; place = p; line = line 4 n k 0 a 0 0 m 0 })
  digit_at n k a m d lo hi small zeros = record { nodes = h; some = has; lined = at4 d lo hi small zeros }

  -- its kind
  pub kind : (n : ℕ) → Declares p n → (v : ℕ) → ok_at t p (line 2 n 0 0 0 0 0 0 0) v ≡ true → Sound (next_at t p (line 2 n 0 0 0 0 0 0 0) v)
  unfolding ok_at kind_ok next_at
  kind n d v e =
      or_case (leb 1 v && leb v 5) _ e
      (λ f. few v (leb-true 1 v (and_l (leb 1 v) (leb v 5) f)) (leb-true v 5 (and_r (leb 1 v) (leb v 5) f)))
      (λ f. rw (eqb-true v 26 (and_l (eqb v 26) _ f)) (record { nodes = h; some = has; lined = at3 d Late.reads }))
    where
      few : (v : ℕ) → 1 ≤ v → v ≤ 5 → Sound (record { tables = t; place = p; line = line (cond (leb v 3) 4 3) n v 0 0 0 0 0 0 })
      few zero a b = absurd (omega arith)
      few (suc zero) a b = digit_at n 1 0 0 d (omega arith) (omega arith) (omega arith) (λ _. refl)
      few (suc (suc zero)) a b = digit_at n 2 0 0 d (omega arith) (omega arith) (omega arith) (λ _. refl)
      few (suc (suc (suc zero))) a b = digit_at n 3 0 0 d (omega arith) (omega arith) (omega arith) (λ _. refl)
      few (suc (suc (suc (suc zero)))) a b = record { nodes = h; some = has; lined = at3 d Late.fsw }
      few (suc (suc (suc (suc (suc zero))))) a b = record { nodes = h; some = has; lined = at3 d Late.flag }
      few (suc (suc (suc (suc (suc (suc v)))))) a b = absurd (omega arith)

  -- its number, of few
  pub late : (n k : ℕ) → Declares p n → Late k → (v : ℕ) → ok_at t p (line 3 n k 0 0 0 0 0 0) v ≡ true → Sound (next_at t p (line 3 n k 0 0 0 0 0 0) v)
  unfolding ok_at number_ok next_at
  late n k d Late.fsw v e = rw (eqb-true v 0 e) (record { nodes = h; some = has; lined = at5 d Numbered.fsw })
  late n k d Late.flag v e = record { nodes = h; some = has; lined = at5 d (Numbered.flag (leb-true v 2 e)) }
  late n k d Late.reads v e =
      let f = and_l (ltb v n && eqb (kind_in t v) 0) (read_ok t p (line 3 n 26 0 0 0 0 0 0) v) e in
      record {
        nodes = h;
        some = has;
        lined = at5 d (Numbered.reads (ltb-true v n (and_l (ltb v n) (eqb (kind_in t v) 0) f)) (eqb-true (kind_in t v) 0 (and_r (ltb v n) (eqb (kind_in t v) 0) f)));
      }

  -- a digit of it
  pub digits : (n k a m : ℕ) → Declares p n → 1 ≤ k → k ≤ 3 → a < 2 ^ 64 → (m ≡ 0 → a ≡ 0) → (v : ℕ)
      → ok_at t p (line 4 n k 0 a 0 0 m 0) v ≡ true → Sound (next_at t p (line 4 n k 0 a 0 0 m 0) v)
  unfolding ok_at digit_ok next_at numeral
  digits n k a m d lo hi small zeros v e = go (eqb v 10) refl e
    where
      go : (x : Bool) → eqb v 10 ≡ x → cond x (eqb m 1) ((eqb m 0 || not (eqb a 0)) && ltb (10 * a + v) (2 ^ 64)) ≡ true
          → Sound (cond x (record { tables = t; place = p; line = line 5 n k 0 a 0 0 0 0 }) (record { tables = t; place = p; line = line 4 n k 0 (10 * a + v) 0 0 1 0 }))
      go true q f = record { nodes = h; some = has; lined = at5 d (Numbered.named lo hi small) }
      go false q f = digit_at n k (10 * a + v) 1 d lo hi (ltb-true (10 * a + v) (2 ^ 64) (and_r (eqb m 0 || not (eqb a 0)) _ f)) (λ z. absurd (omega arith))

  -- a declared number was not there, and had no sort
  module _ (n : ℕ) (d : Declares p n) where
    pub fresh : kind_in t n ≡ 0
    fresh = same? (kind_in t n) 0 (λ e. e) (λ e. absurd (let z = h.early d.part n e in let y = d.over in omega arith))

    unsorted : sort_in t n ≡ 0
    unsorted = same? (sort_in t n) 0 (λ e. e) (λ e. absurd (let z = (h.waits n fresh (omega arith)).below in let y = d.over in omega arith))

    opened : Nodes t 0 (n + 1) p.owed
    opened = widen t 0 p.top p.owed (n + 1) (let y = d.over in omega arith) (turn t p.part p.top p.owed 0 (λ _. d.part) h)

    -- a width ends it
    pub width : (k a : ℕ) → Numbered t n k a → (v : ℕ) → v < 81 → ok_at t p (line 5 n k 0 a 0 0 0 0) v ≡ true → Sound (next_at t p (line 5 n k 0 a 0 0 0 0) v)
    unfolding ok_at width_ok next_at declared obliged sort_row arity
    width zero a (Numbered.named lo hi small) v l e = absurd (omega arith)
    width (suc zero) a (Numbered.named lo hi small) v l e =
        ends t n 1 a v v (n + 1) _ _ p.owed _ _ opened refl d.inside fresh unsorted
        (none t n 1 a v 0 v (let w = positive (λ w. eqb w 79 || eqb w 16) v refl e in omega arith) refl (λ x y z. rw e))
    width (suc (suc zero)) a (Numbered.named lo hi small) v l e =
        ends t n 2 a v v (n + 1) _ _ p.owed _ _ opened refl d.inside fresh unsorted
        (none t n 2 a v 0 v (let w = positive is_stored v refl e in omega arith) refl (λ x y z. rw e))
    width (suc (suc (suc zero))) a (Numbered.named lo hi small) v l e =
        ends t n 3 a v v (n + 1) _ _ p.owed _ _ opened refl d.inside fresh unsorted
        (none t n 3 a v 0 v (let w = positive is_stored v refl e in omega arith) refl (λ x y z. rw e))
    width (suc (suc (suc (suc k)))) a (Numbered.named lo hi small) v l e = absurd (omega arith)
    width k a Numbered.fsw v l e =
        rw (eqb-true v 16 e)
        (ends t n 4 0 0 16 (n + 1) _ _ p.owed _ _ opened refl d.inside fresh unsorted
        (none t n 4 0 0 0 16 (omega arith) refl (λ x y z. refl)))
    width k a (Numbered.flag b) v l e =
        rw (eqb-true v 1 e)
        (ends t n 5 a 0 1 (n + 1) _ _ p.owed _ _ opened refl d.inside fresh unsorted
        (none t n 5 a 0 0 1 (omega arith) refl (λ x y z. rw (le-leb a 2 b))))
    width k a (Numbered.reads b c) v l e = patterned t p h n d fresh unsorted a b c v e
