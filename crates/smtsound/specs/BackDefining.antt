-- What the end says behind a choice it says before: number, sort, digits and end of a definition.
use Rattle.std.specs.Prelude.{◌≡◌, Bool, cond, ℕ, suc, ◌+◌, ◌-◌, ◌*◌, ◌/◌, ◌%◌, ◌^◌, ◌≤◌, ◌<◌}
use Rattle.std.proofs.Math.Path.{refl}
use Rattle.std.proofs.Math.Bool.{true, false}
use Rattle.std.proofs.Common.{arith}
use borrow.Author.Tests.{eqb-true}
use Rattle.std.proofs.Math.Dec.{eqb}
use Rattle.smttext.specs.Names.{declared_is}
use Rattle.smtgrammar.specs.declared.Place.{Place}
use Rattle.smtgrammar.specs.declared.Line.{Line}
use Rattle.smtgrammar.specs.State.{Tables}
use Rattle.smtgrammar.specs.Next.{next_at, defined, entered, digit}
use Rattle.smtsound.specs.Tables.{Long, put}
use Rattle.smtsound.specs.Tables.{Is}
use Rattle.smtsound.specs.Lines.{line, Defines}
use Rattle.smtsound.specs.Numerals.{binary-less, one_bit}
use Rattle.smtsound.specs.Final.{Final, Held, Holds, New, Line8, Said, Ends, put-here, put-new, put-rows, put-news}
use Rattle.smtsound.specs.BackDeclaring.{Within}

module _ (t : Tables) (p : Place) (F : Final) where
  -- no new node is declared
  abbrev pub Rest : Type 0
  Rest = (i : ℕ) → New t F i → declared_is (F.kind i) ≡ false

  module _ (n q : ℕ) (d : Defines t p n q) where
    pub defining : (l : Line) → ((i : ℕ) → Is t i → Holds t F i) → Rest → ((i : ℕ) → New t F i → n ≤ i) → Said t F l l.stage → Within t p F l
    defining l rows rest low said = record {
      rows = rows;
      tops = λ z. absurd (let y = d.part in omega arith);
      defs = λ _. rest;
      gaps = λ _ i w. let b = low i w in let o = d.over in omega arith;
      shut = λ z. absurd (let y = d.part in omega arith);
      said = said;
    }

    -- what the end of a definition says
    pub record Term (k a b c s : ℕ) : Type 0 where
      pub rows : (i : ℕ) → Is t i → Holds t F i
      pub rest : Rest
      pub line : Line8 t F n s
      pub here : Held F n k a b c s

    pub term : (stage k₀ s a₀ b₀ r₀ m k a b c : ℕ) → Long t → 0 < k → declared_is k ≡ false
        → Ends (defined t p (line stage n k₀ s a₀ b₀ r₀ m q) k a b c) F → Term k a b c s
    unfolding defined
    term stage k₀ s a₀ b₀ r₀ m k a b c h some is e =
        let w = put t n k a b c s h d.inside in
        let u = entered t n k a b c s in
        let here = put-here t u F n k a b c s w d.was some e.rows in
        record {
          rows = put-rows t u F n k a b c s w d.was some e.rows;
          rest = λ i x. put-news t u F n k a b c s w d.was some e.rows i x (λ z. rw (z, here.kind) is) (λ z. e.defs refl i z);
          line = record {
            node = record {
              is = put-new t u F n k a b c s w d.was some e.rows;
              low = λ i x. put-news t u F n k a b c s w d.was some e.rows i x (λ z. omega arith) (λ z. let y = e.gaps refl i z in let v = d.after in omega arith);
            };
            sort = here.sort;
          };
          here = here;
        }

    -- a digit of a constant
    pub record Bit (s a b m v : ℕ) : Type 0 where
      pub ends : Within t p F (line 14 n 6 s a b 0 m q)
      pub from : (2 * (b * 2 ^ 64 + a) + v) * 2 ^ (m - 1) ≤ F.second n * 2 ^ 64 + F.first n
      pub below : F.second n * 2 ^ 64 + F.first n < (2 * (b * 2 ^ 64 + a) + v + 1) * 2 ^ (m - 1)

    bit-of : (s a b m v : ℕ) → 1 ≤ m → v < 2 → ((i : ℕ) → Is t i → Holds t F i) → Rest → Line8 t F n s → F.kind n ≡ 6
        → (2 * (b * 2 ^ 64 + a) + v) * 2 ^ (m - 1) ≤ F.second n * 2 ^ 64 + F.first n
        → F.second n * 2 ^ 64 + F.first n < (2 * (b * 2 ^ 64 + a) + v + 1) * 2 ^ (m - 1) → Bit s a b m v
    bit-of s a b m v l h rows rest k e lo hi =
        let z : suc (m - 1) ≡ m = omega arith in
        let y = rw z at (binary-less (b * 2 ^ 64 + a) v (F.second n * 2 ^ 64 + F.first n) (m - 1) (omega arith) lo hi) in
        record {
          ends = defining (line 14 n 6 s a b 0 m q) rows rest k.node.low (record { line = k; kind = e; from = y.0; below = y.1 });
          from = lo;
          below = hi;
        }

    back : (g : ℕ) → g / 2 ^ 64 * 2 ^ 64 + g % 2 ^ 64 ≡ g
    back g = omega arith

    pub bit : (s a b m v : ℕ) → Long t → 1 ≤ m → v < 2 → Ends (next_at t p (line 14 n 6 s a b 0 m q) v) F → Bit s a b m v
    unfolding next_at digit
    bit s a b m v h l w e = go (eqb m 1) refl e
      where
        go : (x : Bool) → eqb m 1 ≡ x
            → Ends (cond x (defined t p (line 14 n 6 s a b 0 m q) 6 ((2 * (b * 2 ^ 64 + a) + v) % 2 ^ 64) ((2 * (b * 2 ^ 64 + a) + v) / 2 ^ 64) s)
            (record { tables = t; place = p; line = line 14 n 6 s ((2 * (b * 2 ^ 64 + a) + v) % 2 ^ 64) ((2 * (b * 2 ^ 64 + a) + v) / 2 ^ 64) 0 (m - 1) q })) F
            → Bit s a b m v
        go true x e =
            let y = term 14 6 s a b 0 m 6 ((2 * (b * 2 ^ 64 + a) + v) % 2 ^ 64) ((2 * (b * 2 ^ 64 + a) + v) / 2 ^ 64) s h (omega arith) refl e in
            let o : m - 1 ≡ 0 = (let z = eqb-true m 1 x in omega arith) in
            let c : F.second n * 2 ^ 64 + F.first n ≡ 2 * (b * 2 ^ 64 + a) + v = rw (y.here.first, y.here.second) (back (2 * (b * 2 ^ 64 + a) + v)) in
            bit-of s a b m v l w y.rows y.rest y.line y.here.kind (rw (o, c) (omega arith)) (rw (o, c) (omega arith))
        go false x e =
            let y = e.said in
            bit-of s a b m v l w e.rows (e.defs d.part) y.line y.kind (rw (back (2 * (b * 2 ^ 64 + a) + v)) at y.from) (rw (back (2 * (b * 2 ^ 64 + a) + v)) at y.below)

    pub bit-fixed : (s a b m v w : ℕ) → Bit s a b m v → Bit s a b m w → v ≡ w
    bit-fixed s a b m v w x y =
        one_bit (b * 2 ^ 64 + a) v w (F.second n * 2 ^ 64 + F.first n) (2 ^ (m - 1)) x.from x.below y.from y.below

    -- its sort
    pub sort : (v : ℕ) → Ends (next_at t p (line 7 n 0 0 0 0 0 0 q) v) F → Within t p F (line 7 n 0 0 0 0 0 0 q)
    unfolding next_at
    sort v e = defining (line 7 n 0 0 0 0 0 0 q) e.rows (e.defs d.part) e.said.node.low e.said.node

  -- the number of a defined node
  pub number : p.part ≡ 1 → (v : ℕ) → p.gap ≤ v → Ends (next_at t p (line 6 0 0 0 0 0 0 0 0) v) F → Within t p F (line 6 0 0 0 0 0 0 0 0)
  unfolding next_at
  number q v o e = record {
    rows = e.rows;
    tops = λ z. absurd (omega arith);
    defs = e.defs;
    gaps = λ _ i w. let b = e.said.low i w in omega arith;
    shut = λ z. absurd (omega arith);
    said = record { at = v; is = e.said.is };
  }
