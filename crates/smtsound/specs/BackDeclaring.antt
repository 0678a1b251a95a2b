-- What the end says behind a choice it says before: in a declaration.
use Rattle.std.specs.Prelude.{◌≡◌, Bool, ◌&&◌, ◌||◌, leb}
use Rattle.std.proofs.Math.Path.{refl}
use Rattle.std.proofs.Common.{sym, ◌∙◌, arith}
use Rattle.std.proofs.Math.Bool.{true, false, cond, not}
use Prim.Native.Nat.{ℕ, zero, suc, ◌+◌, ◌*◌, ◌^◌, ◌≤◌, ◌<◌}
use borrow.Author.Tests.{eqb-true, eqb-false, not-true}
use Rattle.std.proofs.Math.Dec.{ltb, eqb}
use Rattle.words.specs.Tests.{and_l, or_case}
use Rattle.smttext.specs.Names.{declared_is}
use Rattle.smtgrammar.specs.declared.Place.{Place}
use Rattle.smtgrammar.specs.declared.Line.{Line}
use Rattle.smtgrammar.specs.State.{Tables}
use Rattle.smtgrammar.specs.Allowed.{ok_at, digit_ok, format_of}
use Rattle.smtgrammar.specs.Next.{next_at, numeral, declared, entered, obliged}
use Rattle.smtsound.specs.Tables.{kind_in, first_in, second_in, third_in, sort_in, Long, put, oblige, Is, same?}
use Rattle.smtsound.specs.Lines.{line, Declares, Numbered}
use Rattle.smtsound.specs.Numerals.{Begins, begins-less, one-digit, no_end}
use Rattle.smtsound.specs.Final.{Final, Held, Holds, New, Declared, Said, Ends, put-here, put-rows, put-news}

module _ (t : Tables) (p : Place) (F : Final) where
  -- in the line l
  abbrev pub Within : Line → Type 0
  Within l = Ends (record { tables = t; place = p; line = l }) F

  module _ (n : ℕ) (d : Declares p n) where
    declaring : (l : Line) → ((i : ℕ) → Is t i → Holds t F i) → ((i : ℕ) → Declared t F i → n ≤ i) → Said t F l l.stage → Within l
    declaring l rows low said = record {
      rows = rows;
      tops = λ _ i w. let b = low i w in let o = d.over in omega arith;
      defs = λ q. absurd (let z = d.part in omega arith);
      gaps = λ q. absurd (let z = d.part in omega arith);
      shut = λ q. absurd (let z = d.part in omega arith);
      said = said;
    }

    -- a declaration ended, over tables u that have the nodes of t
    record Over (u : Tables) : Type 0 where
      long : Long u
      kind : (i : ℕ) → kind_in u i ≡ kind_in t i
      first : (i : ℕ) → first_in u i ≡ first_in t i
      second : (i : ℕ) → second_in u i ≡ second_in t i
      third : (i : ℕ) → third_in u i ≡ third_in t i
      sort : (i : ℕ) → Is t i → sort_in u i ≡ sort_in t i

    -- the line before, and the width
    pub record Wide (k a v : ℕ) : Type 0 where
      pub ends : Within (line 5 n k 0 a 0 0 0 0)
      pub sort : F.sort n ≡ v

    wide : (u : Tables) (k a b v gap next owed due count : ℕ) → Over u → kind_in t n ≡ 0 → 0 < k → declared_is k ≡ true
        → Ends (record {
          tables = entered u n k a b 0 v;
          place = record { part = 0; top = n + 1; gap = gap; next = next; owed = owed; due = due; count = count };
          line = line 0 0 0 0 0 0 0 0 0;
        }) F
        → Wide k a v
    wide u k a b v gap next owed due count o was some is e = record {
      ends = declaring (line 5 n k 0 a 0 0 0 0) rows low (record {
        line = record { node = record { is = record { new = new; is = rw here.kind is }; low = low }; kind = here.kind };
        first = here.first;
      });
      sort = here.sort;
    }
      where
        y : kind_in u n ≡ 0
        y = o.kind n ∙ was

        here : Held F n k a b 0 v
        here = put-here u (entered u n k a b 0 v) F n k a b 0 v (put u n k a b 0 v o.long d.inside) y some e.rows

        new : New t F n
        new = record { was = was; is = λ z. let x = sym here.kind ∙ z in omega arith }

        rows : (i : ℕ) → Is t i → Holds t F i
        rows i q =
            let r = put-rows u (entered u n k a b 0 v) F n k a b 0 v (put u n k a b 0 v o.long d.inside) y some e.rows i (λ z. q (sym (o.kind i) ∙ z)) in
            record {
              kind = r.kind ∙ o.kind i;
              first = r.first ∙ o.first i;
              second = r.second ∙ o.second i;
              third = r.third ∙ o.third i;
              sort = r.sort ∙ o.sort i q;
            }

        low : (i : ℕ) → Declared t F i → n ≤ i
        low i w =
            put-news u (entered u n k a b 0 v) F n k a b 0 v (put u n k a b 0 v o.long d.inside) y some e.rows i (record { was = o.kind i ∙ w.new.was; is = w.new.is })
            (λ z. omega arith)
            (λ z. let x = e.tops refl i (record { new = z; is = w.is }) in omega arith)

    plain : Long t → Over t
    plain h = record { long = h; kind = λ i. refl; first = λ i. refl; second = λ i. refl; third = λ i. refl; sort = λ i q. refl }

    pub width : (k a v : ℕ) → Long t → kind_in t n ≡ 0 → Numbered t n k a → Ends (next_at t p (line 5 n k 0 a 0 0 0 0) v) F → Wide k a v
    unfolding next_at declared obliged
    width zero a v h was (Numbered.named lo hi s) e = absurd (omega arith)
    width (suc zero) a v h was (Numbered.named lo hi s) e = wide t 1 a v v _ _ _ _ _ (plain h) was (omega arith) refl e
    width (suc (suc zero)) a v h was (Numbered.named lo hi s) e = wide t 2 a v v _ _ _ _ _ (plain h) was (omega arith) refl e
    width (suc (suc (suc zero))) a v h was (Numbered.named lo hi s) e = wide t 3 a v v _ _ _ _ _ (plain h) was (omega arith) refl e
    width (suc (suc (suc (suc k)))) a v h was (Numbered.named lo hi s) e = absurd (omega arith)
    width k a v h was Numbered.fsw e = wide t 4 0 0 v _ _ _ _ _ (plain h) was (omega arith) refl e
    width k a v h was (Numbered.flag s) e = wide t 5 a 0 v _ _ _ _ _ (plain h) was (omega arith) refl e
    width k a v h was (Numbered.reads l c) e =
        let o = oblige t a (format_of v) h (let i = d.inside in omega arith) in
        wide (obliged true a (format_of v) t) 26 a 0 v _ _ _ _ _
        (record { long = o.long; kind = o.kind; first = o.first; second = o.second; third = o.third; sort = λ i q. o.others i (λ z. q (rw z c)) })
        was (omega arith) refl e

    -- a digit, or the end of the number
    pub record Digits (k a m v : ℕ) : Type 0 where
      pub ends : Within (line 4 n k 0 a 0 0 m 0)
      pub more : ℕ
      pub is : v ≡ 10 → (F.first n ≡ a) × (m ≡ 1)
      pub digit : (v ≡ 10 → ⊥) → Begins (10 * a + v) (F.first n) more
      pub alone : (v ≡ 10 → ⊥) → 10 * a + v ≡ 0 → F.first n ≡ 0
      pub on : (v ≡ 10 → ⊥) → m ≡ 1 → 0 < a

    pub digits : (k a m v : ℕ) → v < 11 → ok_at t p (line 4 n k 0 a 0 0 m 0) v ≡ true → Ends (next_at t p (line 4 n k 0 a 0 0 m 0) v) F → Digits k a m v
    unfolding ok_at digit_ok next_at numeral
    digits k a m v b ok e = go (eqb v 10) refl ok e
      where
        go : (x : Bool) → eqb v 10 ≡ x → cond x (eqb m 1) ((eqb m 0 || not (eqb a 0)) && ltb (10 * a + v) (2 ^ 64)) ≡ true
            → Ends (cond x (record { tables = t; place = p; line = line 5 n k 0 a 0 0 0 0 }) (record { tables = t; place = p; line = line 4 n k 0 (10 * a + v) 0 0 1 0 })) F
            → Digits k a m v
        go true q ok e =
            let z = eqb-true v 10 q in
            let s = e.said in
            record {
              ends = declaring (line 4 n k 0 a 0 0 m 0) e.rows s.line.node.low (record {
                line = s.line;
                more = 0;
                begins = record { from = (let f = s.first in omega arith); below = (let f = s.first in omega arith) };
                alone = λ _ y. s.first ∙ y;
              });
              more = 0;
              is = λ _. (s.first, eqb-true m 1 ok);
              digit = λ y. absurd (y z);
              alone = λ y. absurd (y z);
              on = λ y. absurd (y z);
            }
        go false q ok e =
            let z = eqb-false v 10 q in
            let s = e.said in
            let f : m ≡ 1 → 0 < a = λ y.
            or_case (eqb m 0) (not (eqb a 0)) (and_l (eqb m 0 || not (eqb a 0)) _ ok)
            (λ g. absurd (let x = eqb-true m 0 g in omega arith))
            (λ g. let x = eqb-false a 0 (not-true (eqb a 0) g) in omega arith) in
            record {
              ends = declaring (line 4 n k 0 a 0 0 m 0) e.rows s.line.node.low (record {
                line = s.line;
                more = suc s.more;
                begins = begins-less a v (F.first n) s.more (omega arith) s.begins;
                alone = λ y w. absurd (let x = f y in omega arith);
              });
              more = s.more;
              is = λ y. absurd (z y);
              digit = λ _. s.begins;
              alone = λ _. s.alone refl;
              on = λ _. f;
            }

    -- so there is one
    pub digits-fixed : (k a m v w : ℕ) → v < 11 → w < 11 → Digits k a m v → Digits k a m w → v ≡ w
    digits-fixed k a m v w b c x y =
        same? v 10
        (λ e. same? w 10 (λ f. omega arith) (λ f. absurd (ended v w e f x y)))
        (λ e. same? w 10 (λ f. absurd (ended w v f e y x)) (λ f. one-digit a v w x.more y.more (F.first n) (omega arith) (omega arith) (x.digit e) (y.digit f) (x.alone e) (y.alone f)))
      where
        ended : (v w : ℕ) → v ≡ 10 → (w ≡ 10 → ⊥) → Digits k a m v → Digits k a m w → ⊥
        ended v w e f x y =
            let i = x.is e in
            no_end a w y.more (y.on f i.1) (rw i.0 at (y.digit f))

    -- its number, of few
    pub late : (k v : ℕ) → Ends (next_at t p (line 3 n k 0 0 0 0 0 0) v) F → Within (line 3 n k 0 0 0 0 0 0)
    unfolding next_at
    late k v e = let s = e.said.line in declaring (line 3 n k 0 0 0 0 0 0) e.rows s.node.low s

    -- its kind
    pub record Kind (v : ℕ) : Type 0 where
      pub ends : Within (line 2 n 0 0 0 0 0 0 0)
      pub kind : F.kind n ≡ v

    pub kind : (v : ℕ) → Ends (next_at t p (line 2 n 0 0 0 0 0 0 0) v) F → Kind v
    unfolding next_at
    kind v e = go (leb v 3) e
      where
        go : (x : Bool) → Ends (record { tables = t; place = p; line = line (cond x 4 3) n v 0 0 0 0 0 0 }) F → Kind v
        go true e = let s = e.said.line in record { ends = declaring (line 2 n 0 0 0 0 0 0 0) e.rows s.node.low s.node; kind = s.kind }
        go false e = let s = e.said in record { ends = declaring (line 2 n 0 0 0 0 0 0 0) e.rows s.node.low s.node; kind = s.kind }

  -- the number of a declared node
  pub number : p.part ≡ 0 → (v : ℕ) → p.top ≤ v → Ends (next_at t p (line 1 0 0 0 0 0 0 0 0) v) F → Within (line 1 0 0 0 0 0 0 0 0)
  unfolding next_at
  number q v o e = record {
    rows = e.rows;
    tops = λ _ i w. let b = e.said.low i w in omega arith;
    defs = λ z. absurd (omega arith);
    gaps = λ z. absurd (omega arith);
    shut = λ z. absurd (omega arith);
    said = record { at = v; is = e.said.is };
  }
