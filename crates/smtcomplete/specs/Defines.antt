-- The second part: each node of a defined kind that is here is defined, in order.
use Rattle.std.specs.Prelude.{◌≡◌, Bool, ◌&&◌, ◌||◌, ltb}
use Rattle.std.proofs.Math.Path.{refl}
use Rattle.std.proofs.Common.{sym, ◌∙◌}
use Rattle.std.proofs.Math.Bool.{true, false, cond, not}
use mathlib.Core.List.{List, [], ◌++◌, append-nil}
use Prim.Native.Nat.{ℕ, zero, suc, ◌+◌, ◌-◌, ◌≤◌}
use native.Mathlib.Omega.{arith}
use borrow.Author.Tests.{eqb-true, eqb-false, lt-ltb, le-ltb, not-true}
use Rattle.std.proofs.Math.Dec.{eqb}
use Rattle.std.proofs.Math.ListN.{get_or}
use Rattle.viable.specs.Grammar.{clash}
use Rattle.words.specs.Tests.{and_l, and_r}
use Rattle.sorts.specs.Lists.{field, sorts}
use Rattle.smttext.specs.Names.{kind_at, declared_is}
use Rattle.smttext.specs.Text.{on, definition, part}
use Rattle.smttext.specs.declared.Part.TheVariants.{Definitions}
use Rattle.smtgrammar.specs.declared.Place.{Place}
use Rattle.smtgrammar.specs.State.{limit, Tables}
use Rattle.smtgrammar.specs.Next.{owed_from, entered, defined}
use Rattle.smtcomplete.specs.Lines.{between, Moves, both, stay}
use Rattle.smtcomplete.specs.Facts.{sort_at, sort-small}
use Rattle.smtcomplete.specs.Sources.{has-kind}
use Rattle.smtcomplete.specs.Tally.{ltb-step, tally-adds}
use Rattle.smtcomplete.specs.Holds.{Holds, Adds, still, other, enter}
use Rattle.smtcomplete.specs.Stands.{Given, here, Waits, inside, waits-enter, stands-again}
use Rattle.smtcomplete.specs.Declares.{declared_below, Declared}
use Rattle.smtcomplete.specs.Seeks.{seek_found}
use Rattle.smtcomplete.specs.Definable.{defined_below, Defined, low, absent, after, after-least, defines}

module _ (w m : List ℕ) (n : ℕ) (given : Given w m n) where
  -- node i is defined in its turn
  module _ (i : ℕ) (t : Tables) (p : Place) (d : Defined w m n i t p) (h : here m n i ≡ true) (k : declared_is (kind_at w i) ≡ false) where
    adds : Adds (defined_below w m n i) (defined_below w m n (suc i)) i
    adds = record {
      new = rw (h, k, lt-ltb i (suc i) (omega arith));
      old = λ j e. rw (ltb-step i j e);
    }

    then : Tables
    then = entered t i (kind_at w i) (field w i 1) (field w i 2) (field w i 3) (sort_at w n i)

    held : Holds w m n (defined_below w m n (suc i)) then
    unfolding then
    held =
        let l = low w m n given i t p d h k in
        enter w m n (defined_below w m n i) (defined_below w m n (suc i)) t i _ _ _ _ _ (omega arith) (sort-small w n given.passes i (inside w m n i h)) adds
        refl refl refl refl refl d.stands.holds

    -- a node that was there, by its kind
    was : (j : ℕ) → defined_below w m n (suc i) j ≡ true → declared_is (kind_at w j) ≡ true → defined_below w m n i j ≡ true
    was j e f = sym (adds.old j (λ z. apart (rw z at f))) ∙ e
      where
        apart : declared_is (kind_at w i) ≡ true → ⊥
        apart f = clash (sym k ∙ f)

    -- the next number that is obliged waits
    found : (owed_from then p.top (i + 1) ≡ limit → ⊥) → Waits w m n (defined_below w m n (suc i)) then (owed_from then p.top (i + 1))
    unfolding owed_from
    found z = by _ (seek_found _ (i + 1) (p.top - (i + 1)) limit z).is
      where
        by : (j : ℕ) → (eqb (get_or then.kinds j 0) 0 && not (eqb (get_or then.sorts j 0) 0)) ≡ true → Waits w m n (defined_below w m n (suc i)) then j
        by j e = go (defined_below w m n (suc i) j) refl
          where
            zero-kind : get_or then.kinds j 0 ≡ 0
            zero-kind = eqb-true _ 0 (and_l (eqb (get_or then.kinds j 0) 0) _ e)

            go : (b : Bool) → defined_below w m n (suc i) j ≡ b → Waits w m n (defined_below w m n (suc i)) then j
            go true q =
                let x = inside w m n j (and_l (here m n j) _ q) in
                absurd (has-kind w n given.passes j x (sym (held.kinds j ∙ rw q) ∙ zero-kind))
            go false q =
                record { not = q; owes = held.owing j q (eqb-false _ 0 (not-true _ (and_r (eqb (get_or then.kinds j 0) 0) _ e))) }

    owed-then : (cond (eqb i p.owed) (owed_from then p.top (i + 1)) p.owed ≡ limit → ⊥)
        → Waits w m n (defined_below w m n (suc i)) then (cond (eqb i p.owed) (owed_from then p.top (i + 1)) p.owed)
    unfolding then
    owed-then = go (eqb i p.owed) refl
      where
        go : (b : Bool) → eqb i p.owed ≡ b → (cond b (owed_from then p.top (i + 1)) p.owed ≡ limit → ⊥)
            → Waits w m n (defined_below w m n (suc i)) then (cond b (owed_from then p.top (i + 1)) p.owed)
        go true e z = found z
        go false e z =
            waits-enter w m n _ _ t i _ _ _ _ _ p.owed adds (λ q. eqb-false i p.owed e (sym q)) (d.stands.owed z)

    defined-step : Moves (Defined w m n (suc i)) t p (definition w (sorts w n) i)
    unfolding defined then
    defined-step =
        record {
          tables = then;
          place =
              record {
                part = 1;
                top = p.top;
                gap = after w m n given i t p d h k;
                next = p.next;
                owed = cond (eqb i p.owed) (owed_from then p.top (i + 1)) p.owed;
                due = p.due;
                count = p.count + 1;
              };
          reach = defines w m n given i t p d h k;
          is =
              record {
                part = omega arith;
                stands =
                    record {
                      holds = held;
                      only = λ j e. and_l (here m n j) _ e;
                      gap = λ x e l u. after-least w m n given i t p d h k x (sym (adds.old x (other _ _ i x adds e)) ∙ e) (omega arith) u;
                      owed = owed-then;
                      top = λ j e f. d.stands.top j (was j e f) f;
                      count = let c = d.stands.count in let u = tally-adds _ _ i adds (absent w m n given i t p d h k) n (inside w m n i h) in omega arith;
                      first = λ j e f _. d.stands.first j (was j e (rw f)) f (omega arith);
                      due = λ z. let u = d.stands.due z in record { there = still _ _ i _ adds u.there; kind = u.kind; late = omega arith };
                    };
              };
        }

  -- a node that is not defined is passed over
  passed : (i : ℕ) (t : Tables) (p : Place) → on m i && not (declared_is (kind_at w i)) ≡ false → Defined w m n i t p → Defined w m n (suc i) t p
  passed i t p e d = record { part = d.part; stands = stands-again w m n _ _ i (suc i) 0 t p same (omega arith) d.stands }
    where
      none : (a b c x : Bool) → b && not c ≡ false → (a && b) && (c || true) ≡ (a && b) && (c || x)
      none true true true x e = refl
      none true true false x e = clash (sym e)
      none true false c x e = refl
      none false b c x e = refl

      same : (j : ℕ) → defined_below w m n (suc i) j ≡ defined_below w m n i j
      same j = go (eqb j i) refl
        where
          last : defined_below w m n (suc i) i ≡ defined_below w m n i i
          last = rw (lt-ltb i (suc i) (omega arith)) (none (ltb i n) (on m i) (declared_is (kind_at w i)) (ltb i i) e)

          go : (b : Bool) → eqb j i ≡ b → defined_below w m n (suc i) j ≡ defined_below w m n i j
          go true z = rw (eqb-true j i z) last
          go false z = rw (ltb-step i j (eqb-false j i z))

  -- where all is declared, nothing is defined yet
  none-defined : (t : Tables) (p : Place) → Declared w m n n t p → Defined w m n 0 t p
  none-defined t p d =
      record { part = (let e = d.part in omega arith); stands = stands-again w m n _ _ 0 0 0 t p same (omega arith) d.stands }
    where
      plain : (a b c : Bool) → (a && b) && (c || false) ≡ a && ((a && b) && c)
      plain true true true = refl
      plain true true false = refl
      plain true false c = refl
      plain false b c = refl

      same : (j : ℕ) → defined_below w m n 0 j ≡ declared_below w m n n j
      same j = rw (le-ltb j 0 (omega arith)) (plain (ltb j n) (on m j) (declared_is (kind_at w j)))

  -- THE SECOND PART
  pub all-defined : (t : Tables) (p : Place) → Declared w m n n t p → (i : ℕ) → i ≤ n → Moves (Defined w m n i) t p (part Definitions w (sorts w n) m i)
  unfolding part
  all-defined t p d zero h = record { tables = t; place = p; reach = stay (between t p); is = none-defined t p d }
  all-defined t p d (suc i) h = go (on m i) (declared_is (kind_at w i)) refl refl (all-defined t p d i (omega arith))
    where
      go : (a b : Bool) → on m i ≡ a → declared_is (kind_at w i) ≡ b → Moves (Defined w m n i) t p (part Definitions w (sorts w n) m i)
          → Moves (Defined w m n (suc i)) t p (part Definitions w (sorts w n) m i ++ cond (a && not b) (definition w (sorts w n) i) [])
      go true false e f s =
          let u = defined-step i s.tables s.place s.is (rw (lt-ltb i n h) e) f in
          record { tables = u.tables; place = u.place; reach = both s.reach u.reach; is = u.is }
      go true true e f s = record { tables = s.tables; place = s.place; reach = rw append-nil s.reach; is = passed i s.tables s.place (rw (e, f)) s.is }
      go false b e f s = record { tables = s.tables; place = s.place; reach = rw append-nil s.reach; is = passed i s.tables s.place (rw e) s.is }
