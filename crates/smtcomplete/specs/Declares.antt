-- The first part: each node of a declared kind that is here is declared, in order.
use Rattle.std.proofs.Math.Path.{◌≡◌, refl, sym, ap}
use Rattle.std.proofs.Common.{◌∙◌}
use Rattle.std.specs.Prelude.{Bool, ◌&&◌, ltb}
use Rattle.std.proofs.Math.Bool.{true, false, cond}
use mathlib.Core.List.{List, [], ◌++◌, append-nil}
use Prim.Native.Nat.{ℕ, zero, suc, ◌+◌, ◌≤◌, ◌<◌, min}
use native.Mathlib.Omega.{arith}
use borrow.Author.Tests.{eqb-true, eqb-false, leb-true, leb-false, lt-ltb, le-ltb, ltb-true}
use Rattle.std.proofs.Math.Dec.{leb, eqb}
use Rattle.std.proofs.Math.Seq.{get_or-set_same}
use Rattle.viable.specs.Grammar.{clash}
use Rattle.words.specs.Tests.{and_l, and_r}
use Rattle.sorts.specs.Lists.{field, sorts}
use Rattle.smttext.specs.Names.{kind_at, declared_is}
use Rattle.smttext.specs.Text.{on, declaration, part}
use Rattle.smttext.specs.declared.Part.TheVariants.{Declarations}
use Rattle.smtgrammar.specs.declared.Place.{Place}
use Rattle.smtgrammar.specs.State.{limit, Tables, start}
use Rattle.smtgrammar.specs.Allowed.{format_of}
use Rattle.smtgrammar.specs.Next.{entered, obliged, declared}
use Rattle.smtcomplete.specs.Lines.{Moves, both, stay}
use Rattle.smtcomplete.specs.Facts.{sort_at}
use Rattle.smtcomplete.specs.Tally.{ltb-step, tally-adds, tally-none}
use Rattle.smtcomplete.specs.Holds.{Owes, Holds, Adds, still, other, enter, oblige, at_first}
use Rattle.smtcomplete.specs.Stands.{Given, here, Waits, Due, Stands, inside, marked, waits-enter, waits-oblige, made, stands-again}
use Rattle.smtcomplete.specs.Declaring.{declaration-text, declares}
use Rattle.smtcomplete.specs.Declarable.{Fits, Operated, operated, format_width, fits}

-- the declared nodes below i that are here
abbrev pub declared_below : List ℕ → List ℕ → ℕ → ℕ → ℕ → Bool
declared_below w m n i j = ltb j i && (here m n j && declared_is (kind_at w j))

pub record Declared (w m : List ℕ) (n i : ℕ) (t : Tables) (p : Place) : Type 0 where
  pub part : p.part ≡ 0
  pub top : p.top ≤ i
  pub next : (x : ℕ) → declared_below w m n i x ≡ false → p.gap < x → p.next ≤ x
  pub stands : Stands w m n (declared_below w m n i) 0 0 t p

-- what a declaration says of numbers that are obliged
record Obliges (w m : List ℕ) (n : ℕ) (P : ℕ → Bool) (t : Tables) (o : ℕ) : Type 0 where
  holds : Holds w m n P t
  owed : (o ≡ limit → ⊥) → Waits w m n P t o

module _ (w m : List ℕ) (n : ℕ) (given : Given w m n) where
  obliges : (P : ℕ → Bool) (t : Tables) (p : Place) (i : ℕ) → Stands w m n P 0 0 t p → ((j : ℕ) → declared_is (kind_at w j) ≡ false → P j ≡ false) → here m n i ≡ true
      → Obliges w m n P (obliged (eqb (kind_at w i) 26) (field w i 1) (format_of (sort_at w n i)) t) (cond (eqb (kind_at w i) 26) (min p.owed (field w i 1)) p.owed)
  unfolding obliged
  obliges P t p i s bare h = go (eqb (kind_at w i) 26) refl
    where
      reading : Operated w m n i → Obliges w m n P (obliged true (field w i 1) (format_of (sort_at w n i)) t) (min p.owed (field w i 1))
      reading o =
          let q = field w i 1 in
          let e : format_of (sort_at w n i) ≡ sort_at w n q = ap format_of o.reads.width ∙ format_width (sort_at w n q) o.reads.float in
          let b = inside w m n q o.there in
          let z = given.size in
          let u : Owes w m n q (format_of (sort_at w n i)) = record { is = e; inside = b; marked = marked w m n q o.there; float = o.reads.float } in
          let k = oblige w m n P t q (format_of (sort_at w n i)) (omega arith) (bare q o.defined) u s.holds in
          record { holds = k; owed = lower o e k (leb p.owed q) refl }
        where
          lower : Operated w m n i → format_of (sort_at w n i) ≡ sort_at w n (field w i 1) → Holds w m n P (obliged true (field w i 1) (format_of (sort_at w n i)) t)
              → (b : Bool) → leb p.owed (field w i 1) ≡ b → (min p.owed (field w i 1) ≡ limit → ⊥)
              → Waits w m n P (obliged true (field w i 1) (format_of (sort_at w n i)) t) (min p.owed (field w i 1))
          lower o e k true y z =
              let l = leb-true p.owed (field w i 1) y in
              let x : min p.owed (field w i 1) ≡ p.owed = omega arith in
              let b = inside w m n (field w i 1) o.there in
              let g = given.size in
              rw x (waits-oblige w m n P t (field w i 1) (format_of (sort_at w n i)) p.owed (omega arith) s.holds e (s.owed (rw x at z)))
          lower o e k false y z =
              let l = leb-false p.owed (field w i 1) y in
              let x : min p.owed (field w i 1) ≡ field w i 1 = omega arith in
              let b = inside w m n (field w i 1) o.there in
              let g = given.size in
              let v = get_or-set_same t.sorts (field w i 1) (format_of (sort_at w n i)) 0 (omega (arith, s.holds.sized.sorts)) in
              rw x (record { not = bare (field w i 1) o.defined; owes = record { is = v ∙ e; inside = b; marked = marked w m n (field w i 1) o.there; float = o.reads.float } })

      go : (b : Bool) → eqb (kind_at w i) 26 ≡ b → Obliges w m n P (obliged b (field w i 1) (format_of (sort_at w n i)) t) (cond b (min p.owed (field w i 1)) p.owed)
      go true e = reading (operated w m n given i h (eqb-true (kind_at w i) 26 e))
      go false e = record { holds = s.holds; owed = s.owed }

  -- node i is declared in its turn
  module _ (i : ℕ) (t : Tables) (p : Place) (d : Declared w m n i t p) (h : here m n i ≡ true) (k : declared_is (kind_at w i) ≡ true) where
    bare : (j : ℕ) → declared_is (kind_at w j) ≡ false → declared_below w m n i j ≡ false
    bare j e = rw e (go (ltb j i) (here m n j))
      where
        go : (a b : Bool) → a && (b && false) ≡ false
        go true true = refl
        go true false = refl
        go false b = refl

    adds : Adds (declared_below w m n i) (declared_below w m n (suc i)) i
    adds = record {
      new = rw (lt-ltb i (suc i) (omega arith), h, k);
      old = λ j e. rw (ltb-step i j e);
    }

    absent : declared_below w m n i i ≡ false
    absent = rw (le-ltb i i (omega arith))

    fitting : Fits t p i (kind_at w i) (field w i 1) (field w i 2) (field w i 3) (sort_at w n i)
    fitting = fits w m n given (declared_below w m n i) t p d.stands d.next bare i h k

    obliged-so : Obliges w m n (declared_below w m n i) (obliged (eqb (kind_at w i) 26) (field w i 1) (format_of (sort_at w n i)) t) (cond (eqb (kind_at w i) 26) (min p.owed (field w i 1)) p.owed)
    obliged-so = obliges (declared_below w m n i) t p i d.stands bare h

    below : (j : ℕ) → declared_below w m n i j ≡ true → j < i
    below j e = ltb-true j i (and_l (ltb j i) _ e)

    low : i < 65535
    low = let b = inside w m n i h in let z = given.size in omega arith

    -- the tables and the place behind the line
    after : Tables
    after = entered (obliged (eqb (kind_at w i) 26) (field w i 1) (format_of (sort_at w n i)) t) i (kind_at w i) (field w i 1) (cond (leb (kind_at w i) 3) (sort_at w n i) 0) 0 (sort_at w n i)

    held : Holds w m n (declared_below w m n (suc i)) after
    unfolding after
    held =
        enter w m n (declared_below w m n i) (declared_below w m n (suc i)) _ i _ _ _ _ _ (let l = low in omega arith) (let l = fitting.small in omega arith) adds
        refl refl fitting.second fitting.third refl obliged-so.holds

    gap-after : (x : ℕ) → declared_below w m n (suc i) x ≡ false → x < limit → cond (eqb i p.gap) (i + 1) p.gap ≤ x
    gap-after x e l = go (eqb i p.gap) refl
      where
        go : (b : Bool) → eqb i p.gap ≡ b → cond b (i + 1) p.gap ≤ x
        go b z =
            let o = other _ _ i x adds e in
            let g = d.stands.gap x (sym (adds.old x o) ∙ e) (omega arith) l in
            by b z g o
          where
            by : (b : Bool) → eqb i p.gap ≡ b → p.gap ≤ x → (x ≡ i → ⊥) → cond b (i + 1) p.gap ≤ x
            by true z g o = let q = eqb-true i p.gap z in omega arith
            by false z g o = g

    next-after : (x : ℕ) → declared_below w m n (suc i) x ≡ false → cond (eqb i p.gap) (i + 1) p.gap < x
        → cond (eqb i p.gap) (i + 2) (cond (eqb i p.next) (i + 1) p.next) ≤ x
    next-after x e = go (eqb i p.gap) (eqb i p.next) refl refl
      where
        go : (a b : Bool) → eqb i p.gap ≡ a → eqb i p.next ≡ b → cond a (i + 1) p.gap < x → cond a (i + 2) (cond b (i + 1) p.next) ≤ x
        go true b y z l = omega arith
        go false true y z l =
            let o = other _ _ i x adds e in
            let g = d.next x (sym (adds.old x o) ∙ e) l in
            let q = eqb-true i p.next z in
            omega arith
        go false false y z l = d.next x (sym (adds.old x (other _ _ i x adds e)) ∙ e) l

    owed-after : (cond (eqb (kind_at w i) 26) (min p.owed (field w i 1)) p.owed ≡ limit → ⊥)
        → Waits w m n (declared_below w m n (suc i)) after (cond (eqb (kind_at w i) 26) (min p.owed (field w i 1)) p.owed)
    unfolding after
    owed-after z =
        let v = obliged-so.owed z in
        waits-enter w m n _ _ _ i _ _ _ _ _ _ adds (λ e. apart (rw e at v)) v
      where
        apart : {t : Tables} → Waits w m n (declared_below w m n i) t i → ⊥
        apart v = let q = (made w m n given i h v.owes.float).defined in let b : ◌≡◌ {A = Bool} false true = sym q ∙ k in clash b

    first-after : (j : ℕ) → declared_below w m n (suc i) j ≡ true → kind_at w j ≡ 26 → cond (eqb (kind_at w i) 26 && eqb p.due limit) i p.due ≤ j
    first-after j e q = go (eqb j i) (eqb (kind_at w i) 26) (eqb p.due limit) refl refl refl
      where
        go : (x a b : Bool) → eqb j i ≡ x → eqb (kind_at w i) 26 ≡ a → eqb p.due limit ≡ b → cond (a && b) i p.due ≤ j
        go true true true u v y = omega (arith, eqb-true j i u)
        go true true false u v y =
            let l = below _ (d.stands.due (eqb-false p.due limit y)).there in
            omega (arith, eqb-true j i u)
        go true false b u v y = absurd (eqb-false (kind_at w i) 26 v (rw (eqb-true j i u) at q))
        go false true true u v y =
            let l = d.stands.first j (sym (adds.old j (eqb-false j i u)) ∙ e) q (omega arith) in
            let c = below j (sym (adds.old j (eqb-false j i u)) ∙ e) in
            let z = eqb-true p.due limit y in
            absurd (omega (arith, low))
        go false true false u v y = d.stands.first j (sym (adds.old j (eqb-false j i u)) ∙ e) q (omega arith)
        go false false b u v y = d.stands.first j (sym (adds.old j (eqb-false j i u)) ∙ e) q (omega arith)

    due-after : (cond (eqb (kind_at w i) 26 && eqb p.due limit) i p.due ≡ limit → ⊥)
        → Due w m n (declared_below w m n (suc i)) 0 (cond (eqb (kind_at w i) 26 && eqb p.due limit) i p.due)
    due-after = go (eqb (kind_at w i) 26) (eqb p.due limit) refl
      where
        was : (p.due ≡ limit → ⊥) → Due w m n (declared_below w m n (suc i)) 0 p.due
        was z = let u = d.stands.due z in record { there = still _ _ i _ adds u.there; kind = u.kind; late = omega arith }

        go : (a b : Bool) → eqb (kind_at w i) 26 ≡ a → (cond (a && b) i p.due ≡ limit → ⊥) → Due w m n (declared_below w m n (suc i)) 0 (cond (a && b) i p.due)
        go true true u z = record { there = adds.new; kind = eqb-true (kind_at w i) 26 u; late = omega arith }
        go true false u z = was z
        go false b u z = was z

    pub declared-step : Moves (Declared w m n (suc i)) t p (declaration w (sorts w n) i)
    unfolding declared after
    declared-step =
        let f = fitting in
        let l = low in
        record {
          tables = after;
          place =
              record {
                part = 0;
                top = i + 1;
                gap = cond (eqb i p.gap) (i + 1) p.gap;
                next = cond (eqb i p.gap) (i + 2) (cond (eqb i p.next) (i + 1) p.next);
                owed = cond (eqb (kind_at w i) 26) (min p.owed (field w i 1)) p.owed;
                due = cond (eqb (kind_at w i) 26 && eqb p.due limit) i p.due;
                count = p.count + 1;
              };
          reach =
              rw (declaration-text w (sorts w n) i k f.small)
              (declares t p i (kind_at w i) (field w i 1) (sort_at w n i)
              (record { part = d.part; top = d.top; node = l; kind = f.kind; few = f.few; number = f.number; word = given.words _; width = f.width; small = f.small }));
          is =
              record {
                part = refl;
                top = omega arith;
                next = next-after;
                stands =
                    record {
                      holds = held;
                      only = λ j e. and_l (here m n j) _ (and_r (ltb j (suc i)) _ e);
                      gap = λ x e _. gap-after x e;
                      owed = owed-after;
                      top = λ j e _. (let q = ltb-true j (suc i) (and_l (ltb j (suc i)) _ e) in omega arith);
                      count = let c = d.stands.count in let u = tally-adds _ _ i adds absent n (inside w m n i h) in omega arith;
                      first = λ j e q _. first-after j e q;
                      due = due-after;
                    };
              };
        }

  -- a node that is not declared is passed over
  passed : (i : ℕ) (t : Tables) (p : Place) → on m i && declared_is (kind_at w i) ≡ false → Declared w m n i t p → Declared w m n (suc i) t p
  passed i t p e d =
      record {
        part = d.part;
        top = (let l = d.top in omega arith);
        next = λ x q. d.next x (sym (same x) ∙ q);
        stands = stands-again w m n _ _ 0 0 0 t p same (omega arith) d.stands;
      }
    where
      same : (j : ℕ) → declared_below w m n (suc i) j ≡ declared_below w m n i j
      same j = go (eqb j i) refl
        where
          last : declared_below w m n (suc i) i ≡ declared_below w m n i i
          last = rw (le-ltb i i (omega arith)) (none (ltb i (suc i)) (ltb i n) (on m i) (declared_is (kind_at w i)) e)
            where
              none : (a b c d : Bool) → c && d ≡ false → a && ((b && c) && d) ≡ false
              none true true c d e = e
              none true false c d e = refl
              none false b c d e = refl

          go : (b : Bool) → eqb j i ≡ b → declared_below w m n (suc i) j ≡ declared_below w m n i j
          go true z = rw (eqb-true j i z) last
          go false z = rw (ltb-step i j (eqb-false j i z))

  -- nothing is declared at first
  at-start : Declared w m n 0 start.tables start.place
  at-start =
      record {
        part = refl;
        top = omega arith;
        next = λ x _ l. l;
        stands =
            record {
              holds = at_first w m n (declared_below w m n 0) none;
              only = λ j e. clash (sym (none j) ∙ e);
              gap = λ x _ _ _. omega arith;
              owed = λ z. absurd (z refl);
              top = λ j e. clash (sym (none j) ∙ e);
              count = sym (tally-none (declared_below w m n 0) none n);
              first = λ j e. clash (sym (none j) ∙ e);
              due = λ z. absurd (z refl);
            };
      }
    where
      none : (j : ℕ) → declared_below w m n 0 j ≡ false
      none j = rw (le-ltb j 0 (omega arith))

  -- THE FIRST PART
  pub all-declared : (i : ℕ) → i ≤ n → Moves (Declared w m n i) start.tables start.place (part Declarations w (sorts w n) m i)
  unfolding part
  all-declared zero h = record { tables = start.tables; place = start.place; reach = stay start; is = at-start }
  all-declared (suc i) h = go (on m i) (declared_is (kind_at w i)) refl refl (all-declared i (omega arith))
    where
      go : (a b : Bool) → on m i ≡ a → declared_is (kind_at w i) ≡ b → Moves (Declared w m n i) start.tables start.place (part Declarations w (sorts w n) m i)
          → Moves (Declared w m n (suc i)) start.tables start.place (part Declarations w (sorts w n) m i ++ cond (a && b) (declaration w (sorts w n) i) [])
      go true true e f s =
          let u = declared-step i s.tables s.place s.is (rw (lt-ltb i n h) e) f in
          record { tables = u.tables; place = u.place; reach = both s.reach u.reach; is = u.is }
      go true false e f s = record { tables = s.tables; place = s.place; reach = rw append-nil s.reach; is = passed i s.tables s.place (rw (e, f)) s.is }
      go false b e f s = record { tables = s.tables; place = s.place; reach = rw append-nil s.reach; is = passed i s.tables s.place (rw e) s.is }
