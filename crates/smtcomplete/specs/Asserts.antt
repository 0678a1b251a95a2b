-- The third part: each FpToIeeeBv that is here is asserted, in order.
use Rattle.std.proofs.Math.Path.{◌≡◌, refl, sym}
use Rattle.std.proofs.Common.{ap, ◌∙◌, eqb-true, eq-eqb, lt-ltb}
use Rattle.std.specs.Prelude.{Bool, ◌&&◌, ltb}
use Rattle.std.proofs.Math.Bool.{true, false, cond}
use mathlib.Core.List.{List, [], ◌∷◌, ◌++◌, append-nil}
use Prim.Native.Nat.{ℕ, zero, suc, ◌+◌, ◌-◌, ◌≤◌, ◌<◌}
use native.Mathlib.Omega.{arith}
use Rattle.std.proofs.lemmas.Bool.{eqb-false}
use Rattle.std.proofs.Math.Dec.{eqb}
use Rattle.std.proofs.Math.ListN.{get_or}
use Rattle.viable.specs.Grammar.{clash}
use Rattle.words.specs.Tests.{and_l, and_r, and_i, or_r}
use Rattle.sorts.specs.Lists.{field, sorts}
use Rattle.needs.specs.Needed.{arity}
use Rattle.writing.specs.Bytes.{bytes}
use Rattle.smttext.specs.Fill.{filled}
use Rattle.smttext.specs.Names.{kind_at, declared_is, name_of, format_text}
use Rattle.smttext.specs.Text.{on, assertion, part}
use Rattle.smttext.specs.declared.Part.TheVariants.{Assertions}
use Rattle.smtgrammar.specs.declared.Place.{Place}
use Rattle.smtgrammar.specs.State.{limit, Tables, no_line}
use Rattle.smtgrammar.specs.Allowed.{line_ok, ok_at}
use Rattle.smtgrammar.specs.Tokens.{line_text, node_name, asserted_text, text_at}
use Rattle.smtgrammar.specs.Next.{due_from, begun, asserted, next_at}
use Rattle.smtgrammar.specs.Grammar.{size_at}
use Rattle.smtcomplete.specs.Lines.{between, Moves, Reach, both, stay, token}
use Rattle.smtcomplete.specs.Facts.{sort_at}
use Rattle.smtcomplete.specs.Stands.{Given, here, Due, Stands, inside, here-is, operand-here}
use Rattle.smtcomplete.specs.Declaring.{in_part, declaring}
use Rattle.smtcomplete.specs.Defining.{ends}
use Rattle.smtcomplete.specs.Seeks.{seek-least, seek_found}
use Rattle.smtcomplete.specs.Definable.{defined_below, Defined}

-- the text of an assertion by its tokens
shape : (f x y : List ℕ)
    → filled (bytes "(assert (= ((_ to_fp %) %) %))\n") (f ∷ x ∷ y ∷ [])
    ≡ bytes "(assert (= " ++ (bytes "((_ to_fp " ++ (f ++ (bytes ") " ++ (x ++ (bytes ") " ++ (y ++ bytes "))\n"))))))
unfolding filled bytes
shape f x y = refl

-- all that is here is there, and what is asserted is below i
abbrev pub Asserted : List ℕ → List ℕ → ℕ → ℕ → Tables → Place → Type 0
Asserted w m n i t p = Stands w m n (defined_below w m n n) n i t p

module _ (w m : List ℕ) (n : ℕ) (given : Given w m n) where
  there : (j : ℕ) → here m n j ≡ true → defined_below w m n n j ≡ true
  there j e = rw (e, lt-ltb j n (inside w m n j e)) (or_r (declared_is (kind_at w j)) true refl)

  -- nothing waits any more
  pub none-owed : (i : ℕ) (t : Tables) (p : Place) → Asserted w m n i t p → p.owed ≡ limit
  none-owed i t p s = go (eqb p.owed limit) refl
    where
      go : (b : Bool) → eqb p.owed limit ≡ b → p.owed ≡ limit
      go true e = eqb-true p.owed limit e
      go false e =
          let u = s.owed (eqb-false p.owed limit e) in
          clash (sym u.not ∙ there p.owed (here-is w m n p.owed u.owes.inside u.owes.marked))

  module _ (i : ℕ) (t : Tables) (p : Place) (s : Asserted w m n i t p) (h : here m n i ≡ true) (k : kind_at w i ≡ 26) where
    low : i < 65535
    low = let b = inside w m n i h in let z = given.size in omega arith

    is-due : p.due ≡ i
    is-due =
        let f = s.first i (there i h) k (omega arith) in
        let l = low in
        let u = (s.due (λ e. omega arith)).late in
        omega arith

    name : (q : Place) (j : ℕ) → here m n j ≡ true → node_name t q (declaring 15 0 0 0) j ≡ name_of w j
    unfolding node_name name_of
    name q j e =
        let a = s.holds.kinds j in
        let b = s.holds.field_a j in
        rw (a, b, there j e)

    text : asserted_text t (in_part 2 p) (declaring 15 0 0 0)
        ≡ bytes "((_ to_fp " ++ (format_text (sort_at w n (field w i 1)) ++ (bytes ") " ++ (name_of w i ++ (bytes ") " ++ (name_of w (field w i 1) ++ bytes "))\n")))))
    unfolding asserted_text arity
    text =
        let o = operand-here w m n given i 0 h (rw k (omega arith)) in
        let f : get_or t.field_a i 0 ≡ field w i 1 = s.holds.field_a i ∙ rw (there i h) in
        let q : Place = record { part = 2; top = p.top; gap = p.gap; next = p.next; owed = p.owed; due = i; count = p.count } in
        rw (is-due, f, s.holds.sorts (field w i 1) (there (field w i 1) o.0), name q i h, name q (field w i 1) o.0)

    asserts : Reach (between t p) (assertion w (sorts w n) i) (asserted t (in_part 2 p) (declaring 15 0 0 0))
    unfolding assertion size_at ok_at line_ok text_at line_text next_at begun
    asserts =
        let a = token t p no_line 2 (omega arith) (rw (none-owed i t p s, is-due) (lt-ltb i limit low)) in
        let b = token t (in_part 2 p) (declaring 15 0 0 0) 0 (omega arith) refl in
        rw (shape (format_text (sort_at w n (field w i 1))) (name_of w i) (name_of w (field w i 1))) (both a (rw text at b))

    -- the next one
    due-then : (due_from t p.top (i + 1) ≡ limit → ⊥) → Due w m n (defined_below w m n n) (suc i) (due_from t p.top (i + 1))
    unfolding due_from
    due-then z =
        let u = seek_found _ (i + 1) (p.top - (i + 1)) limit z in
        by _ (eqb-true _ 26 u.is) u.from
      where
        by : (j : ℕ) → get_or t.kinds j 0 ≡ 26 → i + 1 ≤ j → Due w m n (defined_below w m n n) (suc i) j
        by j e l = go (defined_below w m n n j) refl
          where
            go : (b : Bool) → defined_below w m n n j ≡ b → Due w m n (defined_below w m n n) (suc i) j
            go true q = record { there = q; kind = sym (s.holds.kinds j ∙ rw q) ∙ e; late = omega arith }
            go false q = let y : ◌≡◌ {A = ℕ} 0 26 = sym (s.holds.kinds j ∙ rw q) ∙ e in absurd (omega arith)

    first_then : (j : ℕ) → defined_below w m n n j ≡ true → kind_at w j ≡ 26 → suc i ≤ j → due_from t p.top (i + 1) ≤ j
    unfolding due_from
    first_then j e f l =
        let u = s.top j e (rw f) in
        seek-least _ j (i + 1) (p.top - (i + 1)) limit (omega arith) (omega arith) (eq-eqb _ 26 (s.holds.kinds j ∙ rw (e, f)))

    asserted-step : Moves (Asserted w m n (suc i)) t p (assertion w (sorts w n) i)
    unfolding asserted
    asserted-step =
        record {
          tables = t;
          place = afterwards i;
          reach = ends (ap (λ (v : ℕ). between t (afterwards v)) is-due) asserts;
          is =
              record {
                holds = s.holds;
                only = s.only;
                gap = s.gap;
                owed = s.owed;
                top = s.top;
                count = s.count;
                first = first_then;
                due = due-then;
              };
        }
      where
        afterwards : ℕ → Place
        afterwards v = record { part = 2; top = p.top; gap = p.gap; next = p.next; owed = p.owed; due = due_from t p.top (v + 1); count = p.count }

  -- a node that is not asserted is passed over
  passed : (i : ℕ) (t : Tables) (p : Place) → on m i && eqb (kind_at w i) 26 ≡ false → Asserted w m n i t p → Asserted w m n (suc i) t p
  passed i t p e s =
      record {
        holds = s.holds;
        only = s.only;
        gap = s.gap;
        owed = s.owed;
        top = s.top;
        count = s.count;
        first = λ j q f l. s.first j q f (omega arith);
        due = λ z. let u = s.due z in let l = u.late in record { there = u.there; kind = u.kind; late = past p.due l u.there u.kind (eqb i p.due) refl };
      }
    where
      past : (j : ℕ) → i ≤ j → defined_below w m n n j ≡ true → kind_at w j ≡ 26 → (b : Bool) → eqb i j ≡ b → suc i ≤ j
      past j l q f true y =
          let x = eqb-true i j y in
          clash (sym (rw x at e) ∙ and_i (on m j) _ (and_r (ltb j n) (on m j) (and_l (here m n j) _ q)) (eq-eqb _ 26 f))
      past j l q f false y = let x = eqb-false i j y in omega arith

  -- THE THIRD PART
  pub all-asserted : (t : Tables) (p : Place) → Defined w m n n t p → (i : ℕ) → i ≤ n → Moves (Asserted w m n i) t p (part Assertions w (sorts w n) m i)
  unfolding part
  all-asserted t p d zero h = record { tables = t; place = p; reach = stay (between t p); is = d.stands }
  all-asserted t p d (suc i) h = go (on m i) (eqb (kind_at w i) 26) refl refl (all-asserted t p d i (omega arith))
    where
      go : (a b : Bool) → on m i ≡ a → eqb (kind_at w i) 26 ≡ b → Moves (Asserted w m n i) t p (part Assertions w (sorts w n) m i)
          → Moves (Asserted w m n (suc i)) t p (part Assertions w (sorts w n) m i ++ cond (a && b) (assertion w (sorts w n) i) [])
      go true true e f s =
          let u = asserted-step i s.tables s.place s.is (rw (lt-ltb i n h) e) (eqb-true (kind_at w i) 26 f) in
          record { tables = u.tables; place = u.place; reach = both s.reach u.reach; is = u.is }
      go true false e f s = record { tables = s.tables; place = s.place; reach = rw append-nil s.reach; is = passed i s.tables s.place (rw (e, f)) s.is }
      go false b e f s = record { tables = s.tables; place = s.place; reach = rw append-nil s.reach; is = passed i s.tables s.place (rw e) s.is }
