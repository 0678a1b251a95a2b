-- A node of a defined kind that is here can be defined in its turn.
use Rattle.std.specs.Prelude.{◌≡◌, Bool, cond, ◌&&◌, ◌||◌, List, [], ◌∷◌, ◌++◌, ℕ, suc, ◌+◌, ◌-◌, ◌≤◌, ◌<◌, ltb}
use Rattle.std.proofs.Math.Path.{refl}
use Rattle.std.proofs.Common.{sym, ◌∙◌, append_assoc, arith}
use Rattle.std.proofs.Math.Bool.{true, false}
use borrow.Author.Tests.{eqb-true, eqb-false, eq-eqb, ne_eqb, le-leb, lt-ltb, ltb-false, le-ltb}
use Rattle.std.proofs.Math.Dec.{eqb}
use Rattle.std.proofs.Math.ListN.{get_or}
use Rattle.viable.specs.Grammar.{clash}
use Rattle.words.specs.Tests.{and_i, or_l, or_r, or_case}
use Rattle.sorts.specs.Sorts.{is_bits, is_float}
use Rattle.sorts.specs.Lists.{field, sorts}
use Rattle.sorts.specs.Good.{Good, row-good}
use Rattle.needs.specs.Needed.{arity}
use Rattle.writing.specs.Bytes.{bytes, decimal}
use Rattle.smttext.specs.Fill.{filled}
use Rattle.smttext.specs.Names.{kind_at, declared_is, name_from, name_of, defined_name, sort_text}
use Rattle.smttext.specs.Terms.{term_text}
use Rattle.smttext.specs.Text.{definition}
use Rattle.smtgrammar.specs.declared.Place.{Place}
use Rattle.smtgrammar.specs.State.{limit, Tables, no_line}
use Rattle.smtgrammar.specs.Present.{source, suits}
use Rattle.smtgrammar.specs.Allowed.{line_ok, defined_ok, sort_ok, chance_ok, ok_at}
use Rattle.smtgrammar.specs.Tokens.{line_text, text_at}
use Rattle.smtgrammar.specs.Next.{gap_from, begun, defined, next_at}
use Rattle.smtgrammar.specs.Grammar.{size_at}
use Rattle.smtcomplete.specs.Lines.{between, Reach, both, token}
use Rattle.smtcomplete.specs.Facts.{sort_at, own_row, has-sort, sort-small}
use Rattle.smtcomplete.specs.Sources.{has-kind, source_of}
use Rattle.smtcomplete.specs.Stands.{Given, here, Stands, inside, here-is, operand-here, made}
use Rattle.smtcomplete.specs.Declaring.{in_part, declaring}
use Rattle.smtcomplete.specs.Defining.{says, Op, at, defining}
use Rattle.smtcomplete.specs.Floats.{term_of_lem}
use Rattle.smtcomplete.specs.Seeks.{seek-least}

-- the text of a definition by its tokens
shape : (i s x : List ℕ)
    → filled (bytes "(define-fun % () % %)\n") ((bytes "n" ++ i) ∷ s ∷ x ∷ [])
    ≡ bytes "(define-fun n" ++ ((i ++ bytes " ") ++ ((bytes "() " ++ (s ++ bytes " ")) ++ (x ++ bytes ")\n")))
unfolding filled bytes
shape i s x = simp append_assoc

-- its term, by the names of the fields
abbrev term_of : List ℕ → ℕ → List ℕ
term_of w i = term_text (kind_at w i) (field w i 1) (field w i 2) (field w i 3) (name_of w (field w i 1)) (name_of w (field w i 2)) (name_of w (field w i 3))

definition-text : (w s : List ℕ) (i : ℕ) → declared_is (kind_at w i) ≡ false
    → definition w s i ≡ bytes "(define-fun n" ++ ((decimal i ++ bytes " ") ++ ((bytes "() " ++ (sort_text (get_or s i 0) ++ bytes " ")) ++ (term_of w i ++ bytes ")\n")))
unfolding definition name_of name_from defined_name
definition-text w s i d = rw d (shape (decimal i) (sort_text (get_or s i 0)) (term_of w i))

-- the declared nodes that are here, and the defined ones below i
abbrev pub defined_below : List ℕ → List ℕ → ℕ → ℕ → ℕ → Bool
defined_below w m n i j = here m n j && (declared_is (kind_at w j) || ltb j i)

pub record Defined (w m : List ℕ) (n i : ℕ) (t : Tables) (p : Place) : Type 0 where
  pub part : p.part ≤ 1
  pub stands : Stands w m n (defined_below w m n i) i 0 t p

-- what is here and not there is neither declared nor below i
late : (a b c : Bool) → a && (b || c) ≡ false → a ≡ true → (b ≡ false) × (c ≡ false)
late a b c e h = go b c (rw h at e)
  where
    go : (b c : Bool) → (b || c) ≡ false → (b ≡ false) × (c ≡ false)
    go true c e = clash (sym e)
    go false c e = (refl, e)

module _ (w m : List ℕ) (n : ℕ) (given : Given w m n) (i : ℕ) (t : Tables) (p : Place) (d : Defined w m n i t p)
    (h : here m n i ≡ true) (k : declared_is (kind_at w i) ≡ false) where
  pub low : i < 65535
  low = let b = inside w m n i h in let z = given.size in omega arith

  -- a node that is here and below i is there
  there : (q : ℕ) → here m n q ≡ true → q < i → defined_below w m n i q ≡ true
  there q e l = rw (e, lt-ltb q i l) (or_r (declared_is (kind_at w q)) true refl)

  pub absent : defined_below w m n i i ≡ false
  absent = rw (h, k, le-ltb i i (omega arith))

  -- an operand of node i is there, with its name
  op : (j : ℕ) → j < arity (kind_at w i) → Op t i (field w i (suc j)) (sort_at w n (field w i (suc j))) (name_of w (field w i (suc j)))
  unfolding name_of
  op j l =
      let o = operand-here w m n given i j h l in
      let q = field w i (suc j) in
      let e = there q o.0 o.1 in
      let s = d.stands.holds in
      let r = s.kinds q in
      let f = s.field_a q in
      let u = s.lowest q e in
      let x : get_or t.kinds q 0 ≡ kind_at w q = r ∙ rw e in
      let y : get_or t.field_a q 0 ≡ field w q 1 = f ∙ rw e in
      let b = low in
      let g = o.1 in
      record {
        earlier = g;
        low = omega arith;
        there = rw x (ne_eqb (kind_at w q) 0 (has-kind w n given.passes q (inside w m n q o.0)));
        sort = s.sorts q e;
        name = rw (x, y);
        under = omega arith;
      }

  -- what a node that is here has for a first operand that is there is a source
  from_first : (q : ℕ) → here m n q ≡ true → is_float (sort_at w n q) ≡ true → defined_below w m n i (field w q 1) ≡ true → source t.lowest (sort_at w n q) q ≡ true
  from_first q e f l =
      let u = made w m n given q e f in
      let o = (operand-here w m n given q 0 e u.has).1 in
      let v = d.stands.holds.lowest (field w q 1) l in
      source_of t.lowest _ q (omega arith) (sort_at w n q) u.suits

  own-source : is_float (sort_at w n i) ≡ true → source t.lowest (sort_at w n i) i ≡ true
  own-source f =
      let o = operand-here w m n given i 0 h (made w m n given i h f).has in
      from_first i h f (there (field w i 1) o.0 o.1)

  -- what is obliged is not passed over
  waiting : (p.owed ≡ limit → ⊥) → (i ≤ p.owed) × (here m n p.owed ≡ true)
  waiting z =
      let u = d.stands.owed z in
      let e = here-is w m n p.owed u.owes.inside u.owes.marked in
      (ltb-false p.owed i (late (here m n p.owed) (declared_is (kind_at w p.owed)) (ltb p.owed i) u.not e).1, e)

  node_ok : defined_ok t (in_part 1 p) (declaring 6 0 0 0) i ≡ true
  unfolding defined_ok
  node_ok =
      let g = d.stands.gap i absent (omega arith) low in
      let e : get_or t.kinds i 0 ≡ 0 = d.stands.holds.kinds i ∙ rw absent in
      rw (le-leb p.gap i g, lt-ltb i limit low, e) (go (eqb p.owed limit) refl (eqb i p.owed) refl)
    where
      go : (a : Bool) → eqb p.owed limit ≡ a → (b : Bool) → eqb i p.owed ≡ b → (ltb i p.owed || (b && source t.lowest (get_or t.sorts i 0) i)) ≡ true
      go true e b f = or_l (ltb i p.owed) _ (lt-ltb i p.owed (let z = eqb-true p.owed limit e in omega (arith, low)))
      go false e true f =
          let q = eqb-true i p.owed f in
          let u = (d.stands.owed (eqb-false p.owed limit e)).owes in
          let v = rw (← q) at u in
          or_r (ltb i p.owed) _ (rw v.is (own-source v.float))
      go false e false f =
          let l = (waiting (eqb-false p.owed limit e)).0 in
          let q = eqb-false i p.owed f in
          or_l (ltb i p.owed) _ (lt-ltb i p.owed (omega arith))

  -- the number behind node i that is free
  abbrev pub after : ℕ
  after = gap_from t (i + 1)

  pub after-least : (x : ℕ) → defined_below w m n i x ≡ false → i + 1 ≤ x → x < limit → gap_from t (i + 1) ≤ x
  unfolding gap_from
  after-least x e l u =
      seek-least _ x (i + 1) (limit - (i + 1)) limit l (omega arith) (eq-eqb _ 0 (d.stands.holds.kinds x ∙ rw e))

  -- what is obliged next keeps its chance
  chance : chance_ok t (in_part 1 p) (defining i 0 after 7 0 0 0 0) (sort_at w n i) ≡ true
  chance = go (eqb p.owed limit) refl
    where
      -- by the first operand of what is obliged: it is there, it is node i, or it comes later
      by : (q o : ℕ) → o < q → q < n → here m n o ≡ true → get_or t.sorts q 0 ≡ sort_at w n q
          → suits (sort_at w n q) (sort_at w n o) ≡ true → (defined_below w m n i o ≡ true → source t.lowest (sort_at w n q) q ≡ true)
          → (a : Bool) → defined_below w m n i o ≡ a → (b : Bool) → eqb o i ≡ b
          → (source t.lowest (get_or t.sorts q 0) q || (ltb after q || suits (get_or t.sorts q 0) (sort_at w n i))) ≡ true
      by q o l x y e f g true z b c = or_l (source t.lowest (get_or t.sorts q 0) q) _ (rw e (g z))
      by q o l x y e f g false z true c =
          or_r (source t.lowest (get_or t.sorts q 0) q) _ (or_r (ltb after q) _ (rw (e, ← eqb-true o i c) f))
      by q o l x y e f g false z false c =
          let u = ltb-false o i (late (here m n o) (declared_is (kind_at w o)) (ltb o i) z y).1 in
          let v = eqb-false o i c in
          let r = given.size in
          let k = after-least o z (omega arith) (omega arith) in
          or_r (source t.lowest (get_or t.sorts q 0) q) _ (or_l (ltb after q) _ (lt-ltb after q (omega arith)))

      go : (a : Bool) → eqb p.owed limit ≡ a
          → ((a || source t.lowest (get_or t.sorts p.owed 0) p.owed) || (ltb after p.owed || suits (get_or t.sorts p.owed 0) (sort_at w n i))) ≡ true
      go true e = refl
      go false e =
          let z = eqb-false p.owed limit e in
          let u = (d.stands.owed z).owes in
          let x = (waiting z).1 in
          let v = made w m n given p.owed x u.float in
          let o = operand-here w m n given p.owed 0 x v.has in
          by p.owed (field w p.owed 1) o.1 u.inside o.0 u.is v.suits (from_first p.owed x u.float) _ refl _ refl

  good : (is_bits (sort_at w n i) || is_float (sort_at w n i)) ≡ true
  good =
      let b = inside w m n i h in
      let g : Good (sort_at w n i) = rw (own_row w n given.passes i b) (row-good _ _ _ _ _ _ _) in
      or_case (eqb (sort_at w n i) 0) (is_bits (sort_at w n i) || is_float (sort_at w n i)) g.is
      (λ e. absurd (has-sort w n given.passes i b (eqb-true (sort_at w n i) 0 e)))
      (λ e. e)

  sort-ok : sort_ok t (in_part 1 p) (defining i 0 after 7 0 0 0 0) (sort_at w n i) ≡ true
  unfolding sort_ok
  sort-ok = go (eqb (get_or t.sorts i 0) 0) refl
    where
      free : (is_bits (sort_at w n i) || (is_float (sort_at w n i) && source t.lowest (sort_at w n i) i)) ≡ true
      free =
          or_case (is_bits (sort_at w n i)) (is_float (sort_at w n i)) good
          (or_l (is_bits (sort_at w n i)) _)
          (λ f. or_r (is_bits (sort_at w n i)) _ (and_i (is_float (sort_at w n i)) _ f (own-source f)))

      go : (b : Bool) → eqb (get_or t.sorts i 0) 0 ≡ b
          → cond b ((is_bits (sort_at w n i) || (is_float (sort_at w n i) && source t.lowest (sort_at w n i) i)) && chance_ok t (in_part 1 p) (defining i 0 after 7 0 0 0 0) (sort_at w n i))
          (eqb (sort_at w n i) (get_or t.sorts i 0)) ≡ true
      go true e = and_i _ _ free chance
      go false e = eq-eqb _ _ (sym (d.stands.holds.owing i absent (eqb-false _ 0 e)).is)

  -- the tokens before the term
  begins : Reach (between t p) (bytes "(define-fun n") (record { tables = t; place = in_part 1 p; line = declaring 6 0 0 0 })
  unfolding size_at ok_at line_ok text_at line_text next_at begun
  begins =
      let g = d.stands.gap i absent (omega arith) low in
      token t p no_line 1 (omega arith) (rw (le-leb p.part 1 d.part, lt-ltb p.gap limit (omega (arith, low))))

  names : Reach (record { tables = t; place = in_part 1 p; line = declaring 6 0 0 0 }) (decimal i ++ bytes " ") (record { tables = t; place = in_part 1 p; line = defining i 0 after 7 0 0 0 0 })
  unfolding size_at ok_at text_at next_at
  names = token t (in_part 1 p) (declaring 6 0 0 0) i low node_ok

  sorting : Reach (record { tables = t; place = in_part 1 p; line = defining i 0 after 7 0 0 0 0 }) (bytes "() " ++ (sort_text (sort_at w n i) ++ bytes " ")) (at t (in_part 1 p) i (sort_at w n i) after 8 0 0 0 0)
  unfolding size_at ok_at text_at next_at
  sorting =
      let b = sort-small w n given.passes i (inside w m n i h) in
      token t (in_part 1 p) (defining i 0 after 7 0 0 0 0) (sort_at w n i) (omega arith) sort-ok

  term : Reach (at t (in_part 1 p) i (sort_at w n i) after 8 0 0 0 0) (term_of w i ++ bytes ")\n")
      (defined t (in_part 1 p) (defining i (sort_at w n i) after 8 0 0 0 0) (kind_at w i) (field w i 1) (field w i 2) (field w i 3))
  term =
      let b = inside w m n i h in
      let row = own_row w n given.passes i b in
      let u = term_of_lem t (in_part 1 p) i after (field w i 1) (field w i 2) (field w i 3) (sort_at w n (field w i 1)) (sort_at w n (field w i 2)) (sort_at w n (field w i 3))
      (name_of w (field w i 1)) (name_of w (field w i 2)) (name_of w (field w i 3)) (kind_at w i) (given.words _)
      (rw row at (has-sort w n given.passes i b)) (op 0) (op 1) (op 2) k in
      rw row u

  pub defines : Reach (between t p) (definition w (sorts w n) i)
      (defined t (in_part 1 p) (defining i (sort_at w n i) after 8 0 0 0 0) (kind_at w i) (field w i 1) (field w i 2) (field w i 3))
  defines = says (definition-text w (sorts w n) i k) (both begins (both names (both sorting term)))
