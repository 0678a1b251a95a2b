-- What the table says of a name is what the code says of its shape.
use mathlib.Core.Path.{◌≡◌, refl, sym, subst, ◌∙◌}
use mathlib.Core.Bool.{Bool, true, false, cond}
use mathlib.Core.List.{List, [], ◌∷◌, map}
use Prim.Native.Nat.{ℕ, zero, suc, ◌<◌, ◌≤◌}
use native.Mathlib.Omega.{arith}
use borrow.Author.Tests.{eqb-true, ne_eqb}
use lib.Dec.{eqb}
use lib.ListN.{length, take, get_or}
use Rattle.std.specs.Prelude.{Option, Some, None, option_map, is_none}
use Rattle.details.specs.declared.Reason.{Reason}
use Rattle.details.specs.declared.Reason.TheVariants.{UnknownName, WrongCount, WrongKind, UnknownAddress, WrongWidth}
use Rattle.forms.specs.declared.Family.{Family}
use Rattle.texts.specs.Bytes.{bytes_of}
use Rattle.texts.specs.Letters.{trim_of, same_letters}
use Rattle.forms.specs.declared.Operand.{Operand}
use Rattle.forms.specs.declared.Instruction.{Instruction}
use Rattle.forms.specs.declared.One.{One}
use Rattle.forms.specs.declared.One.TheVariants as one_of_lem
use Rattle.forms.specs.declared.Shape.{Shape}
use Rattle.forms.specs.declared.Two.{Two}
use Rattle.forms.specs.declared.Two.TheVariants as two-of
use Rattle.forms.specs.Operands.{widths_of, no_operand}
use Rattle.forms.specs.Names.{Name, names, find, family_of}
use Rattle.forms.specs.Shapes.{shape_of}
use Rattle.details.specs.Takes.{Takes, anything, place, st0, memory, place-or, ax-or, none, one, two, Row, table}
use Rattle.details.specs.Why.{unknown_in, lists_in, none_long, long_in, some_off, kind_off, address_off, width_off, unknown_name, wrong_count, wrong_kind, unknown_address, wrong_width, reason_of}
use Rattle.details.specs.Inside.{why_one, why_two, alone_of, why_only, why_pair, why_by}

-- the lists of operands that a shape takes, by their number
two_lists : Option Two → List (List Takes)
two_lists None = []
two_lists (Some two-of.Second) = two anything place ∷ []
two_lists (Some two-of.TopAnd) = two st0 place ∷ []
two_lists (Some two-of.Places) = two place place ∷ []

one_lists : Option One → List (List Takes) → List (List Takes)
one_lists None ls = ls
one_lists (Some one_of_lem.Place) ls = one place ∷ ls
one_lists (Some (one_of_lem.PlaceOr ws)) ls = one (place-or (widths_of ws)) ∷ ls
one_lists (Some (one_of_lem.Memory ws)) ls = one (memory (widths_of ws)) ∷ ls
one_lists (Some (one_of_lem.AxOr ws)) ls = one (ax-or (widths_of ws)) ∷ ls

alone_lists : Bool → List (List Takes) → List (List Takes)
alone_lists true ls = none ∷ ls
alone_lists false ls = ls

taken_by : Shape → List (List Takes)
taken_by f = alone_lists f.alone (one_lists f.one (two_lists f.two))

row_of : Name → Row
row_of n = record { text = n.text; lists = taken_by (shape_of n.family) }

-- THE TABLE: row by row it has the names of `classify`, and what their shapes take
table_is : table ≡ map row_of names
unfolding table names row_of shape_of taken_by alone_lists one_lists two_lists
table_is = refl

-- .. of a name that there may be
found_by : Option Family → List (List Takes)
found_by None = []
found_by (Some f) = taken_by (shape_of f)

lists-found : (s : List ℕ) (ns : List Name) → lists_in s (map row_of ns) ≡ found_by (find s ns)
unfolding found_by row_of
lists-found s [] = refl
lists-found s (n ∷ ns) = way (same_letters s n.text) (lists-found s ns)
  where
    way : (t : Bool) → lists_in s (map row_of ns) ≡ found_by (find s ns) → cond t (taken_by (shape_of n.family)) (lists_in s (map row_of ns)) ≡ found_by (cond t (Some n.family) (find s ns))
    way true h = refl
    way false h = h

unknown-found : (s : List ℕ) (ns : List Name) → unknown_in s (map row_of ns) ≡ is_none (find s ns)
unfolding row_of
unknown-found s [] = refl
unknown-found s (n ∷ ns) = way (same_letters s n.text) (unknown-found s ns)
  where
    way : (t : Bool) → unknown_in s (map row_of ns) ≡ is_none (find s ns) → cond t false (unknown_in s (map row_of ns)) ≡ is_none (cond t (Some n.family) (find s ns))
    way true h = refl
    way false h = h

-- a property of numbers of operands, by their number
module _ (P : ℕ → Type 0) (zero-so : P 0) (one-so : P 1) (two-so : P 2) (else-so : (n : ℕ) → eqb n 0 ≡ false → eqb n 1 ≡ false → eqb n 2 ≡ false → P n) (n : ℕ) where
  at-two : (t : Bool) → eqb n 2 ≡ t → eqb n 0 ≡ false → eqb n 1 ≡ false → P n
  at-two true e z o = subst P (sym (eqb-true n 2 e)) two-so
  at-two false e z o = else-so n z o e

  at_one : (t : Bool) → eqb n 1 ≡ t → eqb n 0 ≡ false → P n
  at_one true e z = subst P (sym (eqb-true n 1 e)) one-so
  at_one false e z = at-two (eqb n 2) refl z e

  at_none : (t : Bool) → eqb n 0 ≡ t → P n
  at_none true e = subst P (sym (eqb-true n 0 e)) zero-so
  at_none false e = at_one (eqb n 1) refl e

  pub by_number : P n
  by_number = at_none (eqb n 0) refl

-- no list of two has another length, and no list is added to it where one operand is not so many, or none is not
module _ (n : ℕ) where
  missing-two : eqb n 2 ≡ false → (t : Option Two) → none_long n (two_lists t) ≡ true
  unfolding two_lists
  missing-two e None = refl
  missing-two e (Some two-of.Second) = rw e
  missing-two e (Some two-of.TopAnd) = rw e
  missing-two e (Some two-of.Places) = rw e

  missing-one : eqb n 1 ≡ false → (o : Option One) (ls : List (List Takes)) → none_long n ls ≡ true → none_long n (one_lists o ls) ≡ true
  unfolding one_lists
  missing-one e None ls h = h
  missing-one e (Some one_of_lem.Place) ls h = rw e h
  missing-one e (Some (one_of_lem.PlaceOr ws)) ls h = rw e h
  missing-one e (Some (one_of_lem.Memory ws)) ls h = rw e h
  missing-one e (Some (one_of_lem.AxOr ws)) ls h = rw e h

  missing-none : eqb n 0 ≡ false → (a : Bool) (ls : List (List Takes)) → none_long n ls ≡ true → none_long n (alone_lists a ls) ≡ true
  unfolding alone_lists
  missing-none e true ls h = rw e h
  missing-none e false ls h = h

module _ (os : List Operand) where
  -- the detail from the lists that are taken
  pub why_in : List (List Takes) → ℕ → Option Reason
  why_in ls n =
      cond (none_long n ls) (Some WrongCount)
      (cond (some_off kind_off 0 (long_in n ls) os) (Some WrongKind)
      (cond (some_off address_off 0 (long_in n ls) os) (Some UnknownAddress)
      (cond (some_off width_off 0 (long_in n ls) os) (Some WrongWidth)
      None)))

  without : (a : Bool) (o : Option One) (t : Option Two) → why_in (alone_lists a (one_lists o (two_lists t))) 0 ≡ alone_of a
  unfolding why_in alone_lists
  without true o t = refl
  without false o t = rw (missing-one 0 refl o (two_lists t) (missing-two 0 refl t))

  past-none : (a : Bool) (ls : List (List Takes)) → (why_in (alone_lists a ls) 1 ≡ why_in ls 1) × (why_in (alone_lists a ls) 2 ≡ why_in ls 2)
  unfolding why_in alone_lists
  past-none true ls = (refl, refl)
  past-none false ls = (refl, refl)

  with-one : (o : Option One) (t : Option Two) → why_in (one_lists o (two_lists t)) 1 ≡ why_only o (get_or os 0 no_operand)
  unfolding why_in one_lists why_only why_one kind_off address_off width_off
  with-one None t = rw (missing-two 1 refl t)
  with-one (Some one_of_lem.Place) t = refl
  with-one (Some (one_of_lem.PlaceOr ws)) t = refl
  with-one (Some (one_of_lem.Memory ws)) t = refl
  with-one (Some (one_of_lem.AxOr ws)) t = refl

  past_one : (o : Option One) (ls : List (List Takes)) → why_in (one_lists o ls) 2 ≡ why_in ls 2
  unfolding why_in one_lists
  past_one None ls = refl
  past_one (Some one_of_lem.Place) ls = refl
  past_one (Some (one_of_lem.PlaceOr ws)) ls = refl
  past_one (Some (one_of_lem.Memory ws)) ls = refl
  past_one (Some (one_of_lem.AxOr ws)) ls = refl

  with_two : (t : Option Two) → why_in (two_lists t) 2 ≡ why_pair t (get_or os 0 no_operand) (get_or os 1 no_operand)
  unfolding why_in two_lists why_pair why_one why_two kind_off address_off width_off
  with_two None = refl
  with_two (Some two-of.Second) = refl
  with_two (Some two-of.TopAnd) = refl
  with_two (Some two-of.Places) = refl

  module _ (a : Bool) (o : Option One) (t : Option Two) where
    -- .. by the number of operands
    pub Counted : ℕ → Type 0
    Counted n =
        why_in (alone_lists a (one_lists o (two_lists t))) n
        ≡ cond (eqb n 0) (alone_of a) (cond (eqb n 1) (why_only o (get_or os 0 no_operand)) (cond (eqb n 2) (why_pair t (get_or os 0 no_operand) (get_or os 1 no_operand)) (Some WrongCount)))

    with-more : (n : ℕ) → eqb n 0 ≡ false → eqb n 1 ≡ false → eqb n 2 ≡ false → Counted n
    unfolding Counted why_in
    with-more n x y z = rw (missing-none n x a _ (missing-one n y o _ (missing-two n z t)), x, y, z)

    pub counted : (n : ℕ) → Counted n
    unfolding Counted
    counted n =
        by_number Counted (without a o t)
        ((past-none a _).0 ∙ with-one o t)
        ((past-none a _).1 ∙ past_one o _ ∙ with_two t)
        with-more n

-- THE DETAIL BY THE SHAPE
pub by_shape : (i : Instruction) → reason_of i ≡ why_by (option_map shape_of (family_of (bytes_of i.mnemonic))) i.count i.operands
unfolding reason_of unknown_name wrong_count wrong_kind unknown_address wrong_width why_by family_of why_in Counted found_by taken_by
by_shape i =
    let s = trim_of (bytes_of i.mnemonic) in
    rw (table_is, lists-found s names, unknown-found s names) (way (find s names))
  where
    way : (f : Option Family) → cond (is_none f) (Some UnknownName) (why_in i.operands (found_by f) i.count) ≡ why_by (option_map shape_of f) i.count i.operands
    way None = refl
    way (Some f) = let g = shape_of f in counted i.operands g.alone g.one g.two i.count

-- .. of so many operands
module _ (f : Shape) where
  pub by-none : (os : List Operand) → length os ≡ 0 → why_by (Some f) (length os) os ≡ alone_of f.alone
  unfolding why_by
  by-none [] h = refl
  by-none (a ∷ os) h = absurd (omega arith)

  pub by-one : (os : List Operand) (d : Operand) → length os ≡ 1 → why_by (Some f) (length os) os ≡ why_only f.one (get_or os 0 d)
  unfolding why_by
  by-one [] d h = absurd (omega arith)
  by-one (a ∷ []) d h = refl
  by-one (a ∷ b ∷ os) d h = absurd (omega arith)

  pub by-two : (os : List Operand) (d e : Operand) → length os ≡ 2 → why_by (Some f) (length os) os ≡ why_pair f.two (get_or os 0 d) (get_or os 1 e)
  unfolding why_by
  by-two [] d e h = absurd (omega arith)
  by-two (a ∷ []) d e h = absurd (omega arith)
  by-two (a ∷ b ∷ []) d e h = refl
  by-two (a ∷ b ∷ c ∷ os) d e h = absurd (omega arith)

  pub by-more : (os : List Operand) → 3 ≤ length os → why_by (Some f) (length os) os ≡ Some WrongCount
  unfolding why_by
  by-more [] h = absurd (omega arith)
  by-more (a ∷ []) h = absurd (omega arith)
  by-more (a ∷ b ∷ []) h = absurd (omega arith)
  by-more (a ∷ b ∷ c ∷ os) h =
      let n = length (a ∷ b ∷ c ∷ os) in
      rw (ne_eqb n 0 (λ e. omega arith), ne_eqb n 1 (λ e. omega arith), ne_eqb n 2 (λ e. omega arith))

  -- .. below a count, of three; and where the count is over three
  pub by-below : (n : ℕ) (os : List Operand) → n ≤ 3 → length os ≡ 3 → why_by (Some f) (length (take n os)) (take n os) ≡ why_by (Some f) n os
  unfolding why_by
  by-below n [] h l = absurd (omega arith)
  by-below n (a ∷ []) h l = absurd (omega arith)
  by-below n (a ∷ b ∷ []) h l = absurd (omega arith)
  by-below n (a ∷ b ∷ c ∷ d ∷ os) h l = absurd (omega arith)
  by-below zero (a ∷ b ∷ c ∷ []) h l = refl
  by-below (suc zero) (a ∷ b ∷ c ∷ []) h l = refl
  by-below (suc (suc zero)) (a ∷ b ∷ c ∷ []) h l = refl
  by-below (suc (suc (suc zero))) (a ∷ b ∷ c ∷ []) h l = refl
  by-below (suc (suc (suc (suc n)))) (a ∷ b ∷ c ∷ []) h l = absurd (omega arith)

  pub by-over : (n : ℕ) (os : List Operand) → 3 < n → why_by (Some f) n os ≡ Some WrongCount
  unfolding why_by
  by-over n os h = rw (ne_eqb n 0 (λ e. omega arith), ne_eqb n 1 (λ e. omega arith), ne_eqb n 2 (λ e. omega arith))
