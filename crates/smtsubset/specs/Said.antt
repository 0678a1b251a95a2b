-- A run of the grammar is the text of the nodes that it leaves.
use Rattle.std.specs.Prelude.{◌≡◌, refl, Bool, true, false, ◌&&◌, List, ℕ, ◌+◌, ◌*◌, ◌<◌, ltb, eqb}
use Rattle.std.proofs.Common.{sym, ◌∙◌, add-zero, arith, eqb-true, ne_eqb, lt-ltb, ltb-true}
use Rattle.std.proofs.Math.Path.{ap}
use Rattle.std.proofs.lemmas.Bool.{eqb-false}
use Rattle.std.proofs.Math.ListN.{get_or}
use Rattle.sorts.specs.Lists.{field}
use Rattle.smttext.specs.Names.{kind_at}
use Rattle.smttext.specs.Text.{on}
use Rattle.smttext.specs.Subset.{Says}
use Rattle.smtgrammar.specs.State.{limit, Tables, State, start}
use Rattle.smtgrammar.specs.Grammar.{Reads}
use Rattle.smtgrammar.specs.Rows.{there}
use Rattle.smtsound.specs.Tables.{Is, kind_in, first_in, second_in, third_in}
use Rattle.smtsound.specs.Steps.{kept-through, sound-start}
use Rattle.smtsound.specs.Lists.{row_of, list_of, marks_of, row_at, mark-at}
use Rattle.smtsound.specs.Built.{Built, built}
use Rattle.smtsound.specs.Pinned.{Same, pinned}
use Rattle.smtcomplete.specs.Stands.{here}
use Rattle.smtcomplete.specs.Complete.{Whole, complete}

module _ (t : Tables) where
  -- a node that is there has its row in the list, and its mark
  row-of : (j : ℕ) → j < limit → Is t j → (k : ℕ) → k < 4 → get_or (list_of t) (4 * j + k) 0 ≡ get_or (row_of t j) k 0
  row-of j h d k l = row_at t j k h l

  is-there : (j : ℕ) → Is t j → there t j ≡ true
  is-there j d = rw (ne_eqb (kind_in t j) 0 d)

  kind-of : (j : ℕ) → j < limit → Is t j → kind_at (list_of t) j ≡ kind_in t j
  unfolding row_of
  kind-of j h d = ap (λ (m : ℕ). get_or (list_of t) m 0) (sym (add-zero (4 * j))) ∙ row-of j h d 0 (omega arith) ∙ rw (is-there j d)

  first_of : (j : ℕ) → j < limit → Is t j → field (list_of t) j 1 ≡ first_in t j
  unfolding row_of
  first_of j h d = row-of j h d 1 (omega arith) ∙ rw (is-there j d)

  second-of : (j : ℕ) → j < limit → Is t j → field (list_of t) j 2 ≡ second_in t j
  unfolding row_of
  second-of j h d = row-of j h d 2 (omega arith) ∙ rw (is-there j d)

  third_of : (j : ℕ) → j < limit → Is t j → field (list_of t) j 3 ≡ third_in t j
  unfolding row_of
  third_of j h d = row-of j h d 3 (omega arith) ∙ rw (is-there j d)

  here_of : (j : ℕ) → j < limit → Is t j → here (marks_of t) limit j ≡ true
  here_of j h d = rw (lt-ltb j limit h, mark-at t j h, is-there j d)

  -- a number that is not there has none
  none_of : (j : ℕ) → kind_in t j ≡ 0 → here (marks_of t) limit j ≡ false
  none_of j z = go (ltb j limit) refl
    where
      go : (b : Bool) → ltb j limit ≡ b → b && on (marks_of t) j ≡ false
      go true e = rw (mark-at t j (ltb-true j limit e), z)
      go false e = refl

-- what a run leaves, and what the run of its list leaves, are the same nodes
same : (ω : State) (x : List ℕ) → Reads x ω → (b : Built ω) (c : Whole (list_of ω.tables) (marks_of ω.tables) 65535) → Same ω.tables c.last.tables
same ω x r b c =
    record {
      kinds = λ j. kinds j (eqb (kind_in t j) 0) refl;
      field_a = λ j d. sym (c.holds.field_a j ∙ rw (here_of t j (inside j d) d) (first_of t j (inside j d) d));
      field_b = λ j d. sym (c.holds.field_b j ∙ rw (here_of t j (inside j d) d) (second-of t j (inside j d) d));
      field_c = λ j d. sym (c.holds.field_c j ∙ rw (here_of t j (inside j d) d) (third_of t j (inside j d) d));
      sorts = λ j d. sym (c.holds.sorts j (here_of t j (inside j d) d) ∙ b.sorted j (is-there t j d));
    }
  where
    t : Tables
    t = ω.tables

    inside : (j : ℕ) → Is ω.tables j → j < limit
    inside j d = ((kept-through start ω x sound-start r).nodes.nodes j d).inside

    kinds : (j : ℕ) (a : Bool) → eqb (kind_in ω.tables j) 0 ≡ a → kind_in ω.tables j ≡ kind_in c.last.tables j
    kinds j true e = let z = eqb-true (kind_in ω.tables j) 0 e in z ∙ sym (c.holds.kinds j ∙ rw (none_of ω.tables j z))
    kinds j false e =
        let d = eqb-false (kind_in ω.tables j) 0 e in
        sym (c.holds.kinds j ∙ rw (here_of ω.tables j (inside j d) d) (kind-of ω.tables j (inside j d) d))

-- A RUN IS THE TEXT OF ITS NODES
pub record Left (x : List ℕ) (ω : State) : Type 0 where
  pub says : Says x (list_of ω.tables) (marks_of ω.tables) 65535
  pub whole : Whole (list_of ω.tables) (marks_of ω.tables) 65535

pub left : (x : List ℕ) (ω : State) → Reads x ω → Left x ω
left x ω r =
    let b = built x ω r in
    let c = complete (list_of ω.tables) (marks_of ω.tables) 65535 b.passed b.kept b.words in
    record {
      says = record { passed = b.passed; words = b.words; kept = b.kept; text = pinned x _ ω c.last r c.reads (same ω x r b c) };
      whole = c;
    }
