-- COMPLETENESS: the text of the marked nodes of a list that passes is a run of the grammar, and the tables that it leaves hold the compact formula.
use Rattle.std.specs.Prelude.{◌≡◌, refl, Bool, true, false, ◌&&◌, ◌||◌, ℕ, ◌<◌, ◌^◌, ltb, eqb, get_or, Ok}
use Rattle.std.proofs.Math.Path.{sym}
use Rattle.std.proofs.Common.{◌∙◌, arith, eqb-true, le-leb, lt-ltb}
use mathlib.Core.List.{List, [], append-nil}
use Rattle.std.proofs.lemmas.Bool.{eqb-false}
use Rattle.viable.specs.Runs.{end}
use Rattle.lists.specs.Rows.{room_of}
use Rattle.sorts.specs.Lists.{sorts}
use Rattle.sorts.specs.Check.{check_of}
use Rattle.sorts.specs.Laws.{passed-room}
use Rattle.smttext.specs.Names.{kind_at, declared_is}
use Rattle.smttext.specs.Text.{on, part, text_by}
use Rattle.smttext.specs.declared.Part.TheVariants.{Declarations, Definitions, Assertions}
use Rattle.smttext.specs.Subset.{Kept, rank, compact}
use Rattle.smtgrammar.specs.declared.Place.{Place}
use Rattle.smtgrammar.specs.State.{limit, Tables, State, start}
use Rattle.smtgrammar.specs.Grammar.{done, Reads}
use Rattle.smtgrammar.specs.Rows.{rows_below}
use Rattle.smtcomplete.specs.Lines.{between, Moves, both}
use Rattle.smtcomplete.specs.Tally.{tally-some, tally-rank}
use Rattle.smtcomplete.specs.Holds.{Holds, again}
use Rattle.smtcomplete.specs.Stands.{Given, here, inside, here-is}
use Rattle.smtcomplete.specs.Declares.{Declared, all-declared}
use Rattle.smtcomplete.specs.Definable.{defined_below, Defined}
use Rattle.smtcomplete.specs.Defines.{all-defined}
use Rattle.smtcomplete.specs.Asserts.{Asserted, none-owed, all-asserted}
use Rattle.smtcomplete.specs.Compact.{all-rows}

-- the text of the marked nodes below n is read as a whole, and leaves the formula
pub record Whole (w m : List ℕ) (n : ℕ) : Type 0 where
  pub last : State
  pub reads : Reads (text_by w m n) last
  pub rows : rows_below last.tables 65535 ≡ compact w m n
  pub count : last.place.count ≡ rank m n
  pub holds : Holds w m n (here m n) last.tables

module _ (w m : List ℕ) (n : ℕ) (given : Given w m n) where
  -- in the end what is there is what is here
  all_here : (j : ℕ) → here m n j ≡ defined_below w m n n j
  all_here j = go (ltb j n) (on m j) (declared_is (kind_at w j))
    where
      go : (a b c : Bool) → a && b ≡ (a && b) && (c || a)
      go true true true = refl
      go true true false = refl
      go true false c = refl
      go false b c = refl

  none-due : (t : Tables) (p : Place) → Asserted w m n n t p → p.due ≡ limit
  none-due t p s = go (eqb p.due limit) refl
    where
      go : (b : Bool) → eqb p.due limit ≡ b → p.due ≡ limit
      go true e = eqb-true p.due limit e
      go false e =
          let u = s.due (eqb-false p.due limit e) in
          let l = u.late in
          let x = inside w m n p.due (s.only p.due u.there) in
          absurd (omega arith)

  -- a text that says all of it may end
  ending : (t : Tables) (p : Place) → Asserted w m n n t p → done (between t p) ≡ true
  ending t p s =
      let r = given.kept.root in
      let u = tally-some (defined_below w m n n) r (sym (all_here r) ∙ here-is w m n r given.kept.inside given.kept.marked) n given.kept.inside in
      let c = s.count in
      rw (le-leb 1 p.count (omega arith), none-owed w m n given n t p s, none-due t p s)

  -- the three parts, one behind the other
  joined : (a : Moves (Declared w m n n) start.tables start.place (part Declarations w (sorts w n) m n))
      (b : Moves (Defined w m n n) a.tables a.place (part Definitions w (sorts w n) m n))
      (c : Moves (Asserted w m n n) b.tables b.place (part Assertions w (sorts w n) m n)) → Whole w m n
  unfolding text_by
  joined a b c =
      let r = both a.reach (both b.reach c.reach) in
      record {
        last = between c.tables c.place;
        reads = rw append-nil at (r.then [] (between c.tables c.place) (end (ending c.tables c.place c.is)));
        rows = all-rows w m n given c.tables (again w m n _ _ c.tables all_here c.is.holds);
        holds = again w m n _ _ c.tables all_here c.is.holds;
        count = c.is.count ∙ tally-rank (defined_below w m n n) m n (λ j h. sym (all_here j) ∙ rw (lt-ltb j n h));
      }

  whole : Whole w m n
  whole = go (all-declared w m n given n (omega arith))
    where
      next : (a : Moves (Declared w m n n) start.tables start.place (part Declarations w (sorts w n) m n))
          (b : Moves (Defined w m n n) a.tables a.place (part Definitions w (sorts w n) m n)) → Whole w m n
      next a b = joined a b (all-asserted w m n given b.tables b.place b.is n (omega arith))

      go : Moves (Declared w m n n) start.tables start.place (part Declarations w (sorts w n) m n) → Whole w m n
      go a = next a (all-defined w m n given a.tables a.place a.is n (omega arith))

-- THE THEOREM: of a list that passes, whose words are words, with marks that are closed
pub complete : (w m : List ℕ) (n : ℕ) → check_of w n ≡ Ok tt → Kept w m n → ((j : ℕ) → get_or w j 0 < 2 ^ 64) → Whole w m n
unfolding room_of
complete w m n e k h =
    let c = passed-room w n e in
    let l = c.room in
    whole w m n (record { size = omega arith; passes = c.passes; kept = k; words = h })
