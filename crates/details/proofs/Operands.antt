-- The detail of one operand, and of two, test by test.
use mathlib.Core.Path.{◌≡◌, refl}
use mathlib.Core.Bool.{Bool, true, false, cond, not, ◌&&◌, ◌||◌, true≢false}
use mathlib.Core.List.{List, []}
use Prim.Native.Nat.{ℕ}
use borrow.Author.Tests.{eqb-true}
use lib.Dec.{eqb}
use Rattle.texts.specs.Bytes.{bytes_of}
use Rattle.texts.specs.Places.{place_of}
use Rattle.std.specs.Prelude.{Option, Some, None}
use Rattle.details.specs.declared.Reason.{Reason}
use Rattle.details.specs.declared.Reason.TheVariants.{WrongKind, UnknownAddress, WrongWidth}
use Rattle.forms.specs.declared.Operand.{Operand}
use Rattle.forms.specs.declared.Widths.{Widths}
use Rattle.forms.specs.declared.Widths.TheVariants.{FloatWidths, FloatShort, IntWidths, IntArith, IntStore, StatusWidth}
use Rattle.forms.specs.Operands.{among, slot_of, ax_of, widths_of, takes_of}
use Rattle.details.specs.Takes.{Registers, no_register, places, st0-alone, ax-alone, only, place, st0, memory, place-or, ax-or}
use Rattle.details.specs.Why.{register_is, place_is, top_is, empty_is, kind_off, address_off, width_off}
use Rattle.details.specs.Inside.{why_one, why_two, memory_why, both_of}

-- the tests of an operand, of which no two kinds hold
tests : (register memory taken none known listed : Bool) → (register ≡ true → memory ≡ false)
    → cond (cond register (not taken) (cond memory none true)) (Some WrongKind) (cond (memory && not known) (Some UnknownAddress) (cond (memory && not listed) (Some WrongWidth) None))
    ≡ cond register (cond taken None (Some WrongKind)) (cond memory (cond none (Some WrongKind) (memory_why known listed)) (Some WrongKind))
tests true true taken none known listed h = absurd (true≢false (h refl))
tests true false true none known listed h = refl
tests true false false none known listed h = refl
tests false true taken true known listed h = refl
tests false true taken false true true h = refl
tests false true taken false true false h = refl
tests false true taken false false listed h = refl
tests false false taken none known listed h = refl

-- of two operands that are not memory where they are taken
both-tests : (register memory taken register' memory' taken' known known' listed listed' : Bool) → (register ≡ true → memory ≡ false) → (register' ≡ true → memory' ≡ false)
    → cond (cond register (not taken) (cond memory true true) || cond register' (not taken') (cond memory' true true)) (Some WrongKind)
    (cond ((memory && known) || (memory' && known')) (Some UnknownAddress) (cond ((memory && listed) || (memory' && listed')) (Some WrongWidth) None))
    ≡ both_of (cond register (cond taken None (Some WrongKind)) (Some WrongKind)) (cond register' (cond taken' None (Some WrongKind)) (Some WrongKind))
both-tests true true t r' m' t' k k' l l' h h' = absurd (true≢false (h refl))
both-tests true false false r' m' t' k k' l l' h h' = refl
both-tests true false true true true t' k k' l l' h h' = absurd (true≢false (h' refl))
both-tests true false true true false true k k' l l' h h' = refl
both-tests true false true true false false k k' l l' h h' = refl
both-tests true false true false true t' k k' l l' h h' = refl
both-tests true false true false false t' k k' l l' h h' = refl
both-tests false true t r' m' t' k k' l l' h h' = refl
both-tests false false t r' m' t' k k' l l' h h' = refl

-- every table has a width
some-width : (ws : Widths) → empty_is (widths_of ws) ≡ false
some-width FloatWidths = refl
some-width FloatShort = refl
some-width IntWidths = refl
some-width IntArith = refl
some-width IntStore = refl
some-width StatusWidth = refl

module _ (o : Operand) where
  -- a register is no memory
  pub kinds : eqb o.kind 0 ≡ true → eqb o.kind 1 ≡ false
  kinds e = rw (eqb-true o.kind 0 e)

  whole : (rs : Registers) (ws : List ℕ) → why_one (only rs ws) o
      ≡ cond (eqb o.kind 0) (cond (register_is rs (bytes_of o.text)) None (Some WrongKind)) (cond (eqb o.kind 1) (cond (empty_is ws) (Some WrongKind) (memory_why (eqb o.known 1) (among o.width ws))) (Some WrongKind))
  unfolding why_one kind_off address_off width_off
  whole rs ws = tests (eqb o.kind 0) (eqb o.kind 1) (register_is rs (bytes_of o.text)) (empty_is ws) (eqb o.known 1) (among o.width ws) kinds

  pub memory-why : (ws : Widths) → why_one (memory (widths_of ws)) o ≡ cond (eqb o.kind 1) (memory_why (eqb o.known 1) (takes_of ws o.width)) (Some WrongKind)
  memory-why ws = rw (whole no_register (widths_of ws), some-width ws) (way (eqb o.kind 0) (eqb o.kind 1) kinds)
    where
      way : (r m : Bool) → (r ≡ true → m ≡ false) → cond r (Some WrongKind) (cond m (memory_why (eqb o.known 1) (takes_of ws o.width)) (Some WrongKind)) ≡ cond m (memory_why (eqb o.known 1) (takes_of ws o.width)) (Some WrongKind)
      way true true h = absurd (true≢false (h refl))
      way true false h = refl
      way false m h = refl

  -- a place, by what the operand names
  pub place-why : why_one place o ≡ cond (place_is (slot_of o)) None (Some WrongKind)
  unfolding slot_of
  place-why = rw (whole places []) (way (eqb o.kind 0) (eqb o.kind 1) (place_of (bytes_of o.text)))
    where
      way : (r m : Bool) (p : Option ℕ) → ◌≡◌ {A = Option Reason} (cond r (cond (place_is p) None (Some WrongKind)) (cond m (Some WrongKind) (Some WrongKind))) (cond (place_is (cond r p None)) None (Some WrongKind))
      way true m p = refl
      way false true p = refl
      way false false p = refl

  pub st0-why : why_one st0 o ≡ cond (top_is (slot_of o)) None (Some WrongKind)
  unfolding slot_of
  st0-why = rw (whole st0-alone []) (way (eqb o.kind 0) (eqb o.kind 1) (place_of (bytes_of o.text)))
    where
      way : (r m : Bool) (p : Option ℕ) → ◌≡◌ {A = Option Reason} (cond r (cond (top_is p) None (Some WrongKind)) (cond m (Some WrongKind) (Some WrongKind))) (cond (top_is (cond r p None)) None (Some WrongKind))
      way true m p = refl
      way false true p = refl
      way false false p = refl

  -- a register or memory: the one's detail or the other's
  either-why : (rs : Registers) (ws : Widths) → why_one (only rs (widths_of ws)) o ≡ cond (eqb o.kind 0) (cond (register_is rs (bytes_of o.text)) None (Some WrongKind)) (why_one (memory (widths_of ws)) o)
  either-why rs ws = rw (whole rs (widths_of ws), memory-why ws, some-width ws)

  pub place-or-why : (ws : Widths) → why_one (place-or (widths_of ws)) o ≡ cond (eqb o.kind 0) (why_one place o) (why_one (memory (widths_of ws)) o)
  place-or-why ws = rw (either-why places ws, whole places []) (way (eqb o.kind 0))
    where
      way : (r : Bool) → cond r (cond (place_is (place_of (bytes_of o.text))) None (Some WrongKind)) (why_one (memory (widths_of ws)) o)
          ≡ cond r (cond r (cond (place_is (place_of (bytes_of o.text))) None (Some WrongKind)) (cond (eqb o.kind 1) (Some WrongKind) (Some WrongKind))) (why_one (memory (widths_of ws)) o)
      way true = refl
      way false = refl

  pub ax-or-why : (ws : Widths) → why_one (ax-or (widths_of ws)) o ≡ cond (eqb o.kind 0) (cond (ax_of (bytes_of o.text)) None (Some WrongKind)) (why_one (memory (widths_of ws)) o)
  ax-or-why ws = either-why ax-alone ws

-- two registers
pub two-why : (rs rs' : Registers) (a b : Operand) → why_two (only rs []) (only rs' []) a b ≡ both_of (why_one (only rs []) a) (why_one (only rs' []) b)
unfolding why_two kind_off address_off width_off
two-why rs rs' a b = rw (alone rs a, alone rs' b) (both-tests (eqb a.kind 0) (eqb a.kind 1) (register_is rs (bytes_of a.text)) (eqb b.kind 0) (eqb b.kind 1) (register_is rs' (bytes_of b.text)) _ _ _ _ (kinds a) (kinds b))
  where
    alone : (r : Registers) (o : Operand) → why_one (only r []) o ≡ cond (eqb o.kind 0) (cond (register_is r (bytes_of o.text)) None (Some WrongKind)) (Some WrongKind)
    alone r o = rw (whole o r []) (way (eqb o.kind 1))
      where
        way : (m : Bool) → ◌≡◌ {A = Option Reason} (cond (eqb o.kind 0) (cond (register_is r (bytes_of o.text)) None (Some WrongKind)) (cond m (Some WrongKind) (Some WrongKind))) (cond (eqb o.kind 0) (cond (register_is r (bytes_of o.text)) None (Some WrongKind)) (Some WrongKind))
        way true = refl
        way false = refl
