-- Family by family: what it makes of its operands is a decline exactly if they have a detail
use Rattle.std.specs.Prelude.{◌≡◌, Bool, cond, ◌&&◌, List, ℕ, Option, Some, None, option_map, is_some, is_none}
use Rattle.details.specs.declared.Reason.{Reason}
use Rattle.details.specs.declared.Reason.TheVariants.{WrongKind}
use Rattle.std.proofs.Math.Path.{refl, ap}
use Rattle.std.proofs.Common.{sym, ◌∙◌, true≢false}
use Rattle.std.proofs.Math.Bool.{true, false}
use Rattle.std.proofs.Math.Dec.{eqb}
use Rattle.texts.specs.Bytes.{bytes_of}
use Rattle.texts.specs.Places.{place_of}
use Rattle.forms.specs.declared.Operand.{Operand}
use Rattle.forms.specs.declared.Widths.{Widths}
use Rattle.forms.specs.declared.Widths.TheVariants.{FloatShort, IntArith, StatusWidth}
use Rattle.forms.specs.declared.MemFormat.{MemFormat}
use Rattle.forms.specs.declared.MemFormat.TheVariants.{Float, Integer}
use Rattle.forms.specs.declared.MemorySource.{MemorySource}
use Rattle.forms.specs.declared.MemorySource.TheVariants.{Allowed, Forbidden}
use Rattle.forms.specs.declared.StoreSpec.{StoreSpec}
use Rattle.forms.specs.declared.X87Arith.{X87Arith}
use Rattle.forms.specs.declared.X87Condition.{X87Condition}
use Rattle.forms.specs.declared.Form.{Form}
use Rattle.forms.specs.declared.Form.TheVariants.{StoreStatus}
use Rattle.forms.specs.declared.Family.{Family}
use Rattle.forms.specs.declared.Family.TheVariants as family
use Rattle.forms.specs.Operands.{slot_of, width_of, takes_of, widths_of, ax_of, operands_of}
use Rattle.forms.specs.Families.{exchange_at, load_at, store_at, status_at, flag_at, conditional_at, status_to, store_status_at, integer_arith_of, integer_compare_of, arith_one, arith_two, form_of, made_of}
use Rattle.forms.specs.Shapes.{moved_one, compared_one, shape_of}
use Rattle.details.specs.Takes.{place, st0, memory, place-or, ax-or, places, st0-alone}
use Rattle.details.specs.Why.{place_is, top_is}
use Rattle.details.specs.Inside.{why_one, why_two, memory_why, both_of, why_only, why_pair, why_by}
use Rattle.details.proofs.Operands.{kinds, memory-why, place-why, st0-why, place-or-why, ax-or-why, two-why}
use Rattle.details.proofs.Shapes.{by_number}

abbrev pub declined_is : Option Form → Bool
declined_is made = is_none made

-- a reason is there
unfoldable pub some_is : Option Reason → Bool
some_is k = is_some k

module _ (o : Operand) where
  -- where a place is taken
  of-place : (at : Option ℕ → Option Form) → ((i : ℕ) → declined_is (at (Some i)) ≡ false) → declined_is (at None) ≡ true → declined_is (at (slot_of o)) ≡ some_is (why_one place o)
  unfolding some_is
  of-place at taken left = rw (place-why o) (way (slot_of o))
    where
      way : (p : Option ℕ) → declined_is (at p) ≡ is_some (cond (place_is p) None (Some WrongKind))
      way (Some i) = taken i
      way None = left

  -- where memory is
  of-memory : (ws : Widths) (at : Option ℕ → Option Form) → ((w : ℕ) → declined_is (at (Some w)) ≡ false) → declined_is (at None) ≡ true
      → declined_is (at (width_of ws o)) ≡ some_is (why_one (memory (widths_of ws)) o)
  unfolding some_is width_of
  of-memory ws at taken left = rw (memory-why o ws) (way (eqb o.kind 1) (eqb o.known 1) (takes_of ws o.width))
    where
      way : (m k t : Bool) → declined_is (at (cond (m && (k && t)) (Some o.width) None)) ≡ is_some (cond m (memory_why k t) (Some WrongKind))
      way true true true = taken o.width
      way true true false = left
      way true false t = left
      way false k t = left

  -- where either is; where memory is, and a register is declined
  of_either : (ws : Widths) (at : Option ℕ → Option ℕ → Option Form) → ((i : ℕ) (w : Option ℕ) → declined_is (at (Some i) w) ≡ false) → ((w : ℕ) → declined_is (at None (Some w)) ≡ false)
      → declined_is (at None None) ≡ true → declined_is (at (slot_of o) (width_of ws o)) ≡ some_is (why_one (place-or (widths_of ws)) o)
  unfolding some_is width_of slot_of
  of_either ws at taken fits left = rw (place-or-why o ws, place-why o, memory-why o ws) (way (eqb o.kind 0) (eqb o.kind 1) (eqb o.known 1) (takes_of ws o.width) (place_of (bytes_of o.text)) (kinds o))
    where
      way : (r m k t : Bool) (p : Option ℕ) → (r ≡ true → m ≡ false) → declined_is (at (cond r p None) (cond (m && (k && t)) (Some o.width) None))
          ≡ is_some (cond r (cond (place_is (cond r p None)) None (Some WrongKind)) (cond m (memory_why k t) (Some WrongKind)))
      way true true k t p h = absurd (true≢false (h refl))
      way true false k t (Some i) h = taken i _
      way true false k t None h = left
      way false true true true p h = fits o.width
      way false true true false p h = left
      way false true false t p h = left
      way false false k t p h = left

  of-integer : (ws : Widths) (at : Option ℕ → Option ℕ → Option Form) → ((i : ℕ) (w : Option ℕ) → declined_is (at (Some i) w) ≡ true) → ((w : ℕ) → declined_is (at None (Some w)) ≡ false)
      → declined_is (at None None) ≡ true → declined_is (at (slot_of o) (width_of ws o)) ≡ some_is (why_one (memory (widths_of ws)) o)
  unfolding some_is width_of slot_of
  of-integer ws at never fits left = rw (memory-why o ws) (way (eqb o.kind 0) (eqb o.kind 1) (eqb o.known 1) (takes_of ws o.width) (place_of (bytes_of o.text)) (kinds o))
    where
      way : (r m k t : Bool) (p : Option ℕ) → (r ≡ true → m ≡ false) → declined_is (at (cond r p None) (cond (m && (k && t)) (Some o.width) None)) ≡ is_some (cond m (memory_why k t) (Some WrongKind))
      way true true k t p h = absurd (true≢false (h refl))
      way true false k t (Some i) h = never i _
      way true false k t None h = left
      way false true true true p h = fits o.width
      way false true true false p h = left
      way false true false t p h = left
      way false false k t p h = left

  loads : (f : MemFormat) (ws : Widths) → declined_is (load_at f (slot_of o) (width_of ws o)) ≡ some_is (why_only (Some (moved_one f ws)) o)
  unfolding why_only
  loads Float ws = of_either ws (load_at Float) (λ i w. refl) (λ w. refl) refl
  loads Integer ws = of-integer ws (load_at Integer) (λ i w. refl) (λ w. refl) refl

  stores : (spec : StoreSpec) → declined_is (store_at spec (slot_of o) (width_of spec.widths o)) ≡ some_is (why_only (Some (moved_one spec.format spec.widths)) o)
  unfolding why_only
  stores spec = way spec.format refl
    where
      same : {f g : MemFormat} → f ≡ g → some_is (why_only (Some (moved_one f spec.widths)) o) ≡ some_is (why_only (Some (moved_one g spec.widths)) o)
      same e = ap (λ (f : MemFormat). some_is (why_only (Some (moved_one f spec.widths)) o)) e

      way : (f : MemFormat) → spec.format ≡ f → declined_is (store_at spec (slot_of o) (width_of spec.widths o)) ≡ some_is (why_only (Some (moved_one spec.format spec.widths)) o)
      way Float e = of_either spec.widths (store_at spec) (λ i w. rw e) (λ w. refl) refl ∙ same (sym e)
      way Integer e = of-integer spec.widths (store_at spec) (λ i w. rw e) (λ w. refl) refl ∙ same (sym e)

  compares : (p : ℕ) (m : MemorySource) → declined_is (status_at p m (slot_of o) (width_of FloatShort o)) ≡ some_is (why_only (Some (compared_one m)) o)
  unfolding why_only
  compares p Allowed = of_either FloatShort (status_at p Allowed) (λ i w. refl) (λ w. refl) refl
  compares p Forbidden = of-place (λ (q : Option ℕ). status_at p Forbidden q (width_of FloatShort o)) (λ i. refl) refl

  pops : (op : X87Arith) (rev : Bool) → declined_is (arith_one op rev true (slot_of o) (width_of FloatShort o)) ≡ some_is (why_one place o)
  pops op rev = of-place (λ (q : Option ℕ). arith_one op rev true q (width_of FloatShort o)) (λ i. refl) refl

  status-stores : declined_is (store_status_at o) ≡ some_is (why_one (ax-or (widths_of StatusWidth)) o)
  unfolding some_is store_status_at
  status-stores = rw (ax-or-why o StatusWidth) (way (eqb o.kind 0) (ax_of (bytes_of o.text)))
    where
      way : (r t : Bool) → declined_is (cond r (cond t (Some StoreStatus) None) (status_to (width_of StatusWidth o))) ≡ is_some (cond r (cond t None (Some WrongKind)) (why_one (memory (widths_of StatusWidth)) o))
      way true true = refl
      way true false = refl
      way false t = of-memory StatusWidth status_to (λ w. refl) refl

-- two places, of which the first may be bound to be the top
module _ (a b : Operand) where
  moves : (k : X87Condition) → declined_is (conditional_at k (slot_of a) (slot_of b)) ≡ some_is (why_two st0 place a b)
  unfolding some_is
  moves k = rw (two-why st0-alone places a b, st0-why a, place-why b) (way (slot_of a) (slot_of b))
    where
      top : (t : Bool) (d : ℕ) → eqb d 0 ≡ t → (q : Option ℕ) → declined_is (conditional_at k (Some d) q) ≡ is_some (both_of (cond t None (Some WrongKind)) (cond (place_is q) None (Some WrongKind)))
      top true d e (Some i) = rw e
      top true d e None = refl
      top false d e (Some i) = rw e
      top false d e None = refl

      way : (p q : Option ℕ) → declined_is (conditional_at k p q) ≡ is_some (both_of (cond (top_is p) None (Some WrongKind)) (cond (place_is q) None (Some WrongKind)))
      way (Some d) q = top (eqb d 0) d refl q
      way None q = refl

  pairs : (op : X87Arith) (rev pop : Bool) → declined_is (arith_two op rev pop (slot_of a) (slot_of b)) ≡ some_is (why_two place place a b)
  unfolding some_is
  pairs op rev pop = rw (two-why places places a b, place-why a, place-why b) (way (slot_of a) (slot_of b))
    where
      way : (p q : Option ℕ) → declined_is (arith_two op rev pop p q) ≡ is_some (both_of (cond (place_is p) None (Some WrongKind)) (cond (place_is q) None (Some WrongKind)))
      way (Some d) (Some i) = refl
      way (Some d) None = refl
      way None q = refl

-- EVERY FAMILY, of any number of operands
module _ (os : List Operand) where
  Exact : Family → ℕ → Type 0
  Exact f n = declined_is (form_of f (operands_of n os)) ≡ some_is (why_by (Some (shape_of f)) n os)

  exact : (f : Family) (n : ℕ) → Exact f n
  unfolding Exact form_of shape_of why_by why_only why_pair some_is
  exact (family.Plain f) n = by_number (Exact (family.Plain f)) refl refl refl (λ n a b c. rw (a, b, c)) n
  exact family.Exchange n = by_number (Exact family.Exchange) refl (of-place _ exchange_at (λ i. refl) refl) refl (λ n a b c. rw (a, b, c)) n
  exact (family.Load f ws) n = by_number (Exact (family.Load f ws)) refl (loads _ f ws) refl (λ n a b c. rw (a, b, c)) n
  exact (family.Store spec) n = by_number (Exact (family.Store spec)) refl (stores _ spec) refl (λ n a b c. rw (a, b, c)) n
  exact (family.StatusCompare p m) n = by_number (Exact (family.StatusCompare p m)) refl (compares _ p m) refl (λ n a b c. rw (a, b, c)) n
  exact family.PairedCompare n = by_number (Exact family.PairedCompare) refl refl refl (λ n a b c. rw (a, b, c)) n
  exact (family.FlagCompare pop) n = by_number (Exact (family.FlagCompare pop)) refl (of-place _ (flag_at pop) (λ i. refl) refl) (of-place _ (flag_at pop) (λ i. refl) refl) (λ n a b c. rw (a, b, c)) n
  exact family.StoreStatus n = by_number (Exact family.StoreStatus) refl (status-stores _) refl (λ n a b c. rw (a, b, c)) n
  exact (family.ConditionalMove k) n = by_number (Exact (family.ConditionalMove k)) refl refl (moves _ _ k) (λ n a b c. rw (a, b, c)) n
  exact (family.IntegerArith op rev) n =
      by_number (Exact (family.IntegerArith op rev)) refl (of-memory _ IntArith (integer_arith_of op rev) (λ w. refl) refl) refl (λ n a b c. rw (a, b, c)) n
  exact (family.IntegerCompare p) n = by_number (Exact (family.IntegerCompare p)) refl (of-memory _ IntArith (integer_compare_of p) (λ w. refl) refl) refl (λ n a b c. rw (a, b, c)) n
  exact (family.Arith op rev true) n = by_number (Exact (family.Arith op rev true)) refl (pops _ op rev) (pairs _ _ op rev true) (λ n a b c. rw (a, b, c)) n
  exact (family.Arith op rev false) n = by_number (Exact (family.Arith op rev false)) refl (of_either _ FloatShort (arith_one op rev false) (λ i w. refl) (λ w. refl) refl) (pairs _ _ op rev false) (λ n a b c. rw (a, b, c)) n

pub exactly : (f : Option Family) (n : ℕ) (os : List Operand) → declined_is (made_of f (operands_of n os)) ≡ some_is (why_by (option_map shape_of f) n os)
unfolding Exact why_by some_is
exactly None n os = refl
exactly (Some f) n os = exact os f n
