-- Every form that `classify` gives fits: by families, with one test of the table of names
use Rattle.std.specs.Prelude.{◌≡◌, Bool, cond, ◌&&◌, List, [], ◌∷◌, ℕ, ◌+◌, ◌*◌, ◌-◌, ◌^◌, leb, ltb, get_or, take, Option, Some, None, Ok, Err}
use Rattle.std.proofs.Math.Path.{refl}
use Rattle.std.proofs.Common.{arith, sym, subst, eqb-true, eq-eqb}
use Rattle.std.proofs.Math.Bool.{true, false}
use Rattle.std.proofs.lemmas.Bool.{false≢true}
use Rattle.std.proofs.Math.Dec.{eqb}
use Rattle.words.specs.Tests.{and_l, and_r, and_i, or_l, or_r, or_case}
use Rattle.texts.specs.Bytes.{bytes, bytes_of, all, valid_of}
use Rattle.texts.specs.Letters.{lower_of, trim_of, same_letters}
use Rattle.texts.specs.Places.{digit_is, closed, digits, number, signed, after, place_of}
use Rattle.forms.specs.declared.Operand.{Operand}
use Rattle.forms.specs.declared.Widths.{Widths}
use Rattle.forms.specs.declared.Widths.TheVariants.{FloatShort, IntArith, StatusWidth}
use Rattle.forms.specs.declared.MemFormat.{MemFormat}
use Rattle.forms.specs.declared.MemFormat.TheVariants.{Float, Integer}
use Rattle.forms.specs.declared.MemorySource.{MemorySource}
use Rattle.forms.specs.declared.MemorySource.TheVariants.{Allowed, Forbidden}
use Rattle.forms.specs.declared.StoreSpec.{StoreSpec}
use Rattle.forms.specs.declared.X87Arith.{X87Arith}
use Rattle.forms.specs.declared.X87Condition.{X87Condition}
use Rattle.forms.specs.declared.Form.{Form}
use Rattle.forms.specs.declared.Form.TheVariants.{PushConst, PushMemory, PushSlot, StoreMemory, StoreSlot, Arith, CompareStatus, CompareFlags, ConditionalMove, StoreStatus, Exchange, Unary}
use Rattle.forms.specs.declared.Instruction.{Instruction}
use Rattle.forms.specs.declared.BadInstruction.TheVariants as bad
use Rattle.forms.specs.declared.Family.{Family}
use Rattle.forms.specs.declared.Family.TheVariants as family
use Rattle.forms.specs.Operands.{Operands, none, one, two, more, ranged_is, spelled_is, slot_of, width_of, widths_of, among, takes_of, ax_of, operands_of, no_operand}
use Rattle.forms.specs.Names.{Name, names, find, family_of}
use Rattle.forms.specs.Families.{load_at, store_slot, store_at, status_at, flag_at, exchange_at, conditional_at, status_to, store_status_at, integer_arith_of, integer_compare_of, arith_one, arith_two, form_of, made_of}
use Rattle.forms.specs.Classify.{Classified, classify_of}
use Rattle.agreement.specs.Fits.{memory_fits, is_memory, source_fits, form_fits, first_of}

-- A place is 0 to 7
PlaceFits : Option ℕ → Type 0
PlaceFits (Some i) = leb i 7 ≡ true
PlaceFits None = Unit {0}

either : (P : Option ℕ → Type 0) (t : Bool) (x y : Option ℕ) → (t ≡ true → P x) → P y → P (cond t x y)
either P true x y f q = f refl
either P false x y f q = q

closed-fits : (v : ℕ) (s : List ℕ) → PlaceFits (closed v s)
unfolding PlaceFits
closed-fits v [] = either PlaceFits (leb v 7) (Some v) None (λ e. e) tt
closed-fits v (b ∷ s) = tt

digits-fits : (v : ℕ) (s : List ℕ) → PlaceFits (digits v s)
unfolding PlaceFits
digits-fits v [] = tt
digits-fits v (b ∷ s) =
    either PlaceFits (digit_is b) _ _ (λ _. digits-fits (v * 10 + (b - 48)) s) (either PlaceFits (eqb b 41) _ _ (λ _. closed-fits v s) tt)

number_fits : (s : List ℕ) → PlaceFits (number s)
unfolding PlaceFits
number_fits [] = tt
number_fits (b ∷ s) = either PlaceFits (digit_is b) _ _ (λ _. digits-fits (b - 48) s) tt

signed-fits : (s : List ℕ) → PlaceFits (signed s)
unfolding PlaceFits
signed-fits [] = tt
signed-fits (b ∷ s) = either PlaceFits (eqb b 43) _ _ (λ _. number_fits s) (number_fits (b ∷ s))

after-fits : (p : List ℕ) (s : List ℕ) → PlaceFits (after p signed s)
unfolding PlaceFits
after-fits [] s = signed-fits s
after-fits (b ∷ p) [] = tt
after-fits (b ∷ p) (x ∷ s) = either PlaceFits (eqb (lower_of x) b) _ _ (λ _. after-fits p s) tt

slot-fits : (o : Operand) → PlaceFits (slot_of o)
unfolding PlaceFits slot_of place_of
slot-fits o = either PlaceFits (eqb o.kind 0) _ _ (λ _. after-fits (bytes "st(") (trim_of (bytes_of o.text))) tt

-- A width is one that the table lists, and its operand's, which is memory
WidthFits : Widths → Operand → Option ℕ → Type 0
WidthFits ws o (Some w) = (takes_of ws w ≡ true) × (is_memory o w ≡ true)
WidthFits ws o None = Unit {0}

width_fits : (ws : Widths) (o : Operand) → WidthFits ws o (width_of ws o)
unfolding WidthFits width_of is_memory
width_fits ws o = way (eqb o.kind 1) (eqb o.known 1) (takes_of ws o.width) refl refl
  where
    way : (x y z : Bool) → eqb o.kind 1 ≡ x → takes_of ws o.width ≡ z → WidthFits ws o (cond (x && (y && z)) (Some o.width) None)
    way true true true p q = (q, rw p (eq-eqb o.width o.width refl))
    way true true false p q = tt
    way true false z p q = tt
    way false y z p q = tt

-- What a test says of all the widths of a table, it says of each that is taken
among-all : (f : ℕ → Bool) (l : List ℕ) (w : ℕ) → all f l ≡ true → among w l ≡ true → f w ≡ true
among-all f [] w e h = let z : ◌≡◌ {A = Bool} false true = h in cc
among-all f (x ∷ []) w e h = subst (λ (y : ℕ). f y ≡ true) (sym (eqb-true w x h)) (and_l (f x) true e)
among-all f (x ∷ y ∷ l) w e h =
    or_case (eqb w x) (among w (y ∷ l)) h
    (λ q. subst (λ (z : ℕ). f z ≡ true) (sym (eqb-true w x q)) (and_l (f x) (all f (y ∷ l)) e))
    (λ q. among-all f (y ∷ l) w (and_r (f x) (all f (y ∷ l)) e) q)

-- A table of widths is one of its format
widths_fit : Widths → MemFormat → Bool
widths_fit ws format = all (λ (w : ℕ). memory_fits w format) (widths_of ws)

taken-fits : (ws : Widths) (format : MemFormat) (o : Operand) (w : ℕ) → widths_fit ws format ≡ true → WidthFits ws o (Some w) → (memory_fits w format && is_memory o w) ≡ true
unfolding widths_fit WidthFits
taken-fits ws format o w e h = and_i (memory_fits w format) (is_memory o w) (among-all (λ (x : ℕ). memory_fits x format) (widths_of ws) w e h.0) h.1

-- A form that takes no operand
plain_fits : Form → Bool
plain_fits (PushConst low high) = ltb (high * 2 ^ 64 + low) (2 ^ 79)
plain_fits (PushMemory width format) = false
plain_fits (PushSlot i) = false
plain_fits (StoreMemory width format pop rounding) = false
plain_fits (StoreSlot i pop) = false
plain_fits (Arith op dst src reversed pop) = false
plain_fits (CompareStatus src pops) = false
plain_fits (CompareFlags i pop) = false
plain_fits (ConditionalMove i condition) = false
plain_fits StoreStatus = false
plain_fits (Exchange i) = false
plain_fits (Unary op) = true

-- A family has forms that fit
family_fits : Family → Bool
family_fits (family.Plain f) = plain_fits f
family_fits family.Exchange = true
family_fits (family.Load format ws) = widths_fit ws format
family_fits (family.Store spec) = widths_fit spec.widths spec.format
family_fits (family.StatusCompare pops memory) = true
family_fits family.PairedCompare = true
family_fits (family.FlagCompare pop) = true
family_fits family.StoreStatus = true
family_fits (family.ConditionalMove condition) = true
family_fits (family.IntegerArith op reversed) = true
family_fits (family.IntegerCompare pops) = true
family_fits (family.Arith op reversed pop) = true

-- THE TABLE OF NAMES: each family fits
names-fit : all (λ (n : Name). family_fits n.family) names ≡ true
unfolding names family_fits plain_fits widths_fit memory_fits
names-fit = refl

-- .. if there is one
found_fits : Option Family → Bool
found_fits None = true
found_fits (Some f) = family_fits f

find-fits : (s : List ℕ) (ns : List Name) → all (λ (n : Name). family_fits n.family) ns ≡ true → found_fits (find s ns) ≡ true
unfolding found_fits family_fits
find-fits s [] e = refl
find-fits s (n ∷ ns) e = way (same_letters s n.text) (find-fits s ns (and_r (family_fits n.family) _ e))
  where
    way : (t : Bool) → found_fits (find s ns) ≡ true → found_fits (cond t (Some n.family) (find s ns)) ≡ true
    way true h = and_l (family_fits n.family) _ e
    way false h = h

-- An answer's form fits the first operand
Fits : Operand → Option Form → Type 0
Fits o (Some f) = form_fits o f ≡ true
Fits o None = Unit {0}

module _ (o : Operand) where
  exchange-fits : (p : Option ℕ) → PlaceFits p → Fits o (exchange_at p)
  unfolding Fits form_fits PlaceFits
  exchange-fits (Some i) h = h
  exchange-fits None h = tt

  load_fits : (format : MemFormat) (ws : Widths) (p : Option ℕ) (w : Option ℕ) → widths_fit ws format ≡ true → PlaceFits p → WidthFits ws o w → Fits o (load_at format p w)
  unfolding Fits form_fits PlaceFits
  load_fits Float ws (Some i) w e h k = h
  load_fits Integer ws (Some i) w e h k = tt
  load_fits format ws None (Some w) e h k = taken-fits ws format o w e k
  load_fits format ws None None e h k = tt

  store-fits : (spec : StoreSpec) (p : Option ℕ) (w : Option ℕ) → widths_fit spec.widths spec.format ≡ true → PlaceFits p → WidthFits spec.widths o w
      → Fits o (store_at spec p w)
  unfolding Fits form_fits PlaceFits
  store-fits spec (Some i) w e h k = way spec.format
    where
      way : (f : MemFormat) → Fits o (store_slot f i spec.pop)
      way Float = h
      way Integer = tt
  store-fits spec None (Some w) e h k = taken-fits spec.widths spec.format o w e k
  store-fits spec None None e h k = tt

  status-fits : (pops : ℕ) (m : MemorySource) (p : Option ℕ) (w : Option ℕ) → PlaceFits p → WidthFits FloatShort o w → Fits o (status_at pops m p w)
  unfolding Fits form_fits source_fits PlaceFits widths_fit memory_fits
  status-fits pops m (Some i) w h k = h
  status-fits pops Allowed None (Some w) h k = taken-fits FloatShort Float o w refl k
  status-fits pops Allowed None None h k = tt
  status-fits pops Forbidden None w h k = tt

  flag-fits : (pop : Bool) (p : Option ℕ) → PlaceFits p → Fits o (flag_at pop p)
  unfolding Fits form_fits PlaceFits
  flag-fits pop (Some i) h = h
  flag-fits pop None h = tt

  conditional-fits : (k : X87Condition) (p q : Option ℕ) → PlaceFits q → Fits o (conditional_at k p q)
  unfolding Fits form_fits PlaceFits
  conditional-fits k (Some d) (Some i) h = way (eqb d 0)
    where
      way : (t : Bool) → Fits o (cond t (Some (ConditionalMove i k)) None)
      way true = h
      way false = tt
  conditional-fits k (Some d) None h = tt
  conditional-fits k None q h = tt

  store-status-fits : Fits o (store_status_at o)
  unfolding Fits form_fits store_status_at WidthFits
  store-status-fits = way (eqb o.kind 0) (ax_of (bytes_of o.text)) (width_of StatusWidth o) refl (width_fits StatusWidth o)
    where
      way : (t u : Bool) (w : Option ℕ) → eqb o.kind 0 ≡ t → WidthFits StatusWidth o w → Fits o (cond t (cond u (Some StoreStatus) None) (status_to w))
      way true true w e h = or_l (eqb o.kind 0) (is_memory o 16) e
      way true false w e h = tt
      way false u (Some w) e h = or_r (eqb o.kind 0) (is_memory o 16) (subst (λ (x : ℕ). is_memory o x ≡ true) (eqb-true w 16 h.0) h.1)
      way false u None e h = tt

  integer-arith-fits : (op : X87Arith) (reversed : Bool) (w : Option ℕ) → WidthFits IntArith o w → Fits o (integer_arith_of op reversed w)
  unfolding Fits form_fits source_fits widths_fit memory_fits
  integer-arith-fits op reversed (Some w) k = taken-fits IntArith Integer o w refl k
  integer-arith-fits op reversed None k = tt

  integer-compare-fits : (pops : ℕ) (w : Option ℕ) → WidthFits IntArith o w → Fits o (integer_compare_of pops w)
  unfolding Fits form_fits source_fits widths_fit memory_fits
  integer-compare-fits pops (Some w) k = taken-fits IntArith Integer o w refl k
  integer-compare-fits pops None k = tt

  arith-one-fits : (op : X87Arith) (reversed pop : Bool) (p : Option ℕ) (w : Option ℕ) → PlaceFits p → WidthFits FloatShort o w → Fits o (arith_one op reversed pop p w)
  unfolding Fits form_fits source_fits PlaceFits widths_fit memory_fits
  arith-one-fits op reversed true (Some i) w h k = and_i (leb i 7) true h refl
  arith-one-fits op reversed false (Some i) w h k = h
  arith-one-fits op reversed true None w h k = tt
  arith-one-fits op reversed false None (Some w) h k = taken-fits FloatShort Float o w refl k
  arith-one-fits op reversed false None None h k = tt

  arith-two-fits : (op : X87Arith) (reversed pop : Bool) (p q : Option ℕ) → PlaceFits p → PlaceFits q → Fits o (arith_two op reversed pop p q)
  unfolding Fits form_fits source_fits PlaceFits
  arith-two-fits op reversed pop (Some d) (Some i) h k = and_i (leb d 7) (leb i 7) h k
  arith-two-fits op reversed pop (Some d) None h k = tt
  arith-two-fits op reversed pop None q h k = tt

-- The first operand is the only one, where there is one
Aims : Operand → Operands → Type 0
Aims o none = Unit {0}
Aims o (one a) = a ≡ o
Aims o (two a b) = Unit {0}
Aims o more = Unit {0}

by_count : (F : Operands → Option Form) (o : Operand) → Fits o (F none) → Fits o (F (one o)) → ((a b : Operand) → Fits o (F (two a b))) → Fits o (F more) → (s : Operands) → Aims o s → Fits o (F s)
unfolding Aims
by_count F o w x y z none h = w
by_count F o w x y z (one a) h = subst (λ (b : Operand). Fits o (F (one b))) (sym h) x
by_count F o w x y z (two a b) h = y a b
by_count F o w x y z more h = z

plain_fits_lem : (f : Form) (o : Operand) → plain_fits f ≡ true → form_fits o f ≡ true
unfolding plain_fits form_fits
plain_fits_lem (PushConst low high) o e = e
plain_fits_lem (PushMemory width format) o e = absurd (false≢true e)
plain_fits_lem (PushSlot i) o e = absurd (false≢true e)
plain_fits_lem (StoreMemory width format pop rounding) o e = absurd (false≢true e)
plain_fits_lem (StoreSlot i pop) o e = absurd (false≢true e)
plain_fits_lem (Arith op dst src reversed pop) o e = absurd (false≢true e)
plain_fits_lem (CompareStatus src pops) o e = absurd (false≢true e)
plain_fits_lem (CompareFlags i pop) o e = absurd (false≢true e)
plain_fits_lem (ConditionalMove i condition) o e = absurd (false≢true e)
plain_fits_lem StoreStatus o e = absurd (false≢true e)
plain_fits_lem (Exchange i) o e = absurd (false≢true e)
plain_fits_lem (Unary op) o e = refl

form-fits : (o : Operand) (f : Family) → family_fits f ≡ true → (s : Operands) → Aims o s → Fits o (form_of f s)
unfolding Fits form_of family_fits form_fits source_fits
form-fits o (family.Plain f) e = by_count (form_of (family.Plain f)) o (plain_fits_lem f o e) tt (λ a b. tt) tt
form-fits o family.Exchange e = by_count (form_of family.Exchange) o refl (exchange-fits o (slot_of o) (slot-fits o)) (λ a b. tt) tt
form-fits o (family.Load format ws) e =
    by_count (form_of (family.Load format ws)) o tt (load_fits o format ws (slot_of o) (width_of ws o) e (slot-fits o) (width_fits ws o)) (λ a b. tt) tt
form-fits o (family.Store spec) e =
    by_count (form_of (family.Store spec)) o tt (store-fits o spec (slot_of o) (width_of spec.widths o) e (slot-fits o) (width_fits spec.widths o)) (λ a b. tt) tt
form-fits o (family.StatusCompare pops m) e =
    by_count (form_of (family.StatusCompare pops m)) o refl (status-fits o pops m (slot_of o) (width_of FloatShort o) (slot-fits o) (width_fits FloatShort o)) (λ a b. tt) tt
form-fits o family.PairedCompare e = by_count (form_of family.PairedCompare) o refl tt (λ a b. tt) tt
form-fits o (family.FlagCompare pop) e =
    by_count (form_of (family.FlagCompare pop)) o tt (flag-fits o pop (slot_of o) (slot-fits o)) (λ a b. flag-fits o pop (slot_of b) (slot-fits b)) tt
form-fits o family.StoreStatus e = by_count (form_of family.StoreStatus) o tt (store-status-fits o) (λ a b. tt) tt
form-fits o (family.ConditionalMove k) e =
    by_count (form_of (family.ConditionalMove k)) o tt tt (λ a b. conditional-fits o k (slot_of a) (slot_of b) (slot-fits b)) tt
form-fits o (family.IntegerArith op reversed) e =
    by_count (form_of (family.IntegerArith op reversed)) o tt (integer-arith-fits o op reversed (width_of IntArith o) (width_fits IntArith o)) (λ a b. tt) tt
form-fits o (family.IntegerCompare pops) e =
    by_count (form_of (family.IntegerCompare pops)) o tt (integer-compare-fits o pops (width_of IntArith o) (width_fits IntArith o)) (λ a b. tt) tt
form-fits o (family.Arith op reversed pop) e =
    by_count (form_of (family.Arith op reversed pop)) o (alone pop)
    (arith-one-fits o op reversed pop (slot_of o) (width_of FloatShort o) (slot-fits o) (width_fits FloatShort o))
    (λ a b. arith-two-fits o op reversed pop (slot_of a) (slot_of b) (slot-fits a) (slot-fits b)) tt
  where
    alone : (pop : Bool) → Fits o (form_of (family.Arith op reversed pop) none)
    alone true = refl
    alone false = tt

made-fits : (o : Operand) (f : Option Family) → found_fits f ≡ true → (s : Operands) → Aims o s → Fits o (made_of f s)
unfolding Fits found_fits
made-fits o None e s h = tt
made-fits o (Some f) e s h = form-fits o f e s h

-- The records below the count, of which the first is the one that a lift reads and writes
aims : (count : ℕ) (s : List Operand) → Aims (get_or s 0 no_operand) (operands_of count s)
unfolding Aims
aims count s = way (eqb count 0) (eqb count 1) (eqb count 2)
  where
    way : (x y z : Bool) → Aims (get_or s 0 no_operand) (cond x none (cond y (one (get_or s 0 no_operand)) (cond z (two (get_or s 0 no_operand) (get_or s 1 no_operand)) more)))
    way true y z = tt
    way false true z = refl
    way false false true = tt
    way false false false = tt

-- EVERY FORM THAT CLASSIFY GIVES FITS
pub classify-fits : (i : Instruction) (f : Form) → classify_of i ≡ Ok (Some f) → form_fits (first_of i) f ≡ true
unfolding Fits classify_of family_of
classify-fits i f = way (leb i.count 3 && all ranged_is (take i.count i.operands)) (valid_of i.mnemonic && all spelled_is (take i.count i.operands))
  where
    made : Option Form
    made = made_of (family_of (bytes_of i.mnemonic)) (operands_of i.count i.operands)

    never : ◌≡◌ {A = ℕ} 0 1 → ⊥
    never z = omega arith

    fits : Fits (first_of i) made
    fits = made-fits (first_of i) (family_of (bytes_of i.mnemonic)) (find-fits (trim_of (bytes_of i.mnemonic)) names names-fit) (operands_of i.count i.operands) (aims i.count i.operands)

    way : (x y : Bool) → ◌≡◌ {A = Classified} (cond x (cond y (Ok made) (Err bad.Text)) (Err bad.Operands)) (Ok (Some f)) → form_fits (first_of i) f ≡ true
    way true true e =
        let m : made ≡ Some f = cc in
        subst (Fits (first_of i)) m fits
    way true false e = let z : ◌≡◌ {A = ℕ} 0 1 = cc in absurd (never z)
    way false y e = let z : ◌≡◌ {A = ℕ} 0 1 = cc in absurd (never z)
