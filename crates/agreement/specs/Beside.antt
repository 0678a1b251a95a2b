-- THEOREM 14: WHAT IS TOLD BESIDE A REFUSAL.
-- Every exported call that is lent words to tell goes by one rule (`Tells` in export/specs/Answers). Beside an answer other than 0 these words are 0,
-- but a place that is named and beside a decline its detail, for whatever bytes, records and lists the call is given; a call of lift on a record that was lifted,
-- declined or not, tells the next place and 1
use Rattle.std.specs.Prelude.{◌≡◌, refl, Bool, true, false, cond, ◌&&◌, Option, Some, None, Result, Ok, Err, List, [], ◌∷◌, ℕ, eqb, leb, take, replicate}
use Rattle.std.proofs.Common.{arith}
use Rattle.texts.specs.Bytes.{all}
use Rattle.forms.specs.Classify.{classify_of}
use Rattle.forms.specs.Effects.{effect_of}
use Rattle.forms.specs.Numbers.{number_of, fields_of, effect_fields}
use Rattle.forms.specs.Classify.{Classified}
use Rattle.forms.specs.declared.BadInstruction.TheVariants as bad
use Rattle.forms.specs.Effects.{Affected}
use Rattle.forms.specs.declared.Instruction.{Instruction}
use Rattle.records.specs.Reading as records
use Rattle.image.specs.Answers.{read_of}
use Rattle.words.specs.declared.Wide.{Wide}
use Rattle.image.specs.declared.ImageError.{ImageError}
use Rattle.image.specs.declared.ImageError.TheVariants.{TooWide, Short}
use Rattle.export.specs.Flat.{insn_of, at_least}
use Rattle.export.specs.Answers.{Said, too_short, classified, reasoned, affected, read_into}
use Rattle.details.specs.Why.{detail_of}
use Rattle.lifter.specs.Lift.{lift_of}
use Rattle.export.specs.Lifts.{Lifted, small_is, state_in, done, lifted_in, lifted_of, unchanged}
use Rattle.export.specs.Steps.{Stepped, called_of, told_of, step_of, stepped_of}
use Rattle.export.specs.Values.{wide, image_said}
use Rattle.smtwriter.specs.Written.{written_of}
use Rattle.smtwriter.specs.declared.WriteError.{WriteError}
use Rattle.smtwriter.specs.declared.WriteError.TheVariants as write_error
use Rattle.smtreader.specs.declared.ReadError.{ReadError}
use Rattle.smtreader.specs.declared.ReadError.TheVariants as not-read
use Rattle.export.specs.Texts.{written_said, read_said}

-- Beside a number other than 0, k zeros; or a place and k zeros
abbrev pub Zeros : ℕ → Said → Type 0
Zeros k x = (x.number ≡ 0 → ⊥) → x.words ≡ replicate k 0

pub record PlaceAndZeros (k : ℕ) (words : List ℕ) : Type 0 where
  pub place : ℕ
  pub told : words ≡ place ∷ replicate k 0

-- what is too short, or else what is said
either : (P : Said → Type 0) (t : Bool) (x y : Said) → P x → P y → P (cond t x y)
either P true x y p q = p
either P false x y p q = q

zeros : (k : ℕ) → Zeros k (too_short k)
zeros k h = refl

-- CLASSIFY AND EFFECT
form-zeros : (c : Classified) → Zeros 8 (record { number = number_of c; words = fields_of c })
form-zeros (Ok (Some f)) h = absurd (h refl)
form-zeros (Ok None) h = refl
form-zeros (Err bad.Text) h = refl
form-zeros (Err bad.Operands) h = refl

effect-zeros : (a : Affected) → Zeros 7 (record { number = number_of a; words = effect_fields a })
effect-zeros (Ok (Some e)) h = absurd (h refl)
effect-zeros (Ok None) h = refl
effect-zeros (Err bad.Text) h = refl
effect-zeros (Err bad.Operands) h = refl

pub classify-beside : (flat : List ℕ) → Zeros 8 (classified flat)
unfolding classified
classify-beside flat = either (Zeros 8) (at_least 177 flat) _ (too_short 8) (form-zeros (classify_of (insn_of flat))) (zeros 8)

pub effect-beside : (flat : List ℕ) → Zeros 7 (affected flat)
unfolding affected
effect-beside flat = either (Zeros 7) (at_least 177 flat) _ (too_short 7) (effect-zeros (effect_of (insn_of flat))) (zeros 7)

-- WHY: the detail stands beside 1 alone
pub why-beside : (flat : List ℕ) → eqb (reasoned flat).number 1 ≡ false → (reasoned flat).words ≡ 0 ∷ []
unfolding reasoned detail_of
why-beside flat = way (at_least 177 flat)
  where
    said : Said
    said = record { number = number_of (classify_of (insn_of flat)); words = detail_of (number_of (classify_of (insn_of flat))) (insn_of flat) ∷ [] }

    way : (b : Bool) → eqb (cond b said (too_short 1)).number 1 ≡ false → (cond b said (too_short 1)).words ≡ 0 ∷ []
    way true e = rw e
    way false e = refl

-- THE LIFT OF AN INSTRUCTION'S BYTES: likewise
pub lift-beside : (flat s n m : List ℕ) → eqb (called_of flat s n m).lifted.answer 1 ≡ false → (called_of flat s n m).told ≡ 0 ∷ []
unfolding called_of lifted_of lifted_in detail_of
lift-beside flat s n m = way (at_least 177 flat && at_least 13 s) (all small_is (take 13 s))
  where
    given : Lifted
    given = done (insn_of flat) (lift_of (state_in s) (insn_of flat) n m) s n m

    way : (b c : Bool) → let x = cond b (cond c given (unchanged 5 s n m)) (unchanged 10 s n m) in eqb x.answer 1 ≡ false → x.detail ∷ [] ≡ 0 ∷ []
    way true true e = rw e
    way true false e = refl
    way false c e = refl

-- THE READER OF RECORDS
pub read-beside : (t : records.Reading (Option Instruction)) (flat : List ℕ) → ((read_into t flat).number ≡ 0 → ⊥) → PlaceAndZeros 1 (read_into t flat).words
unfolding read_into
read-beside t flat = way (at_least 177 flat) t
  where
    said : records.Reading (Option Instruction) → Said
    said t = record { number = Rattle.records.specs.Numbers.number_of t; words = Rattle.records.specs.Numbers.place_of t ∷ Rattle.forms.specs.Numbers.bit (Rattle.records.specs.Numbers.record_is t) ∷ [] }

    way : (b : Bool) (t : records.Reading (Option Instruction)) → ((cond b (said t) (too_short 2)).number ≡ 0 → ⊥) → PlaceAndZeros 1 (cond b (said t) (too_short 2)).words
    way true (records.got (Some i) n) h = absurd (h refl)
    way true (records.got None n) h = absurd (h refl)
    way true (records.bad r p) h = record { place = p; told = refl }
    way false t h = record { place = 0; told = refl }

-- THE LIFT OF A RECORD: an answer over 2 is a refusal
told-beside : (r detail next at : ℕ) → leb r 2 ≡ false → PlaceAndZeros 2 (told_of r detail next at)
unfolding told_of
told-beside r detail next at e = rw e (record { place = at; told = refl })

pub step-beside : (t : records.Reading (Option Instruction)) (at : ℕ) (s n m : List ℕ) → let x = stepped_of t at s n m in leb x.lifted.answer 2 ≡ false → PlaceAndZeros 2 x.told
unfolding stepped_of step_of
step-beside t at s n m = way (at_least 13 s) t
  where
    short : Stepped
    short = record { lifted = Rattle.export.specs.Lifts.unchanged 10 s n m; told = 0 ∷ 0 ∷ 0 ∷ [] }

    way : (b : Bool) (t : records.Reading (Option Instruction)) → let x = cond b (step_of t at s n m) short in leb x.lifted.answer 2 ≡ false → PlaceAndZeros 2 x.told
    way true (records.got (Some i) next) e = told-beside (lifted_in i s n m).answer (lifted_in i s n m).detail next at e
    way true (records.got None next) e = record { place = next; told = refl }
    way true (records.bad r p) e = record { place = p; told = refl }
    way false t e = record { place = 0; told = refl }

-- THE IMAGE
pub image-beside : (image : List ℕ) (low high : ℕ) → Zeros 2 (image_said (read_of image (wide low high)))
image-beside image low high = way (read_of image (wide low high))
  where
    way : (r : Result Wide ImageError) → Zeros 2 (image_said r)
    way (Ok p) h = absurd (h refl)
    way (Err TooWide) h = refl
    way (Err Short) h = refl

-- A ROOT'S TEXT: a count of bytes stands beside 0, a node beside 8
pub text-beside : (w : List ℕ) (n root room : ℕ) → let x = written_said (written_of w n root room) in leb x.number 8 ≡ false → x.words ≡ 0 ∷ []
text-beside w n root room = way (written_of w n root room)
  where
    way : (a : Result ℕ WriteError) → leb (written_said a).number 8 ≡ false → (written_said a).words ≡ 0 ∷ []
    way (Ok k) e = let z : true ≡ false = e in let t : ◌≡◌ {A = ℕ} 0 1 = cc in absurd (omega arith)
    way (Err (write_error.Fault i)) e = let z : true ≡ false = e in let t : ◌≡◌ {A = ℕ} 0 1 = cc in absurd (omega arith)
    way (Err write_error.Room) e = refl
    way (Err write_error.NoRoot) e = refl
    way (Err write_error.Short) e = refl

-- WHAT A TEXT SAYS: a count of nodes stands beside 0, a place beside 41
pub reading-beside : (a : Result ℕ ReadError) → (read_said a).number ≡ 6 → (read_said a).words ≡ 0 ∷ []
reading-beside (Ok n) e = absurd (omega arith)
reading-beside (Err (not-read.Stop p)) e = absurd (omega arith)
reading-beside (Err not-read.Room) e = refl
