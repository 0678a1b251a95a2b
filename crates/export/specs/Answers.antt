-- What a call tells beside its answer, and what classify, effect and the reader of records answer and leave.
use Rattle.std.specs.Prelude.{◌≡◌, cond, ◌&&◌, Option, Some, None, List, [], ◌∷◌, ℕ, replicate}
use Rattle.forms.specs.declared.Instruction.{Instruction}
use Rattle.forms.specs.Classify.{classify_of}
use Rattle.forms.specs.Effects.{effect_of}
use Rattle.details.specs.Why.{detail_of}
use Rattle.forms.specs.Numbers.{bit, number_of, fields_of, effect_fields}
use Rattle.records.specs.Numbers as records
use Rattle.records.specs.Reading.{Reading, got, bad}
use Rattle.export.specs.Flat.{insn_of, flat_of, laid, at_least}

-- a number, and the words beside it: beside a refusal each is 0, but a node or a place that is named
pub record Said : Type 0 where
  pub number : ℕ
  pub words : List ℕ

-- 10 and k zeros: what the call works on is too short
abbrev pub too_short : ℕ → Said
too_short k = record { number = 10; words = replicate k 0 }

-- THE RULE OF EVERY CALL THAT IS LENT WORDS TO TELL: they stand in front of `out` beside the number; where `out` has no room for k words, the answer is 10 and nothing is written
pub record Tells (k : ℕ) (x : Said) (out : List ℕ) (r : ℕ) (left : List ℕ) : Type 0 where
  pub answer : r ≡ cond (at_least k out) x.number 10
  pub told : left ≡ cond (at_least k out) (laid out 0 x.words) out

-- the number and the words of an answer of `classify`, and of `x87_effect`
unfoldable pub classified : List ℕ → Said
classified flat =
    cond (at_least 177 flat)
    (record { number = number_of (classify_of (insn_of flat)); words = fields_of (classify_of (insn_of flat)) })
    (too_short 8)

-- the number alone, and the detail beside it
unfoldable pub reasoned : List ℕ → Said
reasoned flat =
    cond (at_least 177 flat)
    (record { number = number_of (classify_of (insn_of flat)); words = detail_of (number_of (classify_of (insn_of flat))) (insn_of flat) ∷ [] })
    (too_short 1)

unfoldable pub affected : List ℕ → Said
affected flat =
    cond (at_least 177 flat)
    (record { number = number_of (effect_of (insn_of flat)); words = effect_fields (effect_of (insn_of flat)) })
    (too_short 7)

abbrev pub Classifies : List ℕ → List ℕ → ℕ → List ℕ → Type 0
Classifies flat out = Tells 8 (classified flat) out

abbrev pub Reasons : List ℕ → List ℕ → ℕ → List ℕ → Type 0
Reasons flat out = Tells 1 (reasoned flat) out

abbrev pub Affects : List ℕ → List ℕ → ℕ → List ℕ → Type 0
Affects flat out = Tells 7 (affected flat) out

-- the number of what stands at a place, its place, and whether it is a record
unfoldable pub read_into : Reading (Option Instruction) → List ℕ → Said
read_into t flat = cond (at_least 177 flat) (record { number = records.number_of t; words = records.place_of t ∷ bit (records.record_is t) ∷ [] }) (too_short 2)

-- a record's instruction in the bytes in front
abbrev pub wrote : Reading (Option Instruction) → List ℕ → List ℕ
wrote (got (Some i) n) l = laid l 0 (flat_of i)
wrote (got None n) l = l
wrote (bad r p) l = l

-- and the bytes of a record's instruction, where both slices have room
pub record ReadsRecord (t : Reading (Option Instruction)) (flat out : List ℕ) (r : ℕ) (flat_left out_left : List ℕ) : Type 0 where
  pub told : Tells 2 (read_into t flat) out r out_left
  pub bytes : flat_left ≡ cond (at_least 2 out && at_least 177 flat) (wrote t flat) flat
