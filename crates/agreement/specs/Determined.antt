-- THEOREM 5: EVERY PROMISE DETERMINES ITS ANSWER.
-- Any two answers of a public call that meet its contract are equal, and so are the words that they leave in each slice that the call is lent.
-- Each line cites the contract itself, as the toolchain has it of the source: `Post` is what the call's `ensures` claims, at its lifetimes κ and its arguments a,
-- of an answer (r, s) and of the parameters at exit (x, y), of which what is lent is its `now`
use Rattle.std.specs.Prelude.{◌≡◌, refl, Bool, true, false, cond, eqb, Option, Result, Ok, Err, List, [], ◌∷◌, ℕ, ◌<◌}
use Rattle.std.proofs.Common.{arith, sym, ap, ◌∙◌}
use seplogic.Ra.Ura.{Ura}
use types.Logic.{Logic}
use contract.Notation.{connectives}
use Rattle.std.specs.Borrow.{Bor}
use Rattle.records.specs.Reading.{Reading, reading}
use Rattle.records.specs.declared.Refusal.{Refusal}
use Rattle.reader.specs.declared.Reader.{Reader}
use Rattle.lists.specs.Steps.{Built, Does}
use Rattle.lists.specs.declared.State.{State}
use Rattle.lists.specs.declared.LiftCtx.{LiftCtx}
use Rattle.lists.specs.declared.X87Error.{X87Error}
use Rattle.lists.specs.declared.X87Error.TheVariants.{StackOverflow}
use Rattle.moves.specs.Pushes.{pushed_number}
use Rattle.forms.specs.declared.Instruction.{Instruction}
use Rattle.details.specs.Why.{beside_of, detail_of}
use Rattle.lifter.specs.Lift as lifter
use Rattle.lifter.specs.declared.Lifted as lifter-declared
use Rattle.lifter.specs.declared.Lifted.TheVariants as lifted
use Rattle.lifter.specs.declared.Refusal as lifter-refusal
use Rattle.lifter.specs.declared.Refusal.TheVariants as refusal
use Rattle.writing.specs.Bytes.{decimal, bits}
use Rattle.writing.specs.Put.{Wrote}
use Rattle.writing.specs.Fits.{Fits}
use Rattle.writing.specs.declared.Writer.{Writer}
use Rattle.writing.specs.contracts.Writer as writer
use Rattle.words.specs.Wide.{val}
use Rattle.listing.specs.Run.{Ran, Runs}
use Rattle.listing.specs.declared.Stop.{Stop}
use Rattle.sorts.specs.declared.CheckError.{CheckError}
use Rattle.evaluator.specs.Table.{table_after, Tables}
use Rattle.evaluator.specs.Outcome.{column_after}
use Rattle.evaluator.specs.declared.EvalError.{EvalError}
use Rattle.smttext.specs.Names.{name_from, format_text, sort_text}
use Rattle.smttext.specs.Text.{text_of}
use Rattle.smtwriter.specs.Written.{bytes_after, Writes}
use Rattle.smtwriter.specs.declared.WriteError.{WriteError}
use Rattle.smtlive.specs.Apart.{choices-apart}
use Rattle.smttokens.specs.Taken.{shown, one_token}
use Rattle.smtreader.specs.Text.{one-reading}
use Rattle.export.specs.Answers.{Said, Tells, ReadsRecord}
use Rattle.export.specs.Lifts.{Lifted, Lifts}
use Rattle.export.specs.Steps.{Stepped, Steps}
use Rattle.export.specs.Values.{ReadsImage, WritesImage, ChecksNodes, EvaluatesNodes}
use Rattle.export.specs.Flat.{at_least}
use Rattle.export.specs.Texts.{Answers, WritesText, ReadsText}
use Rattle.agreement.specs.Runs.{at_hand}

-- What a contract claims, at lifetimes, of arguments, an answer and the parameters at exit
module _ {L : Type 0} {A R E : L → Type 0} (P : (κ : L) → A κ → R κ → E κ → Type 0) where
  -- .. determines something that is looked at in an answer and at exit
  abbrev pub Fixes : {B : Type 0} → ((κ : L) → R κ → E κ → B) → Type 0
  Fixes f = (κ : L) (a : A κ) (r s : R κ) (x y : E κ) → P κ a r x → P κ a s y → f κ r x ≡ f κ s y

  -- .. the answer; the answer and what one, two, .. parameters that it is lent hold at exit: words, a state, or what a lift works on
  abbrev pub Determined : Type 0
  Determined = (κ : L) (a : A κ) (r s : R κ) (x y : E κ) → P κ a r x → P κ a s y → r ≡ s

  abbrev pub Determined₁ : {B : Type 0} → ((κ : L) → E κ → B) → Type 0
  Determined₁ l = (κ : L) (a : A κ) (r s : R κ) (x y : E κ) → P κ a r x → P κ a s y → (r ≡ s) × (l κ x ≡ l κ y)

  abbrev pub Determined₂ : {B C : Type 0} → ((κ : L) → E κ → B) → ((κ : L) → E κ → C) → Type 0
  Determined₂ l m = (κ : L) (a : A κ) (r s : R κ) (x y : E κ) → P κ a r x → P κ a s y → (r ≡ s) × (l κ x ≡ l κ y) × (m κ x ≡ m κ y)

  abbrev pub Determined₃ : {B C D : Type 0} → ((κ : L) → E κ → B) → ((κ : L) → E κ → C) → ((κ : L) → E κ → D) → Type 0
  Determined₃ l m n = (κ : L) (a : A κ) (r s : R κ) (x y : E κ) → P κ a r x → P κ a s y → (r ≡ s) × (l κ x ≡ l κ y) × (m κ x ≡ m κ y) × (n κ x ≡ n κ y)

  abbrev pub Determined₄ : {B C D F : Type 0} → ((κ : L) → E κ → B) → ((κ : L) → E κ → C) → ((κ : L) → E κ → D) → ((κ : L) → E κ → F) → Type 0
  Determined₄ l m n o =
      (κ : L) (a : A κ) (r s : R κ) (x y : E κ) → P κ a r x → P κ a s y → (r ≡ s) × (l κ x ≡ l κ y) × (m κ x ≡ m κ y) × (n κ x ≡ n κ y) × (o κ x ≡ o κ y)

-- One law for each shape of promise: an equation, and the records of equations
one : {A : Type 0} {x r s : A} → r ≡ x → s ≡ x → r ≡ s
one p q = p ∙ sym q

-- .. that also says how large it can be
within : {x n r s : ℕ} → (r ≡ x) × (r < n) → (s ≡ x) × (s < n) → r ≡ s
within p q = p.0 ∙ sym q.0

both : {A : Type 0} {x r s : A} {y l m : List ℕ} → (r ≡ x) × (l ≡ y) → (s ≡ x) × (m ≡ y) → (r ≡ s) × (l ≡ m)
both p q = (p.0 ∙ sym q.0, p.1 ∙ sym q.1)

-- what is left follows from the answer
follows : {A : Type 0} {x r s : A} {l m : List ℕ} (f : A → List ℕ) → (r ≡ x) × (l ≡ f r) → (s ≡ x) × (m ≡ f s) → (r ≡ s) × (l ≡ m)
follows f p q = let e = p.0 ∙ sym q.0 in (e, p.1 ∙ ap f e ∙ sym q.1)

-- structs with equal fields are equal
reader-same : {r s : Reader} → r.input ≡ s.input → r.at ≡ s.at → r ≡ s
reader-same p q = λ i. record { input = p i; at = q i }

-- what a push answers is known by its number
zero≢two : ◌≡◌ {A = ℕ} 0 2 → ⊥
zero≢two e = omega arith

pushed : (r s : Result Unit X87Error) → pushed_number r ≡ pushed_number s → r ≡ s
pushed (Ok _) (Ok _) e = refl
pushed (Ok _) (Err _) e = absurd (zero≢two e)
pushed (Err _) (Ok _) e = absurd (zero≢two (sym e))
pushed (Err StackOverflow) (Err StackOverflow) e = refl

-- what a lift came to, by its number and the detail that stands in it
abbrev Lowered : Type 0
Lowered = Result lifter-declared.Lifted lifter-refusal.Refusal

unfoldable outcome : ℕ → ℕ → Lowered
outcome n d =
    cond (eqb n 0) (Ok lifted.Modelled)
    (cond (eqb n 1) (Ok (lifted.Declined d))
    (cond (eqb n 2) (Ok lifted.Overflowed)
    (cond (eqb n 3) (Err refusal.BadText)
    (cond (eqb n 4) (Err refusal.BadOperands)
    (cond (eqb n 5) (Err refusal.BadState)
    (cond (eqb n 6) (Err refusal.NodesFull)
    (Err refusal.StatementsFull)))))))

outcome_is : (r : Lowered) → outcome (lifter.number_of r) (lifter.detail_in r) ≡ r
unfolding outcome
outcome_is (Ok lifted.Modelled) = refl
outcome_is (Ok (lifted.Declined d)) = refl
outcome_is (Ok lifted.Overflowed) = refl
outcome_is (Err refusal.BadText) = refl
outcome_is (Err refusal.BadOperands) = refl
outcome_is (Err refusal.BadState) = refl
outcome_is (Err refusal.NodesFull) = refl
outcome_is (Err refusal.StatementsFull) = refl

outcomes : (r s : Lowered) → lifter.number_of r ≡ lifter.number_of s → lifter.detail_in r ≡ lifter.detail_in s → r ≡ s
outcomes r s p q = sym (outcome_is r) ∙ (λ i. outcome (p i) (q i)) ∙ outcome_is s

module _ {b : Built} {old l m : LiftCtx} where
  hands : {v w : ℕ} → Does b old l v → Does b old m w → at_hand l ≡ at_hand m
  hands p q = λ i. record { st = (p.state ∙ sym q.state) i; nodes = (p.list ∙ sym q.list) i; statements = (p.said ∙ sym q.said) i }

  -- the node or the place that is answered, nothing, or what a push or a lift comes to
  does : {v w : ℕ} → Does b old l v → Does b old m w → (v ≡ w) × (at_hand l ≡ at_hand m)
  does p q = (p.number ∙ sym q.number, hands p q)

  does-quietly : {r s : Unit {0}} {v w : ℕ} → Does b old l v → Does b old m w → (r ≡ s) × (at_hand l ≡ at_hand m)
  does-quietly p q = (refl, hands p q)

  does-push : (r s : Result Unit X87Error) → Does b old l (pushed_number r) → Does b old m (pushed_number s) → (r ≡ s) × (at_hand l ≡ at_hand m)
  does-push r s p q = (pushed r s (p.number ∙ sym q.number), hands p q)

  does-lower : {d : ℕ} (r s : Lowered) → lifter.Lowers b d old l r → lifter.Lowers b d old m s → (r ≡ s) × (at_hand l ≡ at_hand m)
  does-lower {d} r s p q =
      let a = p.does.number ∙ sym q.does.number in
      (outcomes r s a (p.detail-is ∙ ap (λ (n : ℕ). beside_of n d) a ∙ sym q.detail-is), hands p.does q.does)

  does-lift : {i : Instruction} (r s : Lowered) → lifter.Lifts b i old l r → lifter.Lifts b i old m s → (r ≡ s) × (at_hand l ≡ at_hand m)
  does-lift {i} r s p q =
      let a = p.does.number ∙ sym q.does.number in
      (outcomes r s a (p.detail-is ∙ ap (λ (n : ℕ). detail_of n i) a ∙ sym q.detail-is), hands p.does q.does)

-- a method of the state
pushes : {x : State} {y r s : Result Unit X87Error} {l m : State} → (l ≡ x) × (r ≡ y) → (m ≡ x) × (s ≡ y) → (r ≡ s) × (l ≡ m)
pushes p q = (p.1 ∙ sym q.1, p.0 ∙ sym q.0)

leaves : {x l m : State} {r s : Unit {0}} → l ≡ x → m ≡ x → (r ≡ s) × (l ≡ m)
leaves p q = (refl, p ∙ sym q)

module _ {r s : ℕ} where
  tells : {k : ℕ} {x : Said} {out l m : List ℕ} → Tells k x out r l → Tells k x out s m → (r ≡ s) × (l ≡ m)
  tells p q = (p.answer ∙ sym q.answer, p.told ∙ sym q.told)

  reads : {t : Reading (Option Instruction)} {flat out l m l₂ m₂ : List ℕ} → ReadsRecord t flat out r l l₂ → ReadsRecord t flat out s m m₂ → (r ≡ s) × (l ≡ m) × (l₂ ≡ m₂)
  reads p q = let w = tells p.told q.told in (w.0, p.bytes ∙ sym q.bytes, w.1)

  lifts : {x : Lifted} {l m l₂ m₂ l₃ m₃ : List ℕ} → Lifts x r l l₂ l₃ → Lifts x s m m₂ m₃ → (r ≡ s) × (l ≡ m) × (l₂ ≡ m₂) × (l₃ ≡ m₃)
  lifts p q = (cc, cc, cc, cc)

  steps : {k : ℕ} {x : Stepped} {state nodes statements out l m l₂ m₂ l₃ m₃ l₄ m₄ : List ℕ} → Steps k x state nodes statements out r l l₂ l₃ l₄ → Steps k x state nodes statements out s m m₂ m₃ m₄
      → (r ≡ s) × (l ≡ m) × (l₂ ≡ m₂) × (l₃ ≡ m₃) × (l₄ ≡ m₄)
  steps p q = let w = lifts p.lifts q.lifts in (w.0, w.1, w.2, w.3, (tells p.told q.told).1)

  writes : {b : List ℕ} {low high : ℕ} {l m : List ℕ} → WritesImage b low high r l → WritesImage b low high s m → (r ≡ s) × (l ≡ m)
  writes p q = (cc, cc)

  evaluates : {w : List ℕ} {n : ℕ} {g col out l m l₂ m₂ : List ℕ} → EvaluatesNodes w n g col out r l l₂ → EvaluatesNodes w n g col out s m m₂ → (r ≡ s) × (l ≡ m) × (l₂ ≡ m₂)
  evaluates p q = let w = tells p.told q.told in (w.0, p.column ∙ sym q.column, w.1)

  texts : {w : List ℕ} {n root : ℕ} {text out l m l₂ m₂ : List ℕ} → WritesText w n root text out r l l₂ → WritesText w n root text out s m m₂ → (r ≡ s) × (l ≡ m) × (l₂ ≡ m₂)
  texts p q = let w = tells p.told q.told in (w.0, p.bytes ∙ sym q.bytes, w.1)

  answers : {x nodes out l m l₂ m₂ : List ℕ} → Answers x nodes out r l l₂ → Answers x nodes out s m m₂ → (r ≡ s) × (l ≡ m) × (l₂ ≡ m₂)
  answers {x} {nodes} {out} {l} {m} p q =
      let w = one-reading x nodes l m p.says q.says p.read q.read in
      let z = tells (rw w.0 at p.told) q.told in
      (z.0, w.1, z.1)

  readings : {x nodes out l m l₂ m₂ : List ℕ} → ReadsText x nodes out r l l₂ → ReadsText x nodes out s m m₂ → (r ≡ s) × (l ≡ m) × (l₂ ≡ m₂)
  readings {out = out} {l} {m} {l₂} {m₂} p q = go (at_least 1 out) refl
    where
      go : (b : Bool) → at_least 1 out ≡ b → (r ≡ s) × (l ≡ m) × (l₂ ≡ m₂)
      go true e = answers (p.answered e) (q.answered e)
      go false e =
          let h = p.short e in
          let k = q.short e in
          (h.0 ∙ sym k.0, h.1 ∙ sym k.1, h.2 ∙ sym k.2)

tables : {w : List ℕ} {n : ℕ} {r s : Result Unit CheckError} {old l m : List ℕ} → Tables w n r old l → Tables w n s old m → (r ≡ s) × (l ≡ m)
tables {w} {n} {old = old} p q = follows (λ (v : Result Unit CheckError). table_after v w n old) (p.verdict, p.table) (q.verdict, q.table)

written : {w : List ℕ} {n root : ℕ} {r s : Result ℕ WriteError} {old l m : List ℕ} → Writes w n root r old l → Writes w n root s old m → (r ≡ s) × (l ≡ m)
written {w} {root = root} {old = old} p q = follows (λ (a : Result ℕ WriteError). bytes_after a (text_of w root) old) (p.answer, p.bytes) (q.answer, q.bytes)

runs : {x : Ran} {r s : Stop} {l m l₂ m₂ : List ℕ} → Runs x r l l₂ → Runs x s m m₂ → (r ≡ s) × (l ≡ m) × (l₂ ≡ m₂)
runs p q = (p.run ∙ sym q.run, p.nodes ∙ sym q.nodes, p.statements ∙ sym q.statements)

-- a writer's place and its bytes
wrote : (text : List ℕ) {s t u : Writer} → Wrote text s t → Wrote text s u → (t.at ≡ u.at) × (t.out.now ≡ u.out.now)
wrote [] p q = let x = p.none refl in let y = q.none refl in (x.0 ∙ sym y.0, x.1 ∙ sym y.1)
wrote (b ∷ text) p q = let x = p.put (omega arith) in let y = q.put (omega arith) in (x.place ∙ sym y.place, x.bytes ∙ sym y.bytes)

fitted : {text old l m : List ℕ} {r s : Option ℕ} → Fits text r old l → Fits text s old m → (r ≡ s) × (l ≡ m)
fitted p q = (p.answer ∙ sym q.answer, p.bytes ∙ sym q.bytes)

-- a reading's two parts are determined by it, and so is where a reader stands
reading-same : {A : Type 0} (r s : Result A Refusal) {n m : ℕ} {x : Reading A} → reading r n ≡ x → reading s m ≡ x → (r ≡ s) × (n ≡ m)
reading-same (Ok v) (Ok w) p q = let e = p ∙ sym q in (cc, cc)
reading-same (Ok v) (Err w) p q = let e = p ∙ sym q in let t : ◌≡◌ {A = ℕ} 0 1 = cc in absurd (omega arith)
reading-same (Err v) (Ok w) p q = let e = p ∙ sym q in let t : ◌≡◌ {A = ℕ} 0 1 = cc in absurd (omega arith)
reading-same (Err v) (Err w) p q = let e = p ∙ sym q in (cc, cc)

placed : {input : Bor (List ℕ)} {at : ℕ} {r s : Reader} → (r.input ≡ input) × (r.at ≡ at) → (s.input ≡ input) × (s.at ≡ at) → r ≡ s
placed p q = reader-same (p.0 ∙ sym q.0) (p.1 ∙ sym q.1)

takes : {x : Reading (Option Instruction)} {input : Bor (List ℕ)} {r s : Result (Option Instruction) Refusal} {y z : Reader}
    → (reading r y.at ≡ x) × (y.input ≡ input) → (reading s z.at ≡ x) × (z.input ≡ input) → (r ≡ s) × (y ≡ z)
takes {r = r} {s} p q = let e = reading-same r s p.0 q.0 in (e.0, reader-same (p.1 ∙ sym q.1) e.1)

-- texts

pub texts·lower : Determined Rattle.texts.proofs.lower.Reads.Post
texts·lower κ a r s x y = one

pub texts·blank : Determined Rattle.texts.proofs.blank.Reads.Post
texts·blank κ a r s x y = one

pub texts·trim : Fixes Rattle.texts.proofs.trim.Reads.Post (λ κ r x. r.now)
texts·trim κ a r s x y = one

pub texts·eq-ignore-ascii-case : Determined Rattle.texts.proofs.eq_ignore_ascii_case.Reads.Post
texts·eq-ignore-ascii-case κ a r s x y = one

pub texts·slot-index : Determined Rattle.texts.proofs.slot_index.Reads.Post
texts·slot-index κ a r s x y = one

pub texts·Text·as-bytes : Fixes Rattle.texts.proofs.Text.as_bytes.Reads.Post (λ κ r x. r.now)
texts·Text·as-bytes κ a r s x y = one

pub texts·Text·is-valid : Determined Rattle.texts.proofs.Text.is_valid.Reads.Post
texts·Text·is-valid κ a r s x y = one

-- words

pub words·from : Determined Rattle.words.proofs.WideFromU64.from.Reads.Post
words·from κ a r s x y = one

pub words·bitand : Determined Rattle.words.proofs.WideBitAnd.bitand.Reads.Post
words·bitand κ a r s x y = one

pub words·bitor : Determined Rattle.words.proofs.WideBitOr.bitor.Reads.Post
words·bitor κ a r s x y = one

pub words·bitxor : Determined Rattle.words.proofs.WideBitXor.bitxor.Reads.Post
words·bitxor κ a r s x y = one

pub words·shr : Determined Rattle.words.proofs.WideShrU64.shr.Reads.Post
words·shr κ a r s x y = one

pub words·shl : Determined Rattle.words.proofs.WideShlU64.shl.Reads.Post
words·shl κ a r s x y = one

pub words·Wide·low : Determined Rattle.words.proofs.Wide.low.Reads.Post
words·Wide·low κ a r s x y = one

pub words·Wide·extract : Determined Rattle.words.proofs.Wide.extract.Reads.Post
words·Wide·extract κ a r s x y = one

pub words·Wide·concat : Determined Rattle.words.proofs.Wide.concat.Reads.Post
words·Wide·concat κ a r s x y = one

pub words·lt : Determined Rattle.words.proofs.lt.Reads.Post
words·lt κ a r s x y = one

pub words·eq : Determined Rattle.words.proofs.eq.Reads.Post
words·eq κ a r s x y = one

-- .. and the comparisons that are derived

pub words·derived-eq : Determined Rattle.words.proofs.WidePartialEq.eq.Reads.Post
words·derived-eq κ a r s x y = one

pub words·derived-partial-cmp : Determined Rattle.words.proofs.WidePartialOrd.partial_cmp.Reads.Post
words·derived-partial-cmp κ a r s x y = one

pub words·derived-cmp : Determined Rattle.words.proofs.WideOrd.cmp.Reads.Post
words·derived-cmp κ a r s x y = one

pub words·Wide·fits : Determined Rattle.words.proofs.Wide.fits.Reads.Post
words·Wide·fits κ a r s x y = one

pub words·le : (N : _) (n : _) → Determined (Rattle.words.proofs.bytes.le.Reads.Post N n)
words·le N n κ a r s x y = within

-- forms

pub forms·classify : Determined Rattle.forms.proofs.classify.Reads.Post
forms·classify κ a r s x y = one

pub forms·slot-index : Determined Rattle.forms.proofs.families.slot_index.Reads.Post
forms·slot-index κ a r s x y = one

pub forms·takes : Determined Rattle.forms.proofs.families.takes.Reads.Post
forms·takes κ a r s x y = one

pub forms·ax : Determined Rattle.forms.proofs.families.ax.Reads.Post
forms·ax κ a r s x y = one

pub forms·shape : Determined Rattle.forms.proofs.names.shape.Reads.Post
forms·shape κ a r s x y = one

pub forms·x87-effect : Determined Rattle.forms.proofs.x87_effect.Reads.Post
forms·x87-effect κ a r s x y = one

-- details

pub details·why : Determined Rattle.details.proofs.why.Reads.Post
details·why κ a r s x y = one

pub details·detail : Determined Rattle.details.proofs.detail.Reads.Post
details·detail κ a r s x y = one

pub details·number : Determined Rattle.details.proofs.number.Reads.Post
details·number κ a r s x y = one

-- records

pub records·Refusal·number : Determined Rattle.records.proofs.Refusal.number.Reads.Post
records·Refusal·number κ a r s x y = one

pub records·read-record : Determined₁ Rattle.records.proofs.read_record.Reads.Post (λ κ x. x.1.0.now)
records·read-record κ a r s x y = reading-same r s

-- reader

pub reader·Reader·new : Determined Rattle.reader.proofs.Reader.new.Reads.Post
reader·Reader·new κ a r s x y = placed

pub reader·Reader·moved : Determined Rattle.reader.proofs.Reader.moved.Reads.Post
reader·Reader·moved κ a r s x y = placed

pub reader·Reader·take : Determined₁ Rattle.reader.proofs.Reader.take.Reads.Post (λ κ x. x.0.now)
reader·Reader·take κ a r s x y = takes

pub reader·Reader·record-at : Determined₁ Rattle.reader.proofs.Reader.record_at.Reads.Post (λ κ x. x.0.now)
reader·Reader·record-at κ a r s x y = takes

-- lists

pub lists·room : Determined Rattle.lists.proofs.room.Reads.Post
lists·room κ a r s x y = one

pub lists·LiftCtx·node : Determined₁ Rattle.lists.proofs.LiftCtx.node.Reads.Post (λ κ x. at_hand x.0.now)
lists·LiftCtx·node κ a r s x y = does

pub lists·LiftCtx·constant : Determined₁ Rattle.lists.proofs.LiftCtx.constant.Reads.Post (λ κ x. at_hand x.0.now)
lists·LiftCtx·constant κ a r s x y = does

pub lists·LiftCtx·statement : Determined₁ Rattle.lists.proofs.LiftCtx.statement.Reads.Post (λ κ x. at_hand x.0.now)
lists·LiftCtx·statement κ a r s x y = does-quietly

pub lists·LiftCtx·fresh : Determined₁ Rattle.lists.proofs.LiftCtx.fresh.Reads.Post (λ κ x. at_hand x.0.now)
lists·LiftCtx·fresh κ a r s x y = does

pub lists·LiftCtx·temporary : Determined₁ Rattle.lists.proofs.LiftCtx.temporary.Reads.Post (λ κ x. at_hand x.0.now)
lists·LiftCtx·temporary κ a r s x y = does

pub lists·LiftCtx·ensure : Determined₁ Rattle.lists.proofs.LiftCtx.ensure.Reads.Post (λ κ x. at_hand x.0.now)
lists·LiftCtx·ensure κ a r s x y = does-quietly

pub lists·LiftCtx·read : Determined₁ Rattle.lists.proofs.LiftCtx.read.Reads.Post (λ κ x. at_hand x.0.now)
lists·LiftCtx·read κ a r s x y = does

pub lists·LiftCtx·write : Determined₁ Rattle.lists.proofs.LiftCtx.write.Reads.Post (λ κ x. at_hand x.0.now)
lists·LiftCtx·write κ a r s x y = does-quietly

pub lists·LiftCtx·pop : Determined₁ Rattle.lists.proofs.LiftCtx.pop.Reads.Post (λ κ x. at_hand x.0.now)
lists·LiftCtx·pop κ a r s x y = does

pub lists·LiftCtx·exchange : Determined₁ Rattle.lists.proofs.LiftCtx.exchange.Reads.Post (λ κ x. at_hand x.0.now)
lists·LiftCtx·exchange κ a r s x y = does-quietly

pub lists·State·new : Determined Rattle.lists.proofs.State.new.Reads.Post
lists·State·new κ a r s x y = one

pub lists·State·havoc : Determined₁ Rattle.lists.proofs.State.havoc.Reads.Post (λ κ x. x.0.now)
lists·State·havoc κ a r s x y = leaves

pub lists·State·push : Determined₁ Rattle.lists.proofs.State.push.Reads.Post (λ κ x. x.0.now)
lists·State·push κ a r s x y = pushes

pub lists·State·drop-top : Determined₁ Rattle.lists.proofs.State.drop_top.Reads.Post (λ κ x. x.0.now)
lists·State·drop-top κ a r s x y = leaves

pub lists·State·valid : Determined Rattle.lists.proofs.State.valid.Reads.Post
lists·State·valid κ a r s x y = one

-- exprs

pub exprs·slot-var : Determined₁ Rattle.exprs.proofs.slot_var.Reads.Post (λ κ x. at_hand x.0.now)
exprs·slot-var κ a r s x y = does

pub exprs·fsw : Determined₁ Rattle.exprs.proofs.fsw.Reads.Post (λ κ x. at_hand x.0.now)
exprs·fsw κ a r s x y = does

pub exprs·flag : Determined₁ Rattle.exprs.proofs.flag.Reads.Post (λ κ x. at_hand x.0.now)
exprs·flag κ a r s x y = does

pub exprs·konst : Determined₁ Rattle.exprs.proofs.konst.Reads.Post (λ κ x. at_hand x.0.now)
exprs·konst κ a r s x y = does

pub exprs·bv-and : Determined₁ Rattle.exprs.proofs.bv_and.Reads.Post (λ κ x. at_hand x.0.now)
exprs·bv-and κ a r s x y = does

pub exprs·bv-xor : Determined₁ Rattle.exprs.proofs.bv_xor.Reads.Post (λ κ x. at_hand x.0.now)
exprs·bv-xor κ a r s x y = does

pub exprs·eq : Determined₁ Rattle.exprs.proofs.eq.Reads.Post (λ κ x. at_hand x.0.now)
exprs·eq κ a r s x y = does

pub exprs·bool-and : Determined₁ Rattle.exprs.proofs.bool_and.Reads.Post (λ κ x. at_hand x.0.now)
exprs·bool-and κ a r s x y = does

pub exprs·bool-or : Determined₁ Rattle.exprs.proofs.bool_or.Reads.Post (λ κ x. at_hand x.0.now)
exprs·bool-or κ a r s x y = does

pub exprs·bool-not : Determined₁ Rattle.exprs.proofs.bool_not.Reads.Post (λ κ x. at_hand x.0.now)
exprs·bool-not κ a r s x y = does

pub exprs·ite : Determined₁ Rattle.exprs.proofs.ite.Reads.Post (λ κ x. at_hand x.0.now)
exprs·ite κ a r s x y = does

pub exprs·extract : Determined₁ Rattle.exprs.proofs.extract.Reads.Post (λ κ x. at_hand x.0.now)
exprs·extract κ a r s x y = does

pub exprs·concat : Determined₁ Rattle.exprs.proofs.concat.Reads.Post (λ κ x. at_hand x.0.now)
exprs·concat κ a r s x y = does

pub exprs·feq : Determined₁ Rattle.exprs.proofs.feq.Reads.Post (λ κ x. at_hand x.0.now)
exprs·feq κ a r s x y = does

pub exprs·flt : Determined₁ Rattle.exprs.proofs.flt.Reads.Post (λ κ x. at_hand x.0.now)
exprs·flt κ a r s x y = does

pub exprs·fisnan : Determined₁ Rattle.exprs.proofs.fisnan.Reads.Post (λ κ x. at_hand x.0.now)
exprs·fisnan κ a r s x y = does

pub exprs·fsqrt : Determined₁ Rattle.exprs.proofs.fsqrt.Reads.Post (λ κ x. at_hand x.0.now)
exprs·fsqrt κ a r s x y = does

pub exprs·fround-to-integral : Determined₁ Rattle.exprs.proofs.fround_to_integral.Reads.Post (λ κ x. at_hand x.0.now)
exprs·fround-to-integral κ a r s x y = does

pub exprs·bv-to-fp : Determined₁ Rattle.exprs.proofs.bv_to_fp.Reads.Post (λ κ x. at_hand x.0.now)
exprs·bv-to-fp κ a r s x y = does

pub exprs·fp-to-ieee-bv : Determined₁ Rattle.exprs.proofs.fp_to_ieee_bv.Reads.Post (λ κ x. at_hand x.0.now)
exprs·fp-to-ieee-bv κ a r s x y = does

pub exprs·fp-to-sbv : Determined₁ Rattle.exprs.proofs.fp_to_sbv.Reads.Post (λ κ x. at_hand x.0.now)
exprs·fp-to-sbv κ a r s x y = does

pub exprs·sbv-to-fp : Determined₁ Rattle.exprs.proofs.sbv_to_fp.Reads.Post (λ κ x. at_hand x.0.now)
exprs·sbv-to-fp κ a r s x y = does

pub exprs·fp-to-fp : Determined₁ Rattle.exprs.proofs.fp_to_fp.Reads.Post (λ κ x. at_hand x.0.now)
exprs·fp-to-fp κ a r s x y = does

pub exprs·is-image : Determined Rattle.exprs.proofs.is_image.Reads.Post
exprs·is-image κ a r s x y = one

pub exprs·as-extended : Determined₁ Rattle.exprs.proofs.as_extended.Reads.Post (λ κ x. at_hand x.0.now)
exprs·as-extended κ a r s x y = does

pub exprs·from-extended : Determined₁ Rattle.exprs.proofs.from_extended.Reads.Post (λ κ x. at_hand x.0.now)
exprs·from-extended κ a r s x y = does

pub exprs·extended-arith : Determined₁ Rattle.exprs.proofs.extended_arith.Reads.Post (λ κ x. at_hand x.0.now)
exprs·extended-arith κ a r s x y = does

pub exprs·extended-from-memory : Determined₁ Rattle.exprs.proofs.extended_from_memory.Reads.Post (λ κ x. at_hand x.0.now)
exprs·extended-from-memory κ a r s x y = does

pub exprs·extended-to-memory : Determined₁ Rattle.exprs.proofs.extended_to_memory.Reads.Post (λ κ x. at_hand x.0.now)
exprs·extended-to-memory κ a r s x y = does

pub exprs·to-slot : Determined₁ Rattle.exprs.proofs.to_slot.Reads.Post (λ κ x. at_hand x.0.now)
exprs·to-slot κ a r s x y = does

pub exprs·from-slot : Determined₁ Rattle.exprs.proofs.from_slot.Reads.Post (λ κ x. at_hand x.0.now)
exprs·from-slot κ a r s x y = does

pub exprs·unary : Determined₁ Rattle.exprs.proofs.unary.Reads.Post (λ κ x. at_hand x.0.now)
exprs·unary κ a r s x y = does

pub exprs·unordered : Determined₁ Rattle.exprs.proofs.unordered.Reads.Post (λ κ x. at_hand x.0.now)
exprs·unordered κ a r s x y = does

pub exprs·predicate : Determined₁ Rattle.exprs.proofs.predicate.Reads.Post (λ κ x. at_hand x.0.now)
exprs·predicate κ a r s x y = does

pub exprs·x87-status-word : Determined₁ Rattle.exprs.proofs.x87_status_word.Reads.Post (λ κ x. at_hand x.0.now)
exprs·x87-status-word κ a r s x y = does

-- memory

pub memory·Site·of : Determined Rattle.memory.proofs.Site.of.Reads.Post
memory·Site·of κ a r s x y = one

pub memory·x87-memory-read : Determined₁ Rattle.memory.proofs.x87_memory_read.Reads.Post (λ κ x. at_hand x.0.now)
memory·x87-memory-read κ a r s x y = does

pub memory·source : Determined₁ Rattle.memory.proofs.source.Reads.Post (λ κ x. at_hand x.0.now)
memory·source κ a r s x y = does

pub memory·x87-store-memory : Determined₁ Rattle.memory.proofs.x87_store_memory.Reads.Post (λ κ x. at_hand x.0.now)
memory·x87-store-memory κ a r s x y = does-quietly

pub memory·x87-store-status : Determined₁ Rattle.memory.proofs.x87_store_status.Reads.Post (λ κ x. at_hand x.0.now)
memory·x87-store-status κ a r s x y = does-quietly

-- moves

pub moves·x87-arith : Determined₁ Rattle.moves.proofs.x87_arith.Reads.Post (λ κ x. at_hand x.0.now)
moves·x87-arith κ a r s x y = does-quietly

pub moves·x87-compare-status : Determined₁ Rattle.moves.proofs.x87_compare_status.Reads.Post (λ κ x. at_hand x.0.now)
moves·x87-compare-status κ a r s x y = does-quietly

pub moves·x87-compare-flags : Determined₁ Rattle.moves.proofs.x87_compare_flags.Reads.Post (λ κ x. at_hand x.0.now)
moves·x87-compare-flags κ a r s x y = does-quietly

pub moves·x87-conditional-move : Determined₁ Rattle.moves.proofs.x87_conditional_move.Reads.Post (λ κ x. at_hand x.0.now)
moves·x87-conditional-move κ a r s x y = does-quietly

pub moves·x87-unary : Determined₁ Rattle.moves.proofs.x87_unary.Reads.Post (λ κ x. at_hand x.0.now)
moves·x87-unary κ a r s x y = does-quietly

pub moves·store-slot : Determined₁ Rattle.moves.proofs.store_slot.Reads.Post (λ κ x. at_hand x.0.now)
moves·store-slot κ a r s x y = does-quietly

pub moves·decline-x87 : Determined₁ Rattle.moves.proofs.decline_x87.Reads.Post (λ κ x. at_hand x.0.now)
moves·decline-x87 κ a r s x y = does-quietly

pub moves·push-const : Determined₁ Rattle.moves.proofs.push_const.Reads.Post (λ κ x. at_hand x.0.now)
moves·push-const κ a r s x y = does-push r s

pub moves·push-slot : Determined₁ Rattle.moves.proofs.push_slot.Reads.Post (λ κ x. at_hand x.0.now)
moves·push-slot κ a r s x y = does-push r s

pub moves·push-memory : Determined₁ Rattle.moves.proofs.push_memory.Reads.Post (λ κ x. at_hand x.0.now)
moves·push-memory κ a r s x y = does-push r s

-- lifter

pub lifter·number : Determined Rattle.lifter.proofs.number.Reads.Post
lifter·number κ a r s x y = one

pub lifter·detail : Determined Rattle.lifter.proofs.detail.Reads.Post
lifter·detail κ a r s x y = one

pub lifter·lift-classified : Determined₁ Rattle.lifter.proofs.lift_classified.Reads.Post (λ κ x. at_hand x.0.now)
lifter·lift-classified κ a r s x y = does-lower r s

pub lifter·lift : Determined₁ Rattle.lifter.proofs.lift.Reads.Post (λ κ x. at_hand x.0.now)
lifter·lift κ a r s x y = does-lift r s

-- image

pub image·read : Determined Rattle.image.proofs.read.Reads.Post
image·read κ a r s x y = one

pub image·write : Determined₁ Rattle.image.proofs.write.Reads.Post (λ κ x. x.0.now)
image·write κ a r s x y = both

-- sorts

pub sorts·is-bits : Determined Rattle.sorts.proofs.is_bits.Reads.Post
sorts·is-bits κ a r s x y = one

pub sorts·is-float : Determined Rattle.sorts.proofs.is_float.Reads.Post
sorts·is-float κ a r s x y = one

pub sorts·is-stored : Determined Rattle.sorts.proofs.is_stored.Reads.Post
sorts·is-stored κ a r s x y = one

pub sorts·is-word : Determined Rattle.sorts.proofs.is_word.Reads.Post
sorts·is-word κ a r s x y = one

pub sorts·pattern-width : Determined Rattle.sorts.proofs.pattern_width.Reads.Post
sorts·pattern-width κ a r s x y = one

pub sorts·sort-of : Determined Rattle.sorts.proofs.sort_of.Reads.Post
sorts·sort-of κ a r s x y = one

-- needs

pub needs·arity : Determined Rattle.needs.proofs.arity.Reads.Post
needs·arity κ a r s x y = one

pub needs·mark : Determined₁ Rattle.needs.proofs.mark.Reads.Post (λ κ x. x.1.1.0.now)
needs·mark κ a r s x y p q = (refl, one p q)

-- evaluator

pub evaluator·from : Determined Rattle.evaluator.proofs.EvalErrorFromCheckError.from.Reads.Post
evaluator·from κ a r s x y = one

pub evaluator·check : Determined Rattle.evaluator.proofs.check.Reads.Post
evaluator·check κ a r s x y = one

pub evaluator·evaluate : Determined₁ Rattle.evaluator.proofs.evaluate.Reads.Post (λ κ x. x.1.1.1.0.now)
evaluator·evaluate κ a r s x y = follows (λ (o : Result Unit EvalError). column_after o a.0.now a.1.0 a.1.1.0.now a.1.1.1.0.now)

pub evaluator·fill : Determined₁ Rattle.evaluator.proofs.table.fill.Reads.Post (λ κ x. x.1.1.0.now)
evaluator·fill κ a r s x y = tables

-- smtwriter

pub smtwriter·from : Determined Rattle.smtwriter.proofs.WriteErrorFromCheckError.from.Reads.Post
smtwriter·from κ a r s x y = one

pub smtwriter·write : Determined₁ Rattle.smtwriter.proofs.write.Reads.Post (λ κ x. x.1.1.1.0.now)
smtwriter·write κ a r s x y = written

-- smtchoices

pub smtchoices·kind-at : Determined Rattle.smtchoices.proofs.kind_at.Reads.Post
smtchoices·kind-at κ a r s x y = one

pub smtchoices·sort-at : Determined Rattle.smtchoices.proofs.sort_at.Reads.Post
smtchoices·sort-at κ a r s x y = one

pub smtchoices·format-of : Determined Rattle.smtchoices.proofs.format_of.Reads.Post
smtchoices·format-of κ a r s x y = one

pub smtchoices·ok-at : Determined Rattle.smtchoices.proofs.ok_at.Reads.Post
smtchoices·ok-at κ a r s x y = one

-- smttokens

pub smttokens·size-at : Determined Rattle.smttokens.proofs.size_at.Reads.Post
smttokens·size-at κ a r s x y = one

pub smttokens·take : Determined Rattle.smttokens.proofs.take.Reads.Post
smttokens·take κ a r s x y p q =
    one_token _ _ _ _
    (choices-apart (shown a.1.0.now [] []))
    r s (p.is [] []) (q.is [] [])

-- smtreader

pub smtreader·read : Determined₁ Rattle.smtreader.proofs.read.Reads.Post (λ κ x. x.1.0.now)
smtreader·read κ a r s x y = one-reading a.0.now a.1.0.now x.1.0.now y.1.0.now r s

-- answers

pub answers·number : (T : _) (t : _) → Determined (Rattle.answers.proofs.number.Reads.Post T t)
answers·number T t κ a r s x y = one

pub answers·fields : Determined Rattle.answers.proofs.fields.Reads.Post
answers·fields κ a r s x y = one

pub answers·effect-fields : Determined Rattle.answers.proofs.effect_fields.Reads.Post
answers·effect-fields κ a r s x y = one

pub answers·Refusal·number-says : {M : Type 1} {𝓤 : Ura M} (𝓛 : Logic 𝓤) (E : _) (says : _) (code : _) (memory : _) (run : _) (κ : _) (a : _) (t : _) (e : _)
    → (Rattle.answers.specs.contracts.refusal.Refusal.number.clauses E says code 𝓛 memory run κ a).ensures tt t e ≡ (connectives 𝓤).⌜◌⌝ (t ≡ says.number a.0.now)
answers·Refusal·number-says 𝓛 E says code memory run κ a t e = refl

pub answers·Refusal·place-says : {M : Type 1} {𝓤 : Ura M} (𝓛 : Logic 𝓤) (E : _) (says : _) (code : _) (memory : _) (run : _) (κ : _) (a : _) (t : _) (e : _)
    → (Rattle.answers.specs.contracts.refusal.Refusal.place.clauses E says code 𝓛 memory run κ a).ensures tt t e ≡ (connectives 𝓤).⌜◌⌝ (t ≡ says.place a.0.now)
answers·Refusal·place-says 𝓛 E says code memory run κ a t e = refl

pub answers·number-of : (T : _) (E : _) (t : _) (e : _) (says : _) (code : _) → Determined (Rattle.answers.proofs.refusal.number_of.Reads.Post T E t e says code)
answers·number-of T E t e says code κ a r s x y = one

pub answers·place-of : (T : _) (E : _) (t : _) (e : _) (says : _) (code : _) → Determined (Rattle.answers.proofs.refusal.place_of.Reads.Post T E t e says code)
answers·place-of T E t e says code κ a r s x y = one

pub answers·count-or-place : (E : _) (e : _) (says : _) (code : _) → Determined (Rattle.answers.proofs.refusal.count_or_place.Reads.Post E e says code)
answers·count-or-place E e says code κ a r s x y = one

-- export

pub export·x87-classify : Determined₁ Rattle.export.proofs.x87_classify.Reads.Post (λ κ x. x.1.0.now)
export·x87-classify κ a r s x y = tells

pub export·x87-why : Determined₁ Rattle.export.proofs.x87_why.Reads.Post (λ κ x. x.1.0.now)
export·x87-why κ a r s x y = tells

pub export·x87-effect : Determined₁ Rattle.export.proofs.x87_effect.Reads.Post (λ κ x. x.1.0.now)
export·x87-effect κ a r s x y = tells

pub export·x87-read-record : Determined₂ Rattle.export.proofs.x87_read_record.Reads.Post (λ κ x. x.1.1.0.now) (λ κ x. x.1.1.1.0.now)
export·x87-read-record κ a r s x y = reads

pub export·x87-lift : Determined₄ Rattle.export.proofs.x87_lift.Reads.Post (λ κ x. x.1.0.now) (λ κ x. x.1.1.0.now) (λ κ x. x.1.1.1.0.now) (λ κ x. x.1.1.1.1.0.now)
export·x87-lift κ a r s x y = steps

pub export·x87-lift-record : Determined₄ Rattle.export.proofs.x87_lift_record.Reads.Post (λ κ x. x.1.1.0.now) (λ κ x. x.1.1.1.0.now) (λ κ x. x.1.1.1.1.0.now) (λ κ x. x.1.1.1.1.1.0.now)
export·x87-lift-record κ a r s x y = steps

pub export·x87-image-read : Determined₁ Rattle.export.proofs.values.x87_image_read.Reads.Post (λ κ x. x.1.1.1.0.now)
unfolding ReadsImage
export·x87-image-read κ a r s x y = tells

pub export·x87-image-write : Determined₁ Rattle.export.proofs.values.x87_image_write.Reads.Post (λ κ x. x.0.now)
export·x87-image-write κ a r s x y = writes

pub export·x87-check : Determined₁ Rattle.export.proofs.values.x87_check.Reads.Post (λ κ x. x.1.1.0.now)
unfolding ChecksNodes
export·x87-check κ a r s x y = tells

pub export·x87-evaluate : Determined₂ Rattle.export.proofs.values.x87_evaluate.Reads.Post (λ κ x. x.1.1.1.0.now) (λ κ x. x.1.1.1.1.0.now)
export·x87-evaluate κ a r s x y = evaluates

pub export·x87-smt-write : Determined₂ Rattle.export.proofs.smt.x87_smt_write.Reads.Post (λ κ x. x.1.1.1.0.now) (λ κ x. x.1.1.1.1.0.now)
export·x87-smt-write κ a r s x y = texts

pub export·x87-smt-read : Determined₂ Rattle.export.proofs.smt.x87_smt_read.Reads.Post (λ κ x. x.1.0.now) (λ κ x. x.1.1.0.now)
export·x87-smt-read κ a r s x y = readings

-- writing: what a sink takes is said in the words of its own relation, whatever the sink and the text are ..

pub writing·Sink·put-says : {M : Type 1} {𝓤 : Ura M} (𝓛 : Logic 𝓤) (S : _) (sink : _) (dict : _) (memory : _) (run : _) (κ : _) (a : _) (t : _) (e : _)
    → (Rattle.writing.specs.contracts.Sink.put.clauses S sink dict 𝓛 memory run κ a).ensures tt t e ≡ (connectives 𝓤).⌜◌⌝ (sink.took (a.1.0 ∷ []) a.0.now e.0.now)
writing·Sink·put-says 𝓛 S sink dict memory run κ a t e = refl

pub writing·Sink·all-says : {M : Type 1} {𝓤 : Ura M} (𝓛 : Logic 𝓤) (S : _) (sink : _) (dict : _) (memory : _) (run : _) (κ : _) (a : _) (t : _) (e : _)
    → (Rattle.writing.specs.contracts.Sink.all.clauses S sink dict 𝓛 memory run κ a).ensures tt t e ≡ (connectives 𝓤).⌜◌⌝ (sink.took a.1.0.now a.0.now e.0.now)
writing·Sink·all-says 𝓛 S sink dict memory run κ a t e = refl

pub writing·Sink·decimal-says : {M : Type 1} {𝓤 : Ura M} (𝓛 : Logic 𝓤) (S : _) (sink : _) (dict : _) (memory : _) (run : _) (κ : _) (a : _) (t : _) (e : _)
    → (Rattle.writing.specs.contracts.Sink.decimal.clauses S sink dict 𝓛 memory run κ a).ensures tt t e ≡ (connectives 𝓤).⌜◌⌝ (sink.took (decimal a.1.0) a.0.now e.0.now)
writing·Sink·decimal-says 𝓛 S sink dict memory run κ a t e = refl

pub writing·Sink·binary-says : {M : Type 1} {𝓤 : Ura M} (𝓛 : Logic 𝓤) (S : _) (sink : _) (dict : _) (memory : _) (run : _) (κ : _) (a : _) (t : _) (e : _)
    → (Rattle.writing.specs.contracts.Sink.binary.clauses S sink dict 𝓛 memory run κ a).ensures tt t e ≡ (connectives 𝓤).⌜◌⌝ (sink.took (bits a.1.1.0 (val a.1.0)) a.0.now e.0.now)
writing·Sink·binary-says 𝓛 S sink dict memory run κ a t e = refl

pub writing·Text·write-says : {M : Type 1} {𝓤 : Ura M} (𝓛 : Logic 𝓤) (T : _) (S : _) (text : _) (texts : _) (sink : _) (dict : _) (memory : _) (run : _) (κ : _) (a : _) (t : _) (e : _)
    → (Rattle.writing.specs.contracts.Text.write.clauses T S text texts sink dict 𝓛 memory run κ a).ensures tt t e ≡ (connectives 𝓤).⌜◌⌝ (sink.took (text.text a.0.now) a.1.0.now e.1.0.now)
writing·Text·write-says 𝓛 T S text texts sink dict memory run κ a t e = refl

-- .. of a writer it is `Wrote`, which determines its place and its bytes

pub writing·Writer·put-says : {M : Type 1} {𝓤 : Ura M} (𝓛 : Logic 𝓤) (memory : _) (run : _) (κ : _) (a : _) (t : _) (e : _)
    → (Rattle.writing.specs.contracts.WriterSink.put.clauses 𝓛 memory run κ a).ensures tt t e ≡ (connectives 𝓤).⌜◌⌝ (Wrote (a.1.0 ∷ []) a.0.now e.0.now)
writing·Writer·put-says 𝓛 memory run κ a t e = refl

pub writing·Writer·all-says : {M : Type 1} {𝓤 : Ura M} (𝓛 : Logic 𝓤) (memory : _) (run : _) (κ : _) (a : _) (t : _) (e : _)
    → (Rattle.writing.specs.contracts.WriterSink.all.clauses 𝓛 memory run κ a).ensures tt t e ≡ (connectives 𝓤).⌜◌⌝ (Wrote (a.1.0.now) a.0.now e.0.now)
writing·Writer·all-says 𝓛 memory run κ a t e = refl

pub writing·Writer·decimal-says : {M : Type 1} {𝓤 : Ura M} (𝓛 : Logic 𝓤) (l : _) (dict : _) (memory : _) (run : _) (κ : _) (a : _) (t : _) (e : _)
    → (Rattle.writing.specs.contracts.Sink.decimal.clauses (writer.the_row l) (record { took = Wrote }) dict 𝓛 memory run κ a).ensures tt t e ≡ (connectives 𝓤).⌜◌⌝ (Wrote (decimal a.1.0) a.0.now e.0.now)
writing·Writer·decimal-says 𝓛 l dict memory run κ a t e = refl

pub writing·Writer·binary-says : {M : Type 1} {𝓤 : Ura M} (𝓛 : Logic 𝓤) (l : _) (dict : _) (memory : _) (run : _) (κ : _) (a : _) (t : _) (e : _)
    → (Rattle.writing.specs.contracts.Sink.binary.clauses (writer.the_row l) (record { took = Wrote }) dict 𝓛 memory run κ a).ensures tt t e ≡ (connectives 𝓤).⌜◌⌝ (Wrote (bits a.1.1.0 (val a.1.0)) a.0.now e.0.now)
writing·Writer·binary-says 𝓛 l dict memory run κ a t e = refl

pub writing·wrote : (text : List ℕ) {s t u : Writer} → Wrote text s t → Wrote text s u → (t.at ≡ u.at) × (t.out.now ≡ u.out.now)
writing·wrote = wrote

pub writing·fitted : (T : _) (laws : _) (text : _) (dict : _) → Determined₁ (Rattle.writing.proofs.fitted.Reads.Post T laws text dict) (λ κ x. x.1.0.now)
writing·fitted T laws text dict κ a r s x y = fitted

-- smttext

pub smttext·is-declared : Determined Rattle.smttext.proofs.is_declared.Reads.Post
smttext·is-declared κ a r s x y = one

pub smttext·name-says : {M : Type 1} {𝓤 : Ura M} (𝓛 : Logic 𝓤) (S : _) (sink : _) (dict : _) (memory : _) (run : _) (κ : _) (a : _) (t : _) (e : _)
    → (Rattle.smttext.specs.contracts.name.clauses S sink dict 𝓛 memory run κ a).ensures tt t e ≡ (connectives 𝓤).⌜◌⌝ (sink.took (name_from a.1.0 a.1.1.0 a.1.1.1.0) a.0.now e.0.now)
smttext·name-says 𝓛 S sink dict memory run κ a t e = refl

pub smttext·format-says : {M : Type 1} {𝓤 : Ura M} (𝓛 : Logic 𝓤) (S : _) (sink : _) (dict : _) (memory : _) (run : _) (κ : _) (a : _) (t : _) (e : _)
    → (Rattle.smttext.specs.contracts.format.clauses S sink dict 𝓛 memory run κ a).ensures tt t e ≡ (connectives 𝓤).⌜◌⌝ (sink.took (format_text a.1.0) a.0.now e.0.now)
smttext·format-says 𝓛 S sink dict memory run κ a t e = refl

pub smttext·sort-says : {M : Type 1} {𝓤 : Ura M} (𝓛 : Logic 𝓤) (S : _) (sink : _) (dict : _) (memory : _) (run : _) (κ : _) (a : _) (t : _) (e : _)
    → (Rattle.smttext.specs.contracts.sort.clauses S sink dict 𝓛 memory run κ a).ensures tt t e ≡ (connectives 𝓤).⌜◌⌝ (sink.took (sort_text a.1.0) a.0.now e.0.now)
smttext·sort-says 𝓛 S sink dict memory run κ a t e = refl

-- listing

pub listing·run : Determined₂ Rattle.listing.proofs.run.Reads.Post (λ κ x. x.1.0.now) (λ κ x. x.1.1.0.now)
listing·run κ a r s x y = runs

pub listing·list : Determined₁ Rattle.listing.proofs.list.Reads.Post (λ κ x. x.1.1.1.0.now)
listing·list κ a r s x y = fitted
