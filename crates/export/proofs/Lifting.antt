-- What the lifter and the state's words come to, joined.
use mathlib.Core.Path.{◌≡◌, refl, sym, ap, ◌∙◌}
use mathlib.Core.List.{List, [], ◌∷◌}
use Prim.Native.Nat.{ℕ, ◌≤◌, ◌<◌}
use lib.ListN.{length}
use borrow.Author.Tests.{le-leb, lt-leb}
use Rattle.forms.specs.declared.Instruction.{Instruction}
use Rattle.std.specs.Prelude.{Option, Some, None, Ok, Err}
use Rattle.std.proofs.Common.{Bor}
use Rattle.records.specs.Format.{taken_at}
use Rattle.records.specs.Numbers.{refusal_of}
use Rattle.records.specs.Reading.{Reading, got, bad, reading}
use Rattle.records.specs.declared.Refusal as records
use Rattle.forms.specs.Classify.{Classified}
use Rattle.forms.specs.Classify.{classify_of}
use Rattle.std.specs.Prelude.{Result}
use Rattle.memory.specs.declared.Site.{Site}
use Rattle.memory.specs.Site.{site_of}
use Rattle.details.specs.Why.{detail_for}
use Rattle.lifter.specs.Lift.{number_of, detail_in}
use Rattle.lifter.specs.declared.Lifted as lifter
use Rattle.lifter.specs.declared.Refusal.{Refusal}
use Rattle.lifter.proofs.Answers.{lift-told, placed-lift}
use Rattle.export.specs.Flat.{insn_of, laid}
use Rattle.export.specs.Lifts.{Lifted, Lifts, Places, placed_in, lifted_in, lifted_of, unchanged, state_in}
use Rattle.export.specs.Steps.{Steps, called_of, step_of, stepped_of, told_of}
use Rattle.export.proofs.Calls.{tells}

-- a refusal leaves all that is lent
stays : (r : ℕ) (s n t : List ℕ) → Lifts (unchanged r s n t) r s n t
stays r s n t = record { answer = refl; state = refl; nodes = refl; statements = refl }

-- what a lift over the words of a state gives: the answer and what is left, and the detail
abbrev pub Given : Lifted → ℕ → ℕ → List ℕ → List ℕ → List ℕ → Type 0
Given x r d s n t = Lifts x r s n t × (d ≡ x.detail)

module _ (i : Instruction) (s n t : List ℕ) where
  placed-in : placed_in (classify_of i) (detail_for (classify_of i) i) (site_of i) s n t ≡ lifted_in i s n t
  unfolding lifted_in
  placed-in = rw (placed-lift (state_in s) n t i, lift-told (state_in s) n t i)

  -- an instruction that is classified first
  pub gives : (c : Classified) (d : ℕ) (site : Site) → c ≡ classify_of i → d ≡ detail_for c i → site ≡ site_of i → {o : Result lifter.Lifted Refusal} {r w : ℕ} {s' n' t' : List ℕ}
      → Places (placed_in c d site s n t) o s' n' t' → r ≡ number_of o → w ≡ detail_in o → Given (lifted_in i s n t) r w s' n' t'
  gives c d site p q e l a b =
      let x = ap (λ (c : Classified). placed_in c (detail_for c i) (site_of i) s n t) p ∙ placed-in in
      rw (← x, ← e, ← q, a, b) (l.lifts, l.detail-is)

-- an instruction's bytes: lifted, or too few of them or of the state's words; and too few words to tell
module _ (f s n t out : List ℕ) where
  pub from-flat : 1 ≤ length out → 177 ≤ length f → 13 ≤ length s → (i : Instruction) (r d : ℕ) (s' n' t' left : List ℕ) → i ≡ insn_of f
      → Given (lifted_in i s n t) r d s' n' t' → left ≡ laid out 0 (d ∷ []) → Steps 1 (called_of f s n t) s n t out r s' n' t' left
  unfolding called_of lifted_of
  from-flat k h l i r d s' n' t' left e g w =
      rw (le-leb _ _ h, le-leb _ _ l, ← e) (record { told = tells _ _ _ k g.0.answer (rw (← g.1) w); lifts = rw (le-leb _ _ k) g.0 })

  pub short-state : 1 ≤ length out → 177 ≤ length f → length s < 13 → (left : List ℕ) → left ≡ laid out 0 (0 ∷ []) → Steps 1 (called_of f s n t) s n t out 10 s n t left
  unfolding called_of lifted_of
  short-state k h l left w = rw (le-leb _ _ h, lt-leb _ _ l) (record { told = tells _ _ _ k refl w; lifts = rw (le-leb _ _ k) (stays 10 s n t) })

  pub short-flat : 1 ≤ length out → length f < 177 → (left : List ℕ) → left ≡ laid out 0 (0 ∷ []) → Steps 1 (called_of f s n t) s n t out 10 s n t left
  unfolding called_of lifted_of
  short-flat k h left w = rw (lt-leb _ _ h) (record { told = tells _ _ _ k refl w; lifts = rw (le-leb _ _ k) (stays 10 s n t) })

-- what a reader of these bytes took, or that it was refused
module _ {r : Result (Option Instruction) records.Refusal} {n : ℕ} (at : ℕ) {a b : Bor (List ℕ)} (h : reading r n ≡ taken_at b.now at) (i : b ≡ a) where
  pub took : {w v : Option Instruction} → r ≡ Ok w → w ≡ v → got v n ≡ taken_at a.now at
  took e f = ap (λ (v : Option Instruction). got v n) (sym f) ∙ ap (λ (r : Result (Option Instruction) records.Refusal). reading r n) (sym e) ∙ h ∙ ap (λ (b : Bor (List ℕ)). taken_at b.now at) i

  pub refused : {q : records.Refusal} → r ≡ Err q → bad q n ≡ taken_at a.now at
  refused e = ap (λ (r : Result (Option Instruction) records.Refusal). reading r n) (sym e) ∙ h ∙ ap (λ (b : Bor (List ℕ)). taken_at b.now at) i

-- one record: lifted, or not there to be lifted
module _ (at : ℕ) (s n t out : List ℕ) (room : 3 ≤ length out) (long : 13 ≤ length s) {x : Reading (Option Instruction)} where
  pub steps_on : {i : Instruction} {next : ℕ} → got (Some i) next ≡ x → (r d : ℕ) (s' n' t' left : List ℕ) → Given (lifted_in i s n t) r d s' n' t'
      → left ≡ laid out 0 (told_of r d next at) → Steps 3 (stepped_of x at s n t) s n t out r s' n' t' left
  unfolding stepped_of step_of
  steps_on e r d s' n' t' left g w =
      rw (le-leb _ _ long, ← e) (record { told = tells _ _ _ room g.0.answer (rw (← g.0.answer, ← g.1) w); lifts = rw (le-leb _ _ room) g.0 })

  pub ends : {next : ℕ} → got None next ≡ x → (left : List ℕ) → left ≡ laid out 0 (next ∷ 0 ∷ 0 ∷ []) → Steps 3 (stepped_of x at s n t) s n t out 0 s n t left
  unfolding stepped_of step_of
  ends e left w = rw (le-leb _ _ long, ← e) (record { told = tells _ _ _ room refl w; lifts = rw (le-leb _ _ room) (stays 0 s n t) })

  pub stops : {q : records.Refusal} {place : ℕ} → bad q place ≡ x → (r : ℕ) → r ≡ refusal_of q → (left : List ℕ) → left ≡ laid out 0 (place ∷ 0 ∷ 0 ∷ [])
      → Steps 3 (stepped_of x at s n t) s n t out r s n t left
  unfolding stepped_of step_of
  stops e r d left w = rw (le-leb _ _ long, ← e) (record { told = tells _ _ _ room d w; lifts = rw (le-leb _ _ room, d) (stays _ s n t) })

module _ (x : Reading (Option Instruction)) (at : ℕ) (s n t out : List ℕ) where
  pub few-state : 3 ≤ length out → length s < 13 → (left : List ℕ) → left ≡ laid out 0 (0 ∷ 0 ∷ 0 ∷ []) → Steps 3 (stepped_of x at s n t) s n t out 10 s n t left
  unfolding stepped_of
  few-state k h left w = rw (lt-leb _ _ h) (record { told = tells _ _ _ k refl w; lifts = rw (le-leb _ _ k) (stays 10 s n t) })
