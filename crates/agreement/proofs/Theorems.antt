-- THE THEOREMS, each with its words, its statement, and where it is proved. A run is any list of instructions, lifted one after the other
-- from the fresh state over any two lists, refused calls among them; `begun` is its start, `called` one call more, `ran` any number (Runs).
-- That these are what the contracts of the calls claim is said in Cited
use Rattle.std.specs.Prelude.{◌≡◌, Bool, true, false, Option, Some, Ok, List, [], ◌∷◌, ◌++◌, ℕ, suc, ◌*◌, ◌/◌, ◌^◌, ◌≤◌, ◌<◌, leb, length, get_or, take, drop, replicate}
use Rattle.lists.specs.Rows.{row, wrote, room_of}
use Rattle.forms.specs.declared.Instruction.{Instruction}
use Rattle.forms.specs.declared.Form.TheVariants.{PushMemory, StoreMemory}
use Rattle.forms.specs.declared.MemFormat.TheVariants.{Float}
use Rattle.forms.specs.declared.RoundingMode.{RoundingMode}
use Rattle.std.specs.Prelude.{Some, None, Ok}
use Rattle.forms.specs.Classify.{classify_of}
use Rattle.forms.specs.Numbers.{number_of}
use Rattle.details.specs.Why.{why_of, detail_of}
use Rattle.records.specs.Format.{taken_at}
use Rattle.records.specs.Reading.{Reading, got}
use Rattle.lifter.specs.Lift.{lift_of}
use Rattle.evaluator.specs.Within.{GivenFits}
use Rattle.export.specs.Answers.{ReadsRecord, classified}
use Rattle.export.specs.Lifts.{lifted_of}
use Rattle.export.specs.Steps.{stepped_of}
use Rattle.export.specs.Texts.{ReadsText}
use Rattle.listing.specs.Run.{run_of}
use Rattle.listing.specs.Listing.{text_of}
use Rattle.agreement.specs.Runs.{Held, at_hand, begun, answered, declines, called, ran}
use Rattle.agreement.specs.Fits.{first_of}
use Rattle.agreement.specs.Sorted.{Sound}
use Rattle.agreement.proofs.Sorted.{sorted}
use Rattle.agreement.specs.Evaluated.{Evaluated}
use Rattle.agreement.proofs.Evaluated.{evaluated}
use Rattle.agreement.proofs.Image.{fld-80-run, fstp-80-run}
use Rattle.agreement.specs.Image.Lifts.{Loads, Stores}
use Rattle.agreement.specs.Bench.{AllHold, table, bench}
use Rattle.agreement.specs.Determined.{Determined₁, lifter·lift}
use Rattle.agreement.specs.Forgets.{Forgets, RunForgets}
use Rattle.agreement.proofs.Forgets.{forgets, run-forgets}
use Rattle.agreement.proofs.Handed.{two-calls}
use Rattle.agreement.specs.Handed.Carries.{Bytes}
use Rattle.agreement.specs.Program.{held, taken, records_of}
use Rattle.agreement.proofs.Program.{listed-run, listed-fits}
use Rattle.agreement.specs.Counted.{Counted, Since}
use Rattle.agreement.proofs.Counted.{counted, since}
use Rattle.agreement.specs.Widths.{OfOperand}
use Rattle.agreement.proofs.Widths.{widths}
use Rattle.agreement.specs.Covers.{EffectHolds}
use Rattle.agreement.proofs.Covers.{effect-holds}
use Rattle.agreement.proofs.Refused.{refused}
use Rattle.agreement.specs.Calls.{Call, makes, all_handed, in_hand}
use Rattle.agreement.proofs.Calls.{calls-run}
use Rattle.agreement.specs.Texts.{Means, means, read_back}
use Rattle.agreement.specs.Declines.{Because, declines-so, declines-only}
use Rattle.agreement.proofs.Declines.Said.{says}
use Rattle.sorts.specs.Check.{check_of}
use Rattle.needs.specs.Needed.{Needed, marks}
use Rattle.needs.specs.Laws.{On, marks-needed}
use Rattle.smttext.specs.Text as Text
use Rattle.smttext.specs.Subset.{Says, InSubset, rank, compact}
use Rattle.viable.specs.Runs.{Stops, Goes}
use Rattle.smtgrammar.specs.State.{State, start}
use Rattle.smtgrammar.specs.Grammar.{Token, done, Reads}
use Rattle.smtlive.specs.Live.{Live}
use Rattle.smtlive.specs.Goes.{goes}
use Rattle.smtsubset.specs.Subset.{Read, Stopped, reads_all, only-reads, stops-there, written, same-formula}
use Rattle.agreement.specs.Beside.{Zeros, PlaceAndZeros, classify-beside, step-beside}

-- 1 WHAT IS LIFTED IS SORTED: the state is valid, the sort check passes the nodes, each used place of the stack names a node of 79 bits,
-- and each statement names a node as wide as its place demands
pub theorem-1 : (nodes statements : List ℕ) (is : List Instruction) → Sound (ran (begun nodes statements) is)
theorem-1 = sorted

-- 2 WHAT IS LIFTED EVALUATES: for any given values that fit, in columns that are long enough, to the end, each value within its width
pub theorem-2 : (nodes statements : List ℕ) (is : List Instruction) (g : List ℕ) (m : ℕ) → let h = ran (begun nodes statements) is in
    h.st.nodes ≤ length g / 2 → h.st.nodes ≤ m / 2 → GivenFits h.nodes g h.st.nodes → Evaluated h g m
theorem-2 = evaluated

-- 3 `fld` AND `fstp` AT 80 BITS ARE WORTH WHAT THE IMAGE CALLS ANSWER: in any run, for any given values that fit, where the call answers 0
pub theorem-3-load : (nodes statements : List ℕ) (is : List Instruction) (i : Instruction) (g : List ℕ) → let h = ran (begun nodes statements) is in
    let d = lift_of h.st i h.nodes h.statements in
    d.val ≡ 0 → GivenFits (wrote h.nodes d.ns) g d.st.nodes → classify_of i ≡ Ok (Some (PushMemory 80 Float))
    → Loads h.st i d (wrote h.nodes d.ns) g
theorem-3-load = fld-80-run

pub theorem-3-store : (nodes statements : List ℕ) (is : List Instruction) (i : Instruction) (g : List ℕ) → let h = ran (begun nodes statements) is in
    let d = lift_of h.st i h.nodes h.statements in
    d.val ≡ 0 → GivenFits (wrote h.nodes d.ns) g d.st.nodes → (pop : Bool) (r : RoundingMode) → classify_of i ≡ Ok (Some (StoreMemory 80 Float pop r))
    → Stores h.st i d (wrote h.nodes d.ns) g
theorem-3-store = fstp-80-run

-- 4 THE EXAMPLES FROM THE BENCH, P1 to P12: one table, and every row of it holds
pub theorem-4 : AllHold table
theorem-4 = bench

-- 5 EVERY PROMISE DETERMINES ITS ANSWER: any two answers that meet a public call's contract are equal, and so is what they leave in each lent slice and state.
-- This is the line of `lifter::lift`; Determined has one for each public call
pub theorem-5 : Determined₁ Rattle.lifter.proofs.lift.Reads.Post (λ κ x. at_hand x.0.now)
theorem-5 = lifter·lift

-- 6 A DECLINE FORGETS: behind a call that declines, from any state, no place, node or statement reaches a node from before it, and no input is a variable from before it;
-- in a run no node of the list has the number of an input that a read adds
pub theorem-6 : (h : Held) (i : Instruction) → length h.st.slots ≡ 8 → declines (answered h i) ≡ true → Forgets (called h i)
theorem-6 = forgets

pub theorem-6-run : (nodes statements : List ℕ) (is : List Instruction) (i : Instruction) → let h = ran (begun nodes statements) is in
    declines (answered h i) ≡ true → RunForgets (called h i)
theorem-6-run = run-forgets

-- 7 TWO CALLS OR ONE: a record that is read into 177 bytes and lifted from them gives what the record lifted gives
pub theorem-7 : (input flat out : List ℕ) (at r : ℕ) (flat_left out_left : List ℕ) (i : Instruction) (next : ℕ) (s n t : List ℕ)
    → Bytes input → 177 ≤ length flat → 2 ≤ length out
    → taken_at input at ≡ got (Some i) next → ReadsRecord (taken_at input at) flat out r flat_left out_left
    → lifted_of flat_left s n t ≡ (stepped_of (taken_at input at) at s n t).lifted
theorem-7 = two-calls

-- 8 WHAT THE PROGRAM LISTS IS THE RUN OF ITS INPUT'S RECORDS, up to the end mark or the first refusal; and no listing is longer than the room for it
pub theorem-8 : (input nodes statements : List ℕ) → let h = begun nodes statements in held (run_of input nodes statements) ≡ ran h (taken h (records_of input))
theorem-8 = listed-run

pub theorem-8-fits : (input nodes statements : List ℕ) → length nodes ≡ 4096 → length statements ≡ 1024
    → let x = run_of input nodes statements in length (text_of x.nodes x.statements x.run) ≤ 139264
theorem-8-fits = listed-fits

-- 9 COUNTERS COUNT: in a run the inputs are numbered 0, 1, 2, .. in order, each number once, and the state counts them; so with temporaries.
-- From any state on, no counter falls, rows stay as they were written, and what is added has new numbers
pub theorem-9 : (nodes statements : List ℕ) (is : List Instruction) → Counted (ran (begun nodes statements) is)
theorem-9 = counted

pub theorem-9-on : (d : Held) (is : List Instruction) → Since d (ran d is)
theorem-9-on = since

-- 10 A LOAD IS OF THE OPERAND, AND SO IS A STORE: each that a call adds has its operand's address number and width, whatever is lifted before and after it
pub theorem-10 : (h : Held) (i : Instruction) (later : List Instruction) (j : ℕ) → h.st.statements ≤ j → j < (called h i).st.statements
    → OfOperand (first_of i) (ran (called h i) later).statements j
theorem-10 = widths

-- 11 THE EFFECT COVERS THE LIFT: what is set, named and kept is what `x87_effect` says
pub theorem-11 : (h : Held) (i : Instruction) → EffectHolds i h
theorem-11 = effect-holds

-- 12 A REFUSAL CHANGES NOTHING: answers over 2 leave the state and both lists as they were
pub theorem-12 : (h : Held) (i : Instruction) → leb (answered h i) 2 ≡ false → called h i ≡ h
theorem-12 = refused

-- 13 THE CALLS THAT RUST MAKES ARE A RUN: any calls of `x87_lift` and `x87_lift_record`, from thirteen zero words over any two lists
pub theorem-13 : (nodes statements state : List ℕ) (cs : List Call) → take 13 state ≡ replicate 13 0
    → in_hand (makes (record { state = state; nodes = nodes; statements = statements }) cs) ≡ ran (begun nodes statements) (all_handed cs)
theorem-13 = calls-run

-- 14 WHAT IS TOLD BESIDE A REFUSAL is 0, but a place that is named; the other calls that tell words are beside it in Beside
pub theorem-14 : (flat : List ℕ) → Zeros 8 (classified flat)
theorem-14 = classify-beside

pub theorem-14-record : (t : Reading (Option Instruction)) (at : ℕ) (s n m : List ℕ) → let x = stepped_of t at s n m in leb x.lifted.answer 2 ≡ false → PlaceAndZeros 2 x.told
theorem-14-record = step-beside

-- 15 NO DECLINE IS WITHOUT A REASON, AND NO MODELLED INSTRUCTION HAS ONE: of an instruction that is refused neither with 3 nor with 4, `classify` declines exactly if
-- one of the five reasons holds, and the detail is the first of them; the statement of the decline says the detail that the call gives
pub theorem-15 : (i : Instruction) → classify_of i ≡ Ok None → Because i (why_of i)
theorem-15 = declines-so

pub theorem-15-only : (i : Instruction) → leb (number_of (classify_of i)) 1 ≡ true → (k : ℕ) → Because i k → (classify_of i ≡ Ok None) × (why_of i ≡ k)
theorem-15-only = declines-only

pub theorem-15-said : (h : Held) (i : Instruction) → answered h i ≡ 1
    → (lift_of h.st i h.nodes h.statements).ss ≡ row h.st.statements 6 1 i.address (detail_of (answered h i) i) ∷ []
theorem-15-said = says

-- 16 WHAT IS WRITTEN SAYS WHAT THE ROOT NEEDS: the text of a root of a list that passes is a text of the subset, said by the list and the marks of what the root needs
pub theorem-16 : (w : List ℕ) (n r : ℕ) → check_of w n ≡ Ok tt → r < n → ((j : ℕ) → get_or w j 0 < 2 ^ 64) → Says (Text.text_of w r) w (marks w r) (suc r)
theorem-16 = written

pub theorem-16-needs : (w : List ℕ) (r i : ℕ) → (On (marks w r) i → Needed w r i) × (Needed w r i → On (marks w r) i)
theorem-16-needs = marks-needed

-- 17 ONE TEXT, ONE FORMULA: any two lists that say a text say the same rows
pub theorem-17 : (x w m w' m' : List ℕ) (n n' : ℕ) → Says x w m n → Says x w' m' n' → compact w m n ≡ compact w' m' n'
theorem-17 = same-formula

-- 18 THE GRAMMAR IS THE SUBSET: a text of the subset is a run of the grammar, which leaves the rows of each list that says it; and a run is a text of the subset
pub theorem-18 : (x w m : List ℕ) (n : ℕ) → Says x w m n → Read x w m n
theorem-18 = reads_all

pub theorem-18-only : (x : List ℕ) (ω : State) → Reads x ω → InSubset x
theorem-18-only = only-reads

-- 19 WHERE THE GRAMMAR STOPS IS EXACT: the bytes before the place begin some text of the subset, and no text of the subset begins with one byte more, or, at the end, is the whole;
-- and no beginning of a text is a dead end
pub theorem-19 : (x : List ℕ) (p : ℕ) → Stops Token done start x p → Stopped x p
theorem-19 = stops-there

pub theorem-19-on : (σ : State) → Live σ → Goes Token done σ
theorem-19-on = goes

-- 20 WHAT THE CALL READS, in the words of the subset: 0 beside the count of a formula, which stands in front and passes the check, 41 beside the exact place, or 6;
-- and what was written is read back as what the root needs
pub theorem-20 : (x nodes out : List ℕ) (r : ℕ) (nodes_left out_left : List ℕ) → 1 ≤ length out → ReadsText x nodes out r nodes_left out_left
    → Means x nodes r (get_or out_left 0 0) nodes_left
theorem-20 = means

pub theorem-20-back : (w : List ℕ) (n root : ℕ) → check_of w n ≡ Ok tt → root < n → ((j : ℕ) → get_or w j 0 < 2 ^ 64)
    → (nodes out : List ℕ) (r : ℕ) (nodes_left out_left : List ℕ) → 1 ≤ length out → rank (marks w root) (suc root) ≤ room_of (length nodes)
    → ReadsText (Text.text_of w root) nodes out r nodes_left out_left
    → (r ≡ 0) × (get_or out_left 0 0 ≡ rank (marks w root) (suc root))
    × (nodes_left ≡ compact w (marks w root) (suc root) ++ drop (4 * rank (marks w root) (suc root)) nodes)
theorem-20-back = read_back
