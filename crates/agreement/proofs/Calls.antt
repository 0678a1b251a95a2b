-- THEOREM 13: THE CALLS THAT RUST MAKES ARE A RUN.
-- Any number of calls of `x87_lift` and `x87_lift_record`, on any bytes, each given the words that the one before it left, from a state of thirteen zero words
-- over any two lists, refused calls among them, come to what the run of their instructions comes to: a state that is written to words and read is that state.
-- So the theorems on runs hold of what Rust holds in its hands: it is sound, it evaluates, it forgets at a decline.
use Rattle.std.specs.Prelude.{◌≡◌, refl, Bool, true, false, cond, ◌&&◌, Option, Some, None, ℕ, ◌+◌, ◌≤◌, leb, length, take, replicate}
use Rattle.std.proofs.Common.{sym, ◌∙◌, le-leb}
use Rattle.std.proofs.Math.Path.{ap, subst}
use Rattle.std.proofs.lemmas.Bool.{false≢true}
use mathlib.Core.List.{List, [], ◌∷◌, ◌++◌, append-nil, append_assoc}
use Rattle.texts.specs.Bytes.{all}
use Rattle.lists.specs.Rows.{wrote}
use Rattle.lists.specs.Steps.{Built}
use Rattle.lists.specs.declared.State.{State}
use Rattle.forms.specs.declared.Instruction.{Instruction}
use Rattle.records.specs.Format.{taken_at}
use Rattle.records.specs.Numbers.{refusal_of}
use Rattle.records.specs.Reading.{Reading, got, bad}
use Rattle.details.specs.Why.{detail_of}
use Rattle.lifter.specs.Lift.{lift_of}
use Rattle.export.specs.Flat.{insn_of, at_least}
use Rattle.export.specs.Lifts.{small_is, state_in, Lifted, kept_if, lifted_in, lifted_of, unchanged}
use Rattle.export.specs.Steps.{called_of, stepped_of, step_of}
use Rattle.agreement.specs.Runs.{Held, begun, answered, stepped, called, ran, ran_on}
use Rattle.agreement.proofs.Refused.{refused}
use Rattle.agreement.proofs.Tracks.Sorts.{run-tracked}
use Rattle.agreement.specs.Sorted.{Sound}
use Rattle.agreement.proofs.Sorted.{sorted}
use Rattle.agreement.proofs.Calls.Kept.{Narrow, tracked-narrow, state-back, words_small, words_long, zero-state, zero-small, zero-long}
use Rattle.agreement.specs.Calls.{Call, Words, promised, made, makes, recorded, handed, all_handed, in_hand, lift, lift_record}
pub mod Kept

-- The words hold what h has come to
record Holds (w : Words) (h : Held) : Type 0 where
  held : in_hand w ≡ h
  small : all small_is (take 13 w.state) ≡ true
  long : 13 ≤ length w.state

abbrev words_of : Lifted → Words
words_of x = record { state = x.state; nodes = x.nodes; statements = x.statements }

-- One lift: its state is written, or where it is refused all is as it was
module _ (w : Words) (i : Instruction) (e : all small_is (take 13 w.state) ≡ true) (l : 13 ≤ length w.state) (b : Narrow (called (in_hand w) i).st) where
  lift-holds : Holds (words_of (lifted_in i w.state w.nodes w.statements)) (called (in_hand w) i)
  unfolding lifted_in called stepped
  lift-holds = rw e (way (leb (answered (in_hand w) i) 2) refl)
    where
      x : Built
      x = lift_of (state_in w.state) i w.nodes w.statements

      left : State → Held
      left s = record { st = s; nodes = wrote w.nodes x.ns; statements = wrote w.statements x.ss }

      way : (t : Bool) → leb x.val 2 ≡ t
          → Holds (words_of (record { answer = x.val; detail = detail_of x.val i; state = kept_if t x.st w.state; nodes = wrote w.nodes x.ns; statements = wrote w.statements x.ss })) (left x.st)
      way true p =
          record {
            held = ap left (state-back w.state x.st l b);
            small = words_small w.state x.st l b;
            long = words_long w.state x.st l b;
          }
      way false p = record { held = ap left (sym (ap (λ (h : Held). h.st) (refused (in_hand w) i p))); small = e; long = l }

-- What is not handed over leaves all as it was
same-holds : {w : Words} {h : Held} (r : ℕ) → Holds w h → Holds (words_of (unchanged r w.state w.nodes w.statements)) h
same-holds r k = record { held = k.held; small = k.small; long = k.long }

module _ (nodes statements : List ℕ) where
  abbrev run : List Instruction → Held
  run is = ran (begun nodes statements) is

  -- A run whose words hold it, with one more call
  lifted-on : (w : Words) (is : List Instruction) (i : Instruction) → Holds w (run is) → Holds (words_of (lifted_in i w.state w.nodes w.statements)) (run (is ++ (i ∷ [])))
  lifted-on w is i k =
      let c : called (in_hand w) i ≡ run (is ++ (i ∷ [])) = ap (λ (h : Held). called h i) k.held ∙ sym (ran_on (begun nodes statements) is i) in
      let b : Narrow (called (in_hand w) i).st = rw c (tracked-narrow (run-tracked nodes statements (is ++ (i ∷ []))).tracks) in
      subst (Holds (words_of (lifted_in i w.state w.nodes w.statements))) c (lift-holds w i k.small k.long b)

  nothing-on : (w : Words) (is : List Instruction) (r : ℕ) → Holds w (run is) → Holds (words_of (unchanged r w.state w.nodes w.statements)) (run (is ++ []))
  nothing-on w is r k = rw append-nil (same-holds r k)

  call-on : (w : Words) (is : List Instruction) (c : Call) → Holds w (run is) → Holds (made w c) (run (is ++ handed c))
  unfolding made promised handed called_of lifted_of stepped_of step_of
  call-on w is (lift flat out) k = way (at_least 1 out) (at_least 177 flat) (at_least 13 w.state) (le-leb 13 (length w.state) k.long)
    where
      left : Lifted
      left = unchanged 10 w.state w.nodes w.statements

      way : (u t x : Bool) → x ≡ true
          → Holds (words_of (cond u (cond (t && x) (lifted_in (insn_of flat) w.state w.nodes w.statements) left) left)) (run (is ++ cond u (cond t (insn_of flat ∷ []) []) []))
      way true true true e = lifted-on w is (insn_of flat) k
      way true true false e = absurd (false≢true e)
      way true false x e = nothing-on w is 10 k
      way false t x e = nothing-on w is 10 k
  call-on w is (lift_record input at out) k = way (at_least 3 out) (at_least 13 w.state) (taken_at input at) (le-leb 13 (length w.state) k.long)
    where
      way : (t x : Bool) (o : Reading (Option Instruction)) → x ≡ true
          → Holds (words_of (cond t (cond x (step_of o at w.state w.nodes w.statements) (record { lifted = unchanged 10 w.state w.nodes w.statements; told = 0 ∷ 0 ∷ 0 ∷ [] })).lifted (unchanged 10 w.state w.nodes w.statements)))
          (run (is ++ cond t (recorded o) []))
      way true true (got (Some i) next) e = lifted-on w is i k
      way true true (got None next) e = nothing-on w is 0 k
      way true true (bad r p) e = nothing-on w is (refusal_of r) k
      way true false o e = absurd (false≢true e)
      way false x o e = nothing-on w is 10 k

  calls-on : (w : Words) (is : List Instruction) (cs : List Call) → Holds w (run is) → Holds (makes w cs) (run (is ++ all_handed cs))
  unfolding makes all_handed
  calls-on w is [] k = rw append-nil k
  calls-on w is (c ∷ cs) k =
      subst (λ (js : List Instruction). Holds (makes (made w c) cs) (run js)) (append_assoc is (handed c) (all_handed cs)) (calls-on (made w c) (is ++ handed c) cs (call-on w is c k))

  -- THE RUN
  pub calls-run : (state : List ℕ) (cs : List Call) → take 13 state ≡ replicate 13 0
      → in_hand (makes (record { state = state; nodes = nodes; statements = statements }) cs) ≡ run (all_handed cs)
  unfolding ran
  calls-run state cs e =
      (calls-on (record { state = state; nodes = nodes; statements = statements }) [] cs (record {
        held = ap (λ (s : State). record { st = s; nodes = nodes; statements = statements }) (zero-state state e);
        small = zero-small state e;
        long = zero-long state e;
      })).held

  -- .. and so what is in hand is sound
  pub calls-sound : (state : List ℕ) (cs : List Call) → take 13 state ≡ replicate 13 0
      → Sound (in_hand (makes (record { state = state; nodes = nodes; statements = statements }) cs))
  calls-sound state cs e = subst Sound (sym (calls-run state cs e)) (sorted nodes statements (all_handed cs))
