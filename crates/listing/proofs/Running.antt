-- A run, turn by turn: what stands at its place, and what the lift of it comes to.
use Rattle.std.proofs.Common.{◌≡◌, refl, sym, ap, ◌∙◌, true, false, Bool, List, ℕ, ◌-◌, ◌≤◌, ◌<◌, leb, length, Some, Bor, arith, le-leb, ControlFlow, Continue, Break}
use Rattle.std.proofs.lemmas.Bool.{lt-leb, leb-true, leb-false}
use Rattle.forms.specs.declared.Instruction.{Instruction}
use Rattle.lists.specs.Stack.{fresh}
use Rattle.lists.specs.declared.State.{State}
use Rattle.records.specs.Format.{taken_at}
use Rattle.records.specs.Reading.{got}
use Rattle.reader.specs.declared.Reader.{Reader}
use Rattle.listing.specs.Run.{Ran, Runs, refused_at, run_from, run_of}
use Rattle.listing.specs.Inside.Turn.{Turns, goes}
use Rattle.listing.specs.Enough.{enough, past_end, onward}
use Rattle.listing.specs.declared.Stop.{Stop}

never : {A : Type 0} → ◌≡◌ {A = ℕ} 0 1 → A
never t = absurd (omega arith)

-- what a run comes to from a place on
abbrev pub whole : List ℕ → ℕ → State → List ℕ → List ℕ → Ran
whole input = run_from (length input) input

module _ {old new : Reader} {s : State} {n m n' m' : List ℕ} {r : ControlFlow Stop State} (t : Turns old s n m r new n' m') where
  -- a turn leaves what the run comes to as it is ..
  turned : whole old.input.now old.at s n m ≡ goes r n' m' (whole old.input.now new.at)
  unfolding run_from
  turned = enough old.input.now (length old.input.now) old.at s n m (omega arith) ∙ t.comes (λ next s n m. run_from (length old.input.now) old.input.now next s n m)

  pub goes-on : (s' : State) → r ≡ Continue s' → whole new.input.now new.at s' n' m' ≡ whole old.input.now old.at s n m
  goes-on s' e = sym (turned ∙ ap (λ (x : ControlFlow Stop State). goes x n' m' (whole old.input.now new.at)) e ∙ ap (λ (b : Bor (List ℕ)). whole b.now new.at s' n' m') (sym t.input))

  pub halts : (stop : Stop) → r ≡ Break stop → Runs (whole old.input.now old.at s n m) stop n' m'
  halts stop e = let w = rw e at turned in rw w (record { run = refl; nodes = refl; statements = refl })

  -- .. and there is less ahead
  pub nearer : (s' : State) → r ≡ Continue s' → length new.input.now - new.at < length old.input.now - old.at
  nearer s' e =
      let x = t.read s' e in
      rw t.input (omega (arith, inside (leb (length old.input.now) old.at) refl x.1, onward old.input.now old.at (Some x.0) new.at x.1))
    where
      inside : {i : Instruction} (b : Bool) → leb (length old.input.now) old.at ≡ b → taken_at old.input.now old.at ≡ got (Some i) new.at → old.at < length old.input.now
      inside true q o = let z : ◌≡◌ {A = ℕ} 0 1 = cc (past_end old.input.now old.at (leb-true _ _ q), o) in never z
      inside false q o = leb-false _ _ q

pub ran : (input n m : List ℕ) (r : Stop) (n' m' : List ℕ) (s : State) → s ≡ fresh → length input ≤ 16384 → Runs (whole input 0 s n m) r n' m' → Runs (run_of input n m) r n' m'
unfolding run_of
ran input n m r n' m' s e h x = rw (le-leb _ _ h) (rw e at x)

pub too_long : (input n m : List ℕ) → 16384 < length input → Runs (run_of input n m) (refused_at fresh 13 0) n m
unfolding run_of
too_long input n m h = rw (lt-leb _ _ h) (record { run = refl; nodes = refl; statements = refl })
