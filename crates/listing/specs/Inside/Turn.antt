-- One turn of a run: what it makes of what is taken, whatever the run goes on to.
use Rattle.std.specs.Prelude.{◌≡◌, List, Some, ℕ}
use Rattle.std.specs.declared.ops.ControlFlow.{ControlFlow}
use Rattle.std.specs.declared.ops.ControlFlow.TheVariants.{Break, Continue}
use Rattle.forms.specs.declared.Instruction.{Instruction}
use Rattle.lists.specs.declared.State.{State}
use Rattle.records.specs.Format.{taken_at}
use Rattle.records.specs.Reading.{got}
use Rattle.reader.specs.declared.Reader.{Reader}
use Rattle.lifter.specs.Lift.{lift_of}
use Rattle.listing.specs.Run.{Ran, ended, after, lifted}
use Rattle.listing.specs.declared.Stop.{Stop}

-- where a run has stopped, or what it comes to as it goes on
abbrev pub goes : ControlFlow Stop State → List ℕ → List ℕ → (State → List ℕ → List ℕ → Ran) → Ran
goes (Continue s) n m on = on s n m
goes (Break stop) n m on = ended stop n m

-- what `turn` gives back and leaves: it goes on behind a record only
pub record Turns (old : Reader) (s : State) (n m : List ℕ) (r : ControlFlow Stop State) (new : Reader) (n' m' : List ℕ) : Type 0 where
  pub input : new.input ≡ old.input
  pub comes : (on : ℕ → State → List ℕ → List ℕ → Ran) → after (taken_at old.input.now old.at) s n m (λ i next. lifted (lift_of s i n m) n m old.at (on next)) ≡ goes r n' m' (on new.at)
  pub read : (s' : State) → r ≡ Continue s' → (i : Instruction) × (taken_at old.input.now old.at ≡ got (Some i) new.at)
