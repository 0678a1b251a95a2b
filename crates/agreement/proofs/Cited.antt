-- FROM THE CONTRACTS TO THE THEOREMS: what the contract of a call claims, as the toolchain has it of the source, is the step that the theorems on runs speak of
use Rattle.std.specs.Prelude.{◌≡◌, List, ℕ}
use Rattle.std.proofs.Common.{sym}
use Rattle.listing.specs.Run.{run_of}
use Rattle.agreement.specs.Runs.{at_hand, called, call-is}
use Rattle.agreement.specs.Calls.{Words, lift, lift_record, promised, made}
use Rattle.agreement.specs.Program.{held}

abbrev words : List ℕ → List ℕ → List ℕ → Words
words s n t = record { state = s; nodes = n; statements = t }

same-words : {s s' n n' t t' : List ℕ} → s ≡ s' → n ≡ n' → t ≡ t' → words s n t ≡ words s' n' t'
same-words p q r = λ i. words (p i) (q i) (r i)

-- `lifter::lift`: one call of a run
pub lift-is : (κ : _) (a : _) (r : _) (e : _) → Rattle.lifter.proofs.lift.Reads.Post κ a r e → called (at_hand a.0.now) a.1.0 ≡ at_hand e.0.now
lift-is κ a r e p = call-is _ _ _ _ p.does

-- `x87_lift` and `x87_lift_record`: one call of Rust's
pub x87-lift-is : (κ : _) (a : _) (r : _) (e : _) → Rattle.export.proofs.x87_lift.Reads.Post κ a r e
    → made (words a.1.0.now a.1.1.0.now a.1.1.1.0.now) (lift a.0.now a.1.1.1.1.0.now) ≡ words e.1.0.now e.1.1.0.now e.1.1.1.0.now
unfolding made promised
x87-lift-is κ a r e p = let q = p.lifts in same-words (sym q.state) (sym q.nodes) (sym q.statements)

pub x87-lift-record-is : (κ : _) (a : _) (r : _) (e : _) → Rattle.export.proofs.x87_lift_record.Reads.Post κ a r e
    → made (words a.1.1.0.now a.1.1.1.0.now a.1.1.1.1.0.now) (lift_record a.0.now a.1.0 a.1.1.1.1.1.0.now)
    ≡ words e.1.1.0.now e.1.1.1.0.now e.1.1.1.1.0.now
unfolding made promised
x87-lift-record-is κ a r e p = let q = p.lifts in same-words (sym q.state) (sym q.nodes) (sym q.statements)

-- `listing::run`: the run over an input
pub run_is : (κ : _) (a : _) (r : _) (e : _) → Rattle.listing.proofs.run.Reads.Post κ a r e
    → held (run_of a.0.now a.1.0.now a.1.1.0.now) ≡ record { st = r.state; nodes = e.1.0.now; statements = e.1.1.0.now }
run_is κ a r e p = λ i. record { st = (sym p.run i).state; nodes = sym p.nodes i; statements = sym p.statements i }
