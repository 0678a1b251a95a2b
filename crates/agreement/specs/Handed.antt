-- What is read back from the bytes that an instruction was written into, as theorem 7 (proofs/Handed) needs it.
use Rattle.std.specs.Prelude.{◌≡◌, List, ℕ, ◌≤◌, length}
use Rattle.records.specs.Format.{taken_at}
use Rattle.export.specs.Flat.{insn_of, flat_of, laid}
use Rattle.agreement.specs.Handed.Carries.{Bytes, insn_in, taken-fits}
use Rattle.agreement.specs.Handed.Flat.{laid-at, insn-at}
pub mod Carries
pub mod Flat

-- What was written for the instruction at a place is read back as it
pub read_back : (input flat : List ℕ) (at : ℕ) → Bytes input → 177 ≤ length flat → let i = insn_in (taken_at input at) in insn_of (laid flat 0 (flat_of i)) ≡ i
read_back input flat at b e =
    let f = taken-fits input at b in
    insn-at _ _ (laid-at flat _ e f) f
