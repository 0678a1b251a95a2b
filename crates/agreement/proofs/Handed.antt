-- THEOREM 7: TWO CALLS OR ONE.
-- The 177 bytes that `x87_read_record` writes for a record are read back as that record's instruction, whatever stood there before and beyond.
-- So a program that reads a record into 177 bytes or more and has these lifted gets what `x87_lift_record` gives on the record itself:
-- the same answer, state, nodes and statements, refused or not. It holds of any input of bytes, any place, any state and lists.
use Rattle.std.specs.Prelude.{◌≡◌, refl, Bool, true, false, cond, Some, List, ℕ, ◌≤◌, leb, length}
use Rattle.std.proofs.Common.{◌∙◌, ap, subst, arith, le-leb}
use Rattle.std.proofs.Math.Seq.{length-sets}
use Rattle.records.specs.Format.{taken_at}
use Rattle.records.specs.Reading.{got}
use Rattle.forms.specs.declared.Instruction.{Instruction}
use Rattle.export.specs.Flat.{insn_of, flat_of, laid}
use Rattle.export.specs.Answers.{ReadsRecord}
use Rattle.export.specs.Lifts.{lifted_of}
use Rattle.export.specs.Steps.{Stepped, stepped_of, step_of}
use Rattle.agreement.specs.Handed.Carries.{Bytes, insn_in}
use Rattle.agreement.specs.Handed.{read_back}

either-lifted : (b : Bool) (x y : Stepped) → cond b x.lifted y.lifted ≡ (cond b x y).lifted
either-lifted true x y = refl
either-lifted false x y = refl

-- The bytes that the reading leaves, lifted, and the record lifted
pub two-calls : (input flat out : List ℕ) (at r : ℕ) (flat_left out_left : List ℕ) (i : Instruction) (next : ℕ) (s n t : List ℕ)
    → Bytes input → 177 ≤ length flat → 2 ≤ length out
    → taken_at input at ≡ got (Some i) next → ReadsRecord (taken_at input at) flat out r flat_left out_left
    → lifted_of flat_left s n t ≡ (stepped_of (taken_at input at) at s n t).lifted
unfolding lifted_of stepped_of step_of laid
two-calls input flat out at r flat_left out_left i next s n t b e h o w =
    let l : flat_left ≡ laid flat 0 (flat_of i) = w.bytes ∙ rw (o, le-leb _ _ e, le-leb _ _ h) in
    let z : 177 ≤ length flat_left = omega (arith, ap length l, length-sets flat 0 (flat_of i)) in
    let q : insn_of flat_left ≡ i = ap insn_of l ∙ subst (λ t. insn_of (laid flat 0 (flat_of (insn_in t))) ≡ insn_in t) o (read_back input flat at b e) in
    rw (o, le-leb _ _ z, q) (either-lifted (leb 13 (length s)) _ _)
