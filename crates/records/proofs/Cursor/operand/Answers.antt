use Rattle.std.proofs.Common.{arith, rules, leb, ◌≡◌, eq-eqb}
use Rattle.std.proofs.lemmas.Bool.{leb-true}
use Rattle.records.specs.Reading.{got}
use Rattle.records.specs.Format.{operand_at, register_at, register}
use Rattle.records.proofs.Leaves.{passed}
use Rattle.records.proofs.Sequence.{all_left, turn, next, stops, ends, done}
use Rattle.records.proofs.Cursor.operand.Goals as goal

pub returns-in_err-kind : goal.returns-in_err-kind
unfolding operand_at
returns-in_err-kind c = stops _ all_left (c.byte.ensures (λ b. leb b 2) (λ b r h p. search rules)) c.in_err-kind.was c.from_residual.ensures

pub returns-in_err-text-in-0 : goal.returns-in_err-text-in-0
unfolding operand_at register_at
returns-in_err-text-in-0 c =
    stops (λ t n. got (register t) n) (turn (next _ all_left (c.byte.ensures (λ b. leb b 2) (λ b r h p. search rules)) c.in_ok-kind.was) (λ n. rw (eq-eqb _ _ c.in-0.is)))
    c.text.ensures c.in_err-text-in-0.was c.from_residual-in_err-text-in-0.ensures

pub returns-in_ok-text-in-0 : goal.returns-in_ok-text-in-0
unfolding operand_at register_at
returns-in_ok-text-in-0 c =
    done (next (λ t n. got (register t) n) (turn (next _ all_left (c.byte.ensures (λ b. leb b 2) (λ b r h p. search rules)) c.in_ok-kind.was) (λ n. rw (eq-eqb _ _ c.in-0.is)))
    c.text.ensures c.in_ok-text-in-0.was)

pub returns-in-1 : goal.returns-in-1
unfolding operand_at
returns-in-1 c =
    ends (turn (next _ all_left (c.byte.ensures (λ b. leb b 2) (λ b r h p. search rules)) c.in_ok-kind.was) (λ n. rw c.in-1.is)) c.memory.ensures

pub returns-in_default : goal.returns-in_default
unfolding operand_at
returns-in_default c =
    let h = c.byte.ensures (λ b. leb b 2) (λ b r h p. search rules) in
    let k = leb-true _ _ (passed (λ b. leb b 2) _ h c.in_ok-kind.was) in
    let e : c.in_ok-kind.kind ≡ 2 = omega arith in
    rw e (done (turn (next _ all_left h c.in_ok-kind.was) (λ n. rw e)))
