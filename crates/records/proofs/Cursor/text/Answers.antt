use Rattle.std.proofs.Common.{rules, leb, arith}
use Rattle.records.specs.Format.{text_at}
use Rattle.records.proofs.Sequence.{all_left, next, stops}
use Rattle.std.proofs.lemmas.Bool.{leb-true}
use Rattle.records.proofs.Leaves.{passed}
use Rattle.records.proofs.Letters.{begun, one, on, over}
use Rattle.records.proofs.Cursor.text.Goals as goal

pub returns-in_err-len : goal.returns-in_err-len
unfolding text_at
returns-in_err-len c = stops _ all_left (c.byte.ensures (λ b. leb b 32) (λ b r h p. search rules)) c.in_err-len.was c.from_residual.ensures

pub loop-i-init : goal.loop-i-init
unfolding text_at
loop-i-init c =
    let h = c.byte.ensures (λ b. leb b 32) (λ b r h p. search rules) in
    begun (leb-true _ _ (passed (λ b. leb b 32) _ h c.in_ok-len.was)) (next _ all_left h c.in_ok-len.was)

pub loop-i-preserved : goal.loop-i-preserved
loop-i-preserved c =
    let k = c.loop-i.invariant in
    on k _ (omega arith) (next _ (one k (omega arith)) (c.byte-in-loop-i.ensures (λ b. leb b 127) (λ b r h p. search rules)) c.in_ok-bytes.was)

pub returns-in_err-bytes : goal.returns-in_err-bytes
returns-in_err-bytes c =
    stops _ (one c.loop-i.invariant (omega arith)) (c.byte-in-loop-i.ensures (λ b. leb b 127) (λ b r h p. search rules)) c.in_err-bytes.was c.from_residual-in_err-bytes.ensures

pub returns : goal.returns
returns c = over c.loop-i.invariant (omega (arith, c.loop-i.auto.i-end))
