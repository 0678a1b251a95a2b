use Rattle.std.proofs.Common.{rules, leb}
use Rattle.records.specs.Format.{record_at}
use Rattle.records.proofs.Leaves.{le_8}
use Rattle.records.proofs.Sequence.{all_left, next, as_bytes, stops, done}
use Rattle.records.proofs.Cursor.record.Goals as goal

pub returns-in_err-bytes : goal.returns-in_err-bytes
unfolding record_at
returns-in_err-bytes c = stops _ (as_bytes 8 _ all_left) c.bytes.ensures c.in_err-bytes.was c.from_residual.ensures

pub returns-in_err-mnemonic : goal.returns-in_err-mnemonic
unfolding record_at
returns-in_err-mnemonic c =
    stops _ (next _ (as_bytes 8 _ all_left) c.bytes.ensures c.in_ok-bytes.was) c.text.ensures c.in_err-mnemonic.was c.from_residual-in_err-mnemonic.ensures

pub returns-in_err-count : goal.returns-in_err-count
unfolding record_at
returns-in_err-count c =
    stops _ (next _ (next _ (as_bytes 8 _ all_left) c.bytes.ensures c.in_ok-bytes.was) c.text.ensures c.in_ok-mnemonic.was)
    (c.byte.ensures (λ b. leb b 3) (λ b r h p. search rules)) c.in_err-count.was c.from_residual-in_err-count.ensures

pub returns-in_err-present : goal.returns-in_err-present
unfolding record_at
returns-in_err-present c =
    stops _ (next _ (next _ (next _ (as_bytes 8 _ all_left) c.bytes.ensures c.in_ok-bytes.was) c.text.ensures c.in_ok-mnemonic.was)
    (c.byte.ensures (λ b. leb b 3) (λ b r h p. search rules)) c.in_ok-count.was)
    c.present.ensures c.in_err-present.was c.from_residual-in_err-present.ensures

pub returns-in_err-present-2 : goal.returns-in_err-present-2
unfolding record_at
returns-in_err-present-2 c =
    stops _ (next _ (next _ (next _ (next _ (as_bytes 8 _ all_left) c.bytes.ensures c.in_ok-bytes.was) c.text.ensures c.in_ok-mnemonic.was)
    (c.byte.ensures (λ b. leb b 3) (λ b r h p. search rules)) c.in_ok-count.was)
    c.present.ensures c.in_ok-present.was)
    c.present-2.ensures c.in_err-present-2.was c.from_residual-in_err-present-2.ensures

pub returns-in_err-present-3 : goal.returns-in_err-present-3
unfolding record_at
returns-in_err-present-3 c =
    stops _ (next _ (next _ (next _ (next _ (next _ (as_bytes 8 _ all_left) c.bytes.ensures c.in_ok-bytes.was) c.text.ensures c.in_ok-mnemonic.was)
    (c.byte.ensures (λ b. leb b 3) (λ b r h p. search rules)) c.in_ok-count.was)
    c.present.ensures c.in_ok-present.was)
    c.present-2.ensures c.in_ok-present-2.was)
    c.present-3.ensures c.in_err-present-3.was c.from_residual-in_err-present-3.ensures

pub returns : goal.returns
unfolding record_at
returns c =
    rw (c.from_le_bytes-address.ensures, le_8 c.bytes.ensures c.in_ok-bytes.was)
    (done (next _ (next _ (next _ (next _ (next _ (next _ (as_bytes 8 _ all_left) c.bytes.ensures c.in_ok-bytes.was) c.text.ensures c.in_ok-mnemonic.was)
    (c.byte.ensures (λ b. leb b 3) (λ b r h p. search rules)) c.in_ok-count.was)
    c.present.ensures c.in_ok-present.was)
    c.present-2.ensures c.in_ok-present-2.was)
    c.present-3.ensures c.in_ok-present-3.was))
