use Rattle.std.proofs.Common.{rules, leb}
use Rattle.records.specs.Format.{memory_at}
use Rattle.records.proofs.Sequence.{all_left, next, as_bytes, stops, done}
use Rattle.records.proofs.Leaves.{le_2, le_4}
use Rattle.records.proofs.Cursor.memory.Goals as goal

pub returns-in_err-bytes : goal.returns-in_err-bytes
unfolding memory_at
returns-in_err-bytes c = stops _ (as_bytes 2 _ all_left) c.bytes.ensures c.in_err-bytes.was c.from_residual.ensures

pub returns-in_err-byte : goal.returns-in_err-byte
unfolding memory_at
returns-in_err-byte c =
    stops _ (next _ (as_bytes 2 _ all_left) c.bytes.ensures c.in_ok-bytes.was)
    (c.byte.ensures (λ b. leb b 1) (λ b r h p. search rules)) c.in_err-byte.was c.from_residual-in_err-byte.ensures

pub returns-in_err-bytes-2 : goal.returns-in_err-bytes-2
unfolding memory_at
returns-in_err-bytes-2 c =
    stops _ (as_bytes 4 _ (next _ (next _ (as_bytes 2 _ all_left) c.bytes.ensures c.in_ok-bytes.was)
    (c.byte.ensures (λ b. leb b 1) (λ b r h p. search rules)) c.in_ok-byte.was))
    c.bytes-2.ensures c.in_err-bytes-2.was c.from_residual-in_err-bytes-2.ensures

pub returns : goal.returns
unfolding memory_at
returns c =
    rw (c.from_le_bytes.ensures, c.from_le_bytes-2.ensures, c.from_le_bytes-3.ensures, le_2 c.bytes.ensures c.in_ok-bytes.was, le_4 c.bytes-2.ensures c.in_ok-bytes-2.was, le_4 c.bytes-3.ensures c.in_ok-bytes-3.was)
    (done (next _ (as_bytes 4 _ (next _ (as_bytes 4 _ (next _ (next _ (as_bytes 2 _ all_left) c.bytes.ensures c.in_ok-bytes.was)
    (c.byte.ensures (λ b. leb b 1) (λ b r h p. search rules)) c.in_ok-byte.was))
    c.bytes-2.ensures c.in_ok-bytes-2.was)) c.bytes-3.ensures c.in_ok-bytes-3.was))

pub returns-in_err-bytes-3 : goal.returns-in_err-bytes-3
unfolding memory_at
returns-in_err-bytes-3 c =
    stops _ (as_bytes 4 _ (next _ (as_bytes 4 _ (next _ (next _ (as_bytes 2 _ all_left) c.bytes.ensures c.in_ok-bytes.was)
    (c.byte.ensures (λ b. leb b 1) (λ b r h p. search rules)) c.in_ok-byte.was))
    c.bytes-2.ensures c.in_ok-bytes-2.was)) c.bytes-3.ensures c.in_err-bytes-3.was c.from_residual-in_err-bytes-3.ensures
