use Rattle.std.proofs.Common.{rules, eqb, ◌||◌, eq-eqb, ne_eqb}
use Rattle.records.specs.Format.{taken_at, end_at}
use Rattle.records.proofs.Sequence.{all_left, turn, next, stops, ends}
use Rattle.records.proofs.Cursor.item.Goals as goal

pub returns-in_err-byte : goal.returns-in_err-byte
unfolding taken_at
returns-in_err-byte c = stops _ all_left (c.byte.ensures (λ b. eqb b 0x87 || eqb b 0x87) (λ b r h p. search rules)) c.in_err-byte.was c.from_residual.ensures

pub returns-in_err-byte-2 : goal.returns-in_err-byte-2
unfolding taken_at
returns-in_err-byte-2 c =
    stops _ (next _ all_left (c.byte.ensures (λ b. eqb b 0x87 || eqb b 0x87) (λ b r h p. search rules)) c.in_ok-byte.was)
    (c.byte-2.ensures (λ b. eqb b 0x49 || eqb b 0x45) (λ b r h p. search rules)) c.in_err-byte-2.was c.from_residual-in_err-byte-2.ensures

pub returns-in-73 : goal.returns-in-73
unfolding taken_at
returns-in-73 c =
    ends (turn (next _ (next _ all_left (c.byte.ensures (λ b. eqb b 0x87 || eqb b 0x87) (λ b r h p. search rules)) c.in_ok-byte.was)
    (c.byte-2.ensures (λ b. eqb b 0x49 || eqb b 0x45) (λ b r h p. search rules)) c.in_ok-byte-2.was) (λ n. rw (eq-eqb _ _ c.in-73.is)))
    c.«record».ensures

pub returns-in_default : goal.returns-in_default
unfolding taken_at
returns-in_default c =
    ends {f = end_at} (turn (next _ (next _ all_left (c.byte.ensures (λ b. eqb b 0x87 || eqb b 0x87) (λ b r h p. search rules)) c.in_ok-byte.was)
    (c.byte-2.ensures (λ b. eqb b 0x49 || eqb b 0x45) (λ b r h p. search rules)) c.in_ok-byte-2.was) (λ n. rw (ne_eqb c.in_ok-byte-2.field-0 73 (search rules))))
    c.end.ensures
