use Rattle.std.proofs.Common.{◌≡◌, take}
use Rattle.std.proofs.lemmas.List.Edits.{sets}
use Rattle.writing.proofs.WriterSink.all.Given as goal

-- so many bytes stand in the room
abbrev pub invariant-loop-i : goal.invariant-loop-i
invariant-loop-i l = l.room ≡ sets l.initial.room 0 (take l.i (take l.n l.text))
