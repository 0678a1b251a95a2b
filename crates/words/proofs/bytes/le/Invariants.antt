use Rattle.std.proofs.Common.{◌≡◌, ◌+◌, ◌<◌, ◌^◌, min, ◌-◌}
use Rattle.words.specs.Bytes.{number_in}
use Rattle.words.proofs.bytes.le.Given as goal

abbrev pub invariant-loop-i : goal.invariant-loop-i
invariant-loop-i g l = record { counts : l.number ≡ number_in l.s (l.at + l.i) (min g.row.N 8 - l.i); small : l.number < 256 ^ (min g.row.N 8 - l.i) }
