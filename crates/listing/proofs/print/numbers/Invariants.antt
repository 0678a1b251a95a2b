use Rattle.std.proofs.Common.{take}
use Rattle.listing.specs.Text.{numbers}
use Rattle.listing.proofs.print.numbers.Given as goal

abbrev pub invariant-loop-v : goal.invariant-loop-v
invariant-loop-v g l = g.S.Sink.took (numbers (take l.v-index l.values)) l.initial.out l.out
