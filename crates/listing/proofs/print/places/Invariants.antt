use Rattle.std.proofs.Common.{take}
use Rattle.listing.specs.Text.{numbers}
use Rattle.listing.proofs.print.places.Given as goal

abbrev pub invariant-loop-slot : goal.invariant-loop-slot
invariant-loop-slot g l = g.S.Sink.took (numbers (take l.slot-index l.slot-items)) l.initial.out l.out
