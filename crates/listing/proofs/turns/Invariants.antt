use Rattle.std.proofs.Common.{◌≡◌, ◌-◌, length}
use Rattle.listing.proofs.Running.{whole}
use Rattle.listing.proofs.turns.Given as goal

-- What the run comes to from the reader's place on is what the whole run comes to.
abbrev pub invariant-loop-next : goal.invariant-loop-next
invariant-loop-next l =
    record {
      same_input : l.reader.input.now ≡ l.input;
      comes : whole l.reader.input.now l.reader.at l.state l.nodes l.statements ≡ whole l.input 0 l.initial.state l.initial.nodes l.initial.statements;
    }

abbrev pub decreases-loop-next : goal.decreases-loop-next
decreases-loop-next l = length l.reader.input.now - l.reader.at
