use Rattle.std.proofs.Common.{◌∙◌, ap}
use Rattle.listing.proofs.Running.{goes-on, halts, nearer}
use Rattle.listing.proofs.turns.Goals as goal

-- A turn that takes a record: what the run comes to stays, and there is less ahead.
pub loop-next-smaller : goal.loop-next-smaller
loop-next-smaller c = nearer c.turn.ensures _ c.in-Continue.is

pub loop-next-preserved : goal.loop-next-preserved
loop-next-preserved c =
    record {
      same_input = ap (λ b. b.now) c.turn.ensures.input ∙ c.loop-next.invariant.same_input;
      comes = goes-on c.turn.ensures _ c.in-Continue.is ∙ c.loop-next.invariant.comes;
    }

pub returns-in-Break : goal.returns-in-Break
returns-in-Break c = rw c.loop-next.invariant.comes at (halts c.turn.ensures _ c.in-Break.is)
