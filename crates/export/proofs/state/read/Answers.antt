use Rattle.export.specs.Lifts.{state_in}
use Rattle.export.proofs.state.read.Goals as goal

pub returns : goal.returns
unfolding state_in
returns c = rw (c.low.ensures, c.low-2.ensures, c.low-3.ensures, c.low-4.ensures, c.low-5.ensures, c.low-6.ensures, c.low-7.ensures, c.low-8.ensures, c.low-9.ensures, c.low-10.ensures, c.low-11.ensures, c.low-12.ensures, c.low-13.ensures)
