use Rattle.std.proofs.Common.{refl}
use Rattle.export.specs.Lifts.{state_words}
use Rattle.export.proofs.state.words.Goals as goal

pub returns : goal.returns
unfolding state_words
returns c = refl
