use Rattle.smtgrammar.specs.Grammar.{size_at}
use Rattle.smtreader.proofs.Bounds.{declares-of}
use Rattle.smtreader.proofs.next.Reader.next.Goals as goal

pub declared-requires : goal.declared-requires
unfolding size_at
declared-requires c = let f = c.requires in let e = c.in-5.is in declares-of _ _ _ _ f e (rw e at f.below)
