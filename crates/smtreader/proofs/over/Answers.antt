use Rattle.smtreader.specs.Ran.{starts}
use Rattle.smtreader.proofs.over.Goals as goal

pub read-requires : goal.read-requires
read-requires g c = starts _ c.requires.0 c.requires.1
