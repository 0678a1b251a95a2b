use Rattle.smttext.specs.Names.{format_text}
use Rattle.writing.specs.Bytes.{bytes}
use Rattle.smttext.proofs.format.Goals as goal

pub returns : goal.returns
unfolding format_text bytes
returns g c = let s = g.met.S.Sink.laws in s.then c.decimal.ensures (s.then c.put.ensures c.decimal-2.ensures)
