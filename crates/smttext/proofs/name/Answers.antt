use Rattle.std.proofs.Common.{sym, ◌∙◌}
use Rattle.smttext.specs.Names.{name_from, declared_name, defined_name}
use Rattle.writing.specs.Bytes.{bytes}
use Rattle.smttext.proofs.name.Goals as goal

pub returns-then-is_declared : goal.returns-then-is_declared
unfolding name_from declared_name bytes
returns-then-is_declared g c =
    let s = g.met.S.Sink.laws in
    rw (sym c.is_declared.ensures ∙ c.if-is_declared.true)
    (s.then c.put.ensures (s.then c.decimal.ensures (s.then c.put-then-is_declared.ensures (s.then c.decimal-then-is_declared.ensures (s.then c.put-then-is_declared-2.ensures c.decimal-then-is_declared-2.ensures)))))

pub returns-else-is_declared : goal.returns-else-is_declared
unfolding name_from defined_name bytes
returns-else-is_declared g c =
    rw (sym c.is_declared.ensures ∙ c.if-is_declared.false)
    (g.met.S.Sink.laws.then c.put-else-is_declared.ensures c.decimal-else-is_declared.ensures)
