-- The tables of the grammar that lent columns are. No choice looks at the second and the third fields.
use Rattle.std.specs.Prelude.{[]}
use Rattle.smtgrammar.specs.State as grammar
use Rattle.smtchoices.specs.declared.Tables.{Tables}

abbrev pub seen : Tables → grammar.Tables
seen t = record { kinds = t.kinds.now; field_a = t.firsts.now; field_b = []; field_c = []; sorts = t.sorts.now; lowest = t.lowest.now }
