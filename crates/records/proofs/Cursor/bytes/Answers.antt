use Rattle.std.proofs.Common.{refl}
use Rattle.records.proofs.Leaves.{chunk-found, chunk-missed}
use Rattle.records.proofs.Cursor.bytes.Goals as goal

pub returns : goal.returns
returns g c = record { comes = chunk-found _ _ _ _ _ c.min.ensures c.requires c.in-Some.ensures.cases; input = refl }

pub returns-in_default : goal.returns-in_default
returns-in_default g c =
    rw (c.short.ensures.0) (record { comes = rw c.short.ensures.1 (chunk-missed _ _ _ _ c.min.ensures c.requires c.in_default.ensures.cases); input = c.short.ensures.2 })
