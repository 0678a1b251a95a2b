use Rattle.std.proofs.Common.{ne_eqb}
use Rattle.smtgrammar.specs.Allowed.{ok_at}
use Rattle.smtchoices.proofs.ok_at.Goals as goal

pub returns-in_default : goal.returns-in_default
unfolding ok_at
returns-in_default c = let r = c.in_default.in_default-own.rest in simp (ne_eqb _ _ r.1, ne_eqb _ _ r.0.1, ne_eqb _ _ r.0.0.1, ne_eqb _ _ r.0.0.0.1, ne_eqb _ _ r.0.0.0.0.1, ne_eqb _ _ r.0.0.0.0.0.1) c.defining_ok.ensures
