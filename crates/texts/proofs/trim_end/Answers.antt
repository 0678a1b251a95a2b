use Rattle.std.proofs.Common.{sym, ◌∙◌}
use Rattle.texts.proofs.Laws.{cut-on, cut-stop, cut-end}
use Rattle.texts.proofs.trim_end.Goals as goal

pub loop-s-preserved : goal.loop-s-preserved
loop-s-preserved c = cut-on c.loop-s.s.now c.in-len1-up.len_at_least (sym c.blank.ensures ∙ c.if-not-blank.false) ∙ c.loop-s.invariant

pub returns-in_default : goal.returns-in_default
returns-in_default c = sym (cut-end c.loop-s.s.now c.in_default.len_below) ∙ c.loop-s.invariant

pub returns-then-not-blank : goal.returns-then-not-blank
returns-then-not-blank c = sym (cut-stop c.loop-s.s.now c.in-len1-up.len_at_least (sym c.blank.ensures ∙ c.if-not-blank.true)) ∙ c.loop-s.invariant
