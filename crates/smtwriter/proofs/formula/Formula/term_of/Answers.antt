use Rattle.std.proofs.Common.{append-nil, ne_eqb}
use Rattle.smttext.specs.Fill.{filled}
use Rattle.smttext.specs.Terms.{term_text}
use Rattle.writing.specs.Bytes.{bytes}
use Rattle.smtwriter.proofs.formula.Formula.term_of.Goals as goal

pub returns-in-6 : goal.returns-in-6
unfolding term_text filled bytes
returns-in-6 g c = rw (c.in-6.is, append-nil) (g.met.S.Sink.laws.then c.all.ensures c.binary.ensures)

pub returns-in-7 : goal.returns-in-7
unfolding term_text bytes
returns-in-7 g c = rw c.in-7.is c.fill.ensures

pub returns-in-8 : goal.returns-in-8
unfolding term_text bytes
returns-in-8 g c = rw c.in-8.is c.fill-in-8.ensures

pub returns-in-9 : goal.returns-in-9
unfolding term_text bytes
returns-in-9 g c = rw c.in-9.is c.fill-in-9.ensures

pub returns-in-10 : goal.returns-in-10
unfolding term_text bytes
returns-in-10 g c = rw c.in-10.is c.fill-in-10.ensures

pub returns-in-11 : goal.returns-in-11
unfolding term_text bytes
returns-in-11 g c = rw c.in-11.is c.fill-in-11.ensures

pub returns-in-12 : goal.returns-in-12
unfolding term_text bytes
returns-in-12 g c = rw c.in-12.is c.fill-in-12.ensures

pub returns-in-13 : goal.returns-in-13
unfolding term_text bytes
returns-in-13 g c = rw c.in-13.is c.fill-in-13.ensures

pub returns-in-14 : goal.returns-in-14
unfolding term_text bytes
returns-in-14 g c = rw c.in-14.is c.fill-in-14.ensures

pub returns-in-15 : goal.returns-in-15
unfolding term_text bytes
returns-in-15 g c = rw c.in-15.is c.fill-in-15.ensures

pub returns-in_default : goal.returns-in_default
unfolding term_text bytes
returns-in_default g c = simp (ne_eqb _ _ c.in_default.in_default-own.rest.1, ne_eqb _ _ c.in_default.in_default-own.rest.0.1, ne_eqb _ _ c.in_default.in_default-own.rest.0.0.1, ne_eqb _ _ c.in_default.in_default-own.rest.0.0.0.1, ne_eqb _ _ c.in_default.in_default-own.rest.0.0.0.0.1, ne_eqb _ _ c.in_default.in_default-own.rest.0.0.0.0.0.1, ne_eqb _ _ c.in_default.in_default-own.rest.0.0.0.0.0.0.1, ne_eqb _ _ c.in_default.in_default-own.rest.0.0.0.0.0.0.0.1, ne_eqb _ _ c.in_default.in_default-own.rest.0.0.0.0.0.0.0.0.1, ne_eqb _ _ c.in_default.in_default-own.rest.0.0.0.0.0.0.0.0.0.1) c.float_term.ensures
