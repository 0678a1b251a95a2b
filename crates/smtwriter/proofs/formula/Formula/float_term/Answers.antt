use Rattle.std.proofs.Common.{ne_eqb}
use Rattle.smttext.specs.Terms.{float_text}
use Rattle.writing.specs.Bytes.{bytes}
use Rattle.smtwriter.proofs.formula.Formula.float_term.Goals as goal

pub returns-in-16 : goal.returns-in-16
unfolding float_text bytes
returns-in-16 g c = rw c.in-16.is c.fill.ensures

pub returns-in-17 : goal.returns-in-17
unfolding float_text bytes
returns-in-17 g c = rw c.in-17.is c.fill-in-17.ensures

pub returns-in-18 : goal.returns-in-18
unfolding float_text bytes
returns-in-18 g c = rw c.in-18.is c.fill-in-18.ensures

pub returns-in-19 : goal.returns-in-19
unfolding float_text bytes
returns-in-19 g c = rw c.in-19.is c.fill-in-19.ensures

pub returns-in-20 : goal.returns-in-20
unfolding float_text bytes
returns-in-20 g c = rw c.in-20.is c.fill-in-20.ensures

pub returns-in-21 : goal.returns-in-21
unfolding float_text bytes
returns-in-21 g c = rw c.in-21.is c.fill-in-21.ensures

pub returns-in-22 : goal.returns-in-22
unfolding float_text bytes
returns-in-22 g c = rw c.in-22.is c.fill-in-22.ensures

pub returns-in-23 : goal.returns-in-23
unfolding float_text bytes
returns-in-23 g c = rw c.in-23.is c.fill-in-23.ensures

pub returns-in-24 : goal.returns-in-24
unfolding float_text bytes
returns-in-24 g c = rw c.in-24.is c.fill-in-24.ensures

pub returns-in-25 : goal.returns-in-25
unfolding float_text bytes
returns-in-25 g c = rw c.in-25.is c.fill-in-25.ensures

pub returns-in-27 : goal.returns-in-27
unfolding float_text bytes
returns-in-27 g c = rw c.in-27.is c.fill-in-27.ensures

pub returns-in_default : goal.returns-in_default
unfolding float_text bytes
returns-in_default g c = simp (ne_eqb _ _ c.in_default.in_default-own.rest.1, ne_eqb _ _ c.in_default.in_default-own.rest.0.1, ne_eqb _ _ c.in_default.in_default-own.rest.0.0.1, ne_eqb _ _ c.in_default.in_default-own.rest.0.0.0.1, ne_eqb _ _ c.in_default.in_default-own.rest.0.0.0.0.1, ne_eqb _ _ c.in_default.in_default-own.rest.0.0.0.0.0.1, ne_eqb _ _ c.in_default.in_default-own.rest.0.0.0.0.0.0.1, ne_eqb _ _ c.in_default.in_default-own.rest.0.0.0.0.0.0.0.1, ne_eqb _ _ c.in_default.in_default-own.rest.0.0.0.0.0.0.0.0.1, ne_eqb _ _ c.in_default.in_default-own.rest.0.0.0.0.0.0.0.0.0.1, ne_eqb _ _ c.in_default.in_default-own.rest.0.0.0.0.0.0.0.0.0.0.1) c.fill-in_default.ensures
