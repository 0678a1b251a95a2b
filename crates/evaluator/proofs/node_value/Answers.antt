use Rattle.std.proofs.Common.{refl, ◌∙◌, arith}
use Rattle.evaluator.proofs.Node.{plain, given-else, first, second, names, sort-of, and-ready, or-ready, not-ready, ite-ready, concat-ready, equal-ready, less-ready, operands-ready, value-by}
use Rattle.evaluator.specs.Lists.{row_value}
use Rattle.evaluator.specs.Value.{computed}
use Rattle.needs.specs.Needed.{arity}
use Rattle.sorts.specs.Lists.{field, row_sort}
use Rattle.words.specs.Wide.{val}
use Rattle.evaluator.proofs.node_value.Goals as goal

pub compute_at-requires : goal.compute_at-requires
unfolding arity
compute_at-requires c =
    let a = c.args in
    let k = c.in-6.is in
    operands-ready a.nodes.now a.given.now a.t.now a.column.now a.i c.requires 6 k 0 0 0 refl (plain 6 0 0 _ _ refl)

pub returns-in-6 : goal.returns-in-6
unfolding computed arity
returns-in-6 c =
    let a = c.args in
    let k = c.in-6.is in
    value-by a.nodes.now a.given.now a.t.now a.column.now a.i c.requires 6 k 0 (val c.compute_at.result) 0 0 refl refl c.compute_at.ensures refl

pub compute_at-requires-in-7 : goal.compute_at-requires-in-7
unfolding arity
compute_at-requires-in-7 c =
    let a = c.args in
    let k = c.in-7.is in
    operands-ready a.nodes.now a.given.now a.t.now a.column.now a.i c.requires 7 k 2 0 0 refl (plain 7 0 0 _ _ refl)

pub returns-in-7 : goal.returns-in-7
unfolding computed arity
returns-in-7 c =
    let a = c.args in
    let k = c.in-7.is in
    value-by a.nodes.now a.given.now a.t.now a.column.now a.i c.requires 7 k 2 (val c.compute_at-in-7.result) 0 0 refl refl c.compute_at-in-7.ensures refl

pub compute_at-requires-in-8 : goal.compute_at-requires-in-8
unfolding arity
compute_at-requires-in-8 c =
    let a = c.args in
    let k = c.in-8.is in
    operands-ready a.nodes.now a.given.now a.t.now a.column.now a.i c.requires 8 k 2 0 0 refl (plain 8 0 0 _ _ refl)

pub returns-in-8 : goal.returns-in-8
unfolding computed arity
returns-in-8 c =
    let a = c.args in
    let k = c.in-8.is in
    value-by a.nodes.now a.given.now a.t.now a.column.now a.i c.requires 8 k 2 (val c.compute_at-in-8.result) 0 0 refl refl c.compute_at-in-8.ensures refl

pub compute_at-requires-in-9 : goal.compute_at-requires-in-9
unfolding arity
compute_at-requires-in-9 c =
    let a = c.args in
    let k = c.in-9.is in
    operands-ready a.nodes.now a.given.now a.t.now a.column.now a.i c.requires 9 k 2 0 0 refl (plain 9 0 0 _ _ refl)

pub returns-in-9 : goal.returns-in-9
unfolding computed arity
returns-in-9 c =
    let a = c.args in
    let k = c.in-9.is in
    value-by a.nodes.now a.given.now a.t.now a.column.now a.i c.requires 9 k 2 (val c.compute_at-in-9.result) 0 0 refl refl c.compute_at-in-9.ensures refl

pub compute_at-requires-in-10 : goal.compute_at-requires-in-10
unfolding arity
compute_at-requires-in-10 c =
    let a = c.args in
    let k = c.in-10.is in
    operands-ready a.nodes.now a.given.now a.t.now a.column.now a.i c.requires 10 k 2 0 0 refl (and-ready a.nodes.now a.given.now a.t.now a.column.now a.i c.requires k)

pub returns-in-10 : goal.returns-in-10
unfolding computed arity
returns-in-10 c =
    let a = c.args in
    let k = c.in-10.is in
    value-by a.nodes.now a.given.now a.t.now a.column.now a.i c.requires 10 k 2 (val c.compute_at-in-10.result) 0 0 refl refl c.compute_at-in-10.ensures refl

pub compute_at-requires-in-11 : goal.compute_at-requires-in-11
unfolding arity
compute_at-requires-in-11 c =
    let a = c.args in
    let k = c.in-11.is in
    operands-ready a.nodes.now a.given.now a.t.now a.column.now a.i c.requires 11 k 2 0 0 refl (or-ready a.nodes.now a.given.now a.t.now a.column.now a.i c.requires k)

pub returns-in-11 : goal.returns-in-11
unfolding computed arity
returns-in-11 c =
    let a = c.args in
    let k = c.in-11.is in
    value-by a.nodes.now a.given.now a.t.now a.column.now a.i c.requires 11 k 2 (val c.compute_at-in-11.result) 0 0 refl refl c.compute_at-in-11.ensures refl

pub compute_at-requires-in-12 : goal.compute_at-requires-in-12
unfolding arity
compute_at-requires-in-12 c =
    let a = c.args in
    let k = c.in-12.is in
    operands-ready a.nodes.now a.given.now a.t.now a.column.now a.i c.requires 12 k 1 0 0 refl (not-ready a.nodes.now a.given.now a.t.now a.column.now a.i c.requires k)

pub returns-in-12 : goal.returns-in-12
unfolding computed arity
returns-in-12 c =
    let a = c.args in
    let k = c.in-12.is in
    value-by a.nodes.now a.given.now a.t.now a.column.now a.i c.requires 12 k 1 (val c.compute_at-in-12.result) 0 0 refl refl c.compute_at-in-12.ensures refl

pub compute_at-requires-in-13 : goal.compute_at-requires-in-13
unfolding arity
compute_at-requires-in-13 c =
    let a = c.args in
    let k = c.in-13.is in
    operands-ready a.nodes.now a.given.now a.t.now a.column.now a.i c.requires 13 k 3 0 0 refl (ite-ready a.nodes.now a.given.now a.t.now a.column.now a.i c.requires k)

pub returns-in-13 : goal.returns-in-13
unfolding computed arity
returns-in-13 c =
    let a = c.args in
    let k = c.in-13.is in
    value-by a.nodes.now a.given.now a.t.now a.column.now a.i c.requires 13 k 3 (val c.compute_at-in-13.result) 0 0 refl refl c.compute_at-in-13.ensures refl

pub compute_at-requires-in-14 : goal.compute_at-requires-in-14
unfolding arity
compute_at-requires-in-14 c =
    let a = c.args in
    let k = c.in-14.is in
    operands-ready a.nodes.now a.given.now a.t.now a.column.now a.i c.requires 14 k 1 0 0 refl (plain 14 0 0 _ _ refl)

pub returns-in-14 : goal.returns-in-14
unfolding computed arity
returns-in-14 c =
    let a = c.args in
    let k = c.in-14.is in
    value-by a.nodes.now a.given.now a.t.now a.column.now a.i c.requires 14 k 1 (val c.compute_at-in-14.result) 0 0 refl refl c.compute_at-in-14.ensures refl

pub sort_at-requires : goal.sort_at-requires
unfolding arity
sort_at-requires c = let a = c.args in names a.nodes.now a.given.now a.t.now a.column.now a.i c.requires 2 (omega arith) (second a.nodes.now a.given.now a.t.now a.column.now a.i c.requires 15 c.in-15.is refl)

pub compute_at-requires-in-15 : goal.compute_at-requires-in-15
unfolding arity
compute_at-requires-in-15 c =
    let a = c.args in
    let k = c.in-15.is in
    operands-ready a.nodes.now a.given.now a.t.now a.column.now a.i c.requires 15 k 2 0 c.sort_at.result refl (concat-ready a.nodes.now a.given.now a.t.now a.column.now a.i c.requires c.sort_at.result k (c.sort_at.ensures ∙ sort-of a.nodes.now a.given.now a.t.now a.column.now a.i c.requires (field a.nodes.now a.i 2) (second a.nodes.now a.given.now a.t.now a.column.now a.i c.requires 15 k refl)))

pub returns-in-15 : goal.returns-in-15
unfolding computed arity
returns-in-15 c =
    let a = c.args in
    let k = c.in-15.is in
    value-by a.nodes.now a.given.now a.t.now a.column.now a.i c.requires 15 k 2 (val c.compute_at-in-15.result) 0 c.sort_at.result refl refl c.compute_at-in-15.ensures (rw (c.sort_at.ensures ∙ sort-of a.nodes.now a.given.now a.t.now a.column.now a.i c.requires (field a.nodes.now a.i 2) (second a.nodes.now a.given.now a.t.now a.column.now a.i c.requires 15 k refl)))

pub sort_at-requires-in-20 : goal.sort_at-requires-in-20
unfolding arity
sort_at-requires-in-20 c = let a = c.args in names a.nodes.now a.given.now a.t.now a.column.now a.i c.requires 1 (omega arith) (first a.nodes.now a.given.now a.t.now a.column.now a.i c.requires 20 c.in-20.is refl)

pub compute_at-requires-in-20 : goal.compute_at-requires-in-20
unfolding arity
compute_at-requires-in-20 c =
    let a = c.args in
    let k = c.in-20.is in
    operands-ready a.nodes.now a.given.now a.t.now a.column.now a.i c.requires 20 k 2 c.sort_at-in-20.result 0 refl (equal-ready a.nodes.now a.given.now a.t.now a.column.now a.i c.requires c.sort_at-in-20.result k (c.sort_at-in-20.ensures ∙ sort-of a.nodes.now a.given.now a.t.now a.column.now a.i c.requires (field a.nodes.now a.i 1) (first a.nodes.now a.given.now a.t.now a.column.now a.i c.requires 20 k refl)))

pub returns-in-20 : goal.returns-in-20
unfolding computed arity
returns-in-20 c =
    let a = c.args in
    let k = c.in-20.is in
    value-by a.nodes.now a.given.now a.t.now a.column.now a.i c.requires 20 k 2 (val c.compute_at-in-20.result) c.sort_at-in-20.result 0 refl refl c.compute_at-in-20.ensures (rw (c.sort_at-in-20.ensures ∙ sort-of a.nodes.now a.given.now a.t.now a.column.now a.i c.requires (field a.nodes.now a.i 1) (first a.nodes.now a.given.now a.t.now a.column.now a.i c.requires 20 k refl)))

pub sort_at-requires-in-21 : goal.sort_at-requires-in-21
unfolding arity
sort_at-requires-in-21 c = let a = c.args in names a.nodes.now a.given.now a.t.now a.column.now a.i c.requires 1 (omega arith) (first a.nodes.now a.given.now a.t.now a.column.now a.i c.requires 21 c.in-21.is refl)

pub compute_at-requires-in-21 : goal.compute_at-requires-in-21
unfolding arity
compute_at-requires-in-21 c =
    let a = c.args in
    let k = c.in-21.is in
    operands-ready a.nodes.now a.given.now a.t.now a.column.now a.i c.requires 21 k 2 c.sort_at-in-21.result 0 refl (less-ready a.nodes.now a.given.now a.t.now a.column.now a.i c.requires c.sort_at-in-21.result k (c.sort_at-in-21.ensures ∙ sort-of a.nodes.now a.given.now a.t.now a.column.now a.i c.requires (field a.nodes.now a.i 1) (first a.nodes.now a.given.now a.t.now a.column.now a.i c.requires 21 k refl)))

pub returns-in-21 : goal.returns-in-21
unfolding computed arity
returns-in-21 c =
    let a = c.args in
    let k = c.in-21.is in
    value-by a.nodes.now a.given.now a.t.now a.column.now a.i c.requires 21 k 2 (val c.compute_at-in-21.result) c.sort_at-in-21.result 0 refl refl c.compute_at-in-21.ensures (rw (c.sort_at-in-21.ensures ∙ sort-of a.nodes.now a.given.now a.t.now a.column.now a.i c.requires (field a.nodes.now a.i 1) (first a.nodes.now a.given.now a.t.now a.column.now a.i c.requires 21 k refl)))

pub sort_at-requires-in-22 : goal.sort_at-requires-in-22
unfolding arity
sort_at-requires-in-22 c = let a = c.args in names a.nodes.now a.given.now a.t.now a.column.now a.i c.requires 1 (omega arith) (first a.nodes.now a.given.now a.t.now a.column.now a.i c.requires 22 c.in-22.is refl)

pub compute_at-requires-in-22 : goal.compute_at-requires-in-22
unfolding arity
compute_at-requires-in-22 c =
    let a = c.args in
    let k = c.in-22.is in
    operands-ready a.nodes.now a.given.now a.t.now a.column.now a.i c.requires 22 k 1 c.sort_at-in-22.result 0 refl (plain 22 c.sort_at-in-22.result 0 _ _ refl)

pub returns-in-22 : goal.returns-in-22
unfolding computed arity
returns-in-22 c =
    let a = c.args in
    let k = c.in-22.is in
    value-by a.nodes.now a.given.now a.t.now a.column.now a.i c.requires 22 k 1 (val c.compute_at-in-22.result) c.sort_at-in-22.result 0 refl refl c.compute_at-in-22.ensures (rw (c.sort_at-in-22.ensures ∙ sort-of a.nodes.now a.given.now a.t.now a.column.now a.i c.requires (field a.nodes.now a.i 1) (first a.nodes.now a.given.now a.t.now a.column.now a.i c.requires 22 k refl)))

pub compute_at-requires-in-25 : goal.compute_at-requires-in-25
unfolding arity
compute_at-requires-in-25 c =
    let a = c.args in
    let k = c.in-25.is in
    operands-ready a.nodes.now a.given.now a.t.now a.column.now a.i c.requires 25 k 1 0 0 refl (plain 25 0 0 _ _ refl)

pub returns-in-25 : goal.returns-in-25
unfolding computed arity
returns-in-25 c =
    let a = c.args in
    let k = c.in-25.is in
    value-by a.nodes.now a.given.now a.t.now a.column.now a.i c.requires 25 k 1 (val c.compute_at-in-25.result) 0 0 refl refl c.compute_at-in-25.ensures refl

pub compute_at-requires-in-26 : goal.compute_at-requires-in-26
unfolding arity
compute_at-requires-in-26 c =
    let a = c.args in
    let k = c.in-26.is in
    operands-ready a.nodes.now a.given.now a.t.now a.column.now a.i c.requires 26 k 1 0 0 refl (plain 26 0 0 _ _ refl)

pub returns-in-26 : goal.returns-in-26
unfolding computed arity
returns-in-26 c =
    let a = c.args in
    let k = c.in-26.is in
    value-by a.nodes.now a.given.now a.t.now a.column.now a.i c.requires 26 k 1 (val c.compute_at-in-26.result) 0 0 refl refl c.compute_at-in-26.ensures refl

pub returns-in_default : goal.returns-in_default
unfolding row_value row_sort
returns-in_default c =
    let r = c.requires in
    rw (given-else _ _ _ _ _ _ _ c.in_default.in_default-own.rest.0.0.0.0.0.0.0.0.0.0.0.0.0.0.1 c.in_default.in_default-own.rest.0.0.0.0.0.0.0.0.0.0.0.0.0.1 c.in_default.in_default-own.rest.0.0.0.0.0.0.0.0.0.0.0.0.1 c.in_default.in_default-own.rest.0.0.0.0.0.0.0.0.0.0.0.1 c.in_default.in_default-own.rest.0.0.0.0.0.0.0.0.0.0.1 c.in_default.in_default-own.rest.0.0.0.0.0.0.0.0.0.1 c.in_default.in_default-own.rest.0.0.0.0.0.0.0.0.1 c.in_default.in_default-own.rest.0.0.0.0.0.0.0.1 c.in_default.in_default-own.rest.0.0.0.0.0.0.1 c.in_default.in_default-own.rest.0.0.0.0.0.1 c.in_default.in_default-own.rest.0.0.0.0.1 c.in_default.in_default-own.rest.0.0.0.1 c.in_default.in_default-own.rest.0.0.1 c.in_default.in_default-own.rest.0.1 c.in_default.in_default-own.rest.1 r.sorted, c.hold.ensures, c.from.ensures ∙ r.own, c.pair_at.ensures)
