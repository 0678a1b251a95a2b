use Rattle.std.proofs.Common.{refl}
use Rattle.evaluator.proofs.Filled.{skip, as-kind}
use Rattle.sorts.specs.Lists.{row_sort}
use Rattle.sorts.specs.Sorts.{sort_row}
use Rattle.evaluator.proofs.table.node_sort.Goals as goal

pub returns-in-1 : goal.returns-in-1
unfolding sort_row
returns-in-1 c = as-kind c.args.nodes.now c.args.t.now c.args.i 1 _ c.requires.2 c.in-1.is c.of.ensures

pub returns-in-2 : goal.returns-in-2
unfolding sort_row
returns-in-2 c = as-kind c.args.nodes.now c.args.t.now c.args.i 2 _ c.requires.2 c.in-2.is c.of-in-2.ensures

pub returns-in-3 : goal.returns-in-3
unfolding sort_row
returns-in-3 c = as-kind c.args.nodes.now c.args.t.now c.args.i 3 _ c.requires.2 c.in-3.is c.of-in-3.ensures

pub returns-in-4 : goal.returns-in-4
unfolding sort_row
returns-in-4 c = as-kind c.args.nodes.now c.args.t.now c.args.i 4 _ c.requires.2 c.in-4.is c.of-in-4.ensures

pub returns-in-5 : goal.returns-in-5
unfolding sort_row
returns-in-5 c = as-kind c.args.nodes.now c.args.t.now c.args.i 5 _ c.requires.2 c.in-5.is c.of-in-5.ensures

pub returns-in-6 : goal.returns-in-6
unfolding sort_row
returns-in-6 c = as-kind c.args.nodes.now c.args.t.now c.args.i 6 _ c.requires.2 c.in-6.is c.of-in-6.ensures

pub returns-in-7 : goal.returns-in-7
unfolding sort_row
returns-in-7 c = as-kind c.args.nodes.now c.args.t.now c.args.i 7 _ c.requires.2 c.in-7.is c.of-in-7.ensures

pub returns-in-8 : goal.returns-in-8
unfolding sort_row
returns-in-8 c = as-kind c.args.nodes.now c.args.t.now c.args.i 8 _ c.requires.2 c.in-8.is c.of-in-8.ensures

pub returns-in-9 : goal.returns-in-9
unfolding sort_row
returns-in-9 c = as-kind c.args.nodes.now c.args.t.now c.args.i 9 _ c.requires.2 c.in-9.is c.of-in-9.ensures

pub returns-in-10 : goal.returns-in-10
unfolding sort_row
returns-in-10 c = as-kind c.args.nodes.now c.args.t.now c.args.i 10 _ c.requires.2 c.in-10.is c.of-in-10.ensures

pub returns-in-11 : goal.returns-in-11
unfolding sort_row
returns-in-11 c = as-kind c.args.nodes.now c.args.t.now c.args.i 11 _ c.requires.2 c.in-11.is c.of-in-11.ensures

pub returns-in-12 : goal.returns-in-12
unfolding sort_row
returns-in-12 c = as-kind c.args.nodes.now c.args.t.now c.args.i 12 _ c.requires.2 c.in-12.is c.of-in-12.ensures

pub returns-in-13 : goal.returns-in-13
unfolding sort_row
returns-in-13 c = as-kind c.args.nodes.now c.args.t.now c.args.i 13 _ c.requires.2 c.in-13.is c.of-in-13.ensures

pub returns-in-14 : goal.returns-in-14
unfolding sort_row
returns-in-14 c = as-kind c.args.nodes.now c.args.t.now c.args.i 14 _ c.requires.2 c.in-14.is c.of-in-14.ensures

pub returns-in-15 : goal.returns-in-15
unfolding sort_row
returns-in-15 c = as-kind c.args.nodes.now c.args.t.now c.args.i 15 _ c.requires.2 c.in-15.is c.of-in-15.ensures

pub returns-in-16 : goal.returns-in-16
unfolding sort_row
returns-in-16 c = as-kind c.args.nodes.now c.args.t.now c.args.i 16 _ c.requires.2 c.in-16.is c.of-in-16.ensures

pub returns-in-17 : goal.returns-in-17
unfolding sort_row
returns-in-17 c = as-kind c.args.nodes.now c.args.t.now c.args.i 17 _ c.requires.2 c.in-17.is c.of-in-17.ensures

pub returns-in-18 : goal.returns-in-18
unfolding sort_row
returns-in-18 c = as-kind c.args.nodes.now c.args.t.now c.args.i 18 _ c.requires.2 c.in-18.is c.of-in-18.ensures

pub returns-in-19 : goal.returns-in-19
unfolding sort_row
returns-in-19 c = as-kind c.args.nodes.now c.args.t.now c.args.i 19 _ c.requires.2 c.in-19.is c.of-in-19.ensures

pub returns-in-20 : goal.returns-in-20
unfolding sort_row
returns-in-20 c = as-kind c.args.nodes.now c.args.t.now c.args.i 20 _ c.requires.2 c.in-20.is c.of-in-20.ensures

pub returns-in-21 : goal.returns-in-21
unfolding sort_row
returns-in-21 c = as-kind c.args.nodes.now c.args.t.now c.args.i 21 _ c.requires.2 c.in-21.is c.of-in-21.ensures

pub returns-in-22 : goal.returns-in-22
unfolding sort_row
returns-in-22 c = as-kind c.args.nodes.now c.args.t.now c.args.i 22 _ c.requires.2 c.in-22.is c.of-in-22.ensures

pub returns-in-23 : goal.returns-in-23
unfolding sort_row
returns-in-23 c = as-kind c.args.nodes.now c.args.t.now c.args.i 23 _ c.requires.2 c.in-23.is c.of-in-23.ensures

pub returns-in-24 : goal.returns-in-24
unfolding sort_row
returns-in-24 c = as-kind c.args.nodes.now c.args.t.now c.args.i 24 _ c.requires.2 c.in-24.is c.of-in-24.ensures

pub returns-in-25 : goal.returns-in-25
unfolding sort_row
returns-in-25 c = as-kind c.args.nodes.now c.args.t.now c.args.i 25 _ c.requires.2 c.in-25.is c.of-in-25.ensures

pub returns-in-26 : goal.returns-in-26
unfolding sort_row
returns-in-26 c = as-kind c.args.nodes.now c.args.t.now c.args.i 26 _ c.requires.2 c.in-26.is c.of-in-26.ensures

pub returns-in-27 : goal.returns-in-27
unfolding sort_row
returns-in-27 c = as-kind c.args.nodes.now c.args.t.now c.args.i 27 _ c.requires.2 c.in-27.is c.of-in-27.ensures

pub returns-in-28 : goal.returns-in-28
unfolding sort_row
returns-in-28 c = as-kind c.args.nodes.now c.args.t.now c.args.i 28 _ c.requires.2 c.in-28.is c.of-in-28.ensures

pub returns-in-29 : goal.returns-in-29
unfolding sort_row
returns-in-29 c = as-kind c.args.nodes.now c.args.t.now c.args.i 29 _ c.requires.2 c.in-29.is c.of-in-29.ensures

pub returns-in_default : goal.returns-in_default
unfolding sort_row row_sort
returns-in_default c =
    skip _ 1 _ _ c.in_default.in_default-own.rest.0.0.0.0.0.0.0.0.0.0.0.0.0.0.0.0.0.0.0.0.0.0.0.0.0.0.0.0.1
    (skip _ 2 _ _ c.in_default.in_default-own.rest.0.0.0.0.0.0.0.0.0.0.0.0.0.0.0.0.0.0.0.0.0.0.0.0.0.0.0.1
    (skip _ 3 _ _ c.in_default.in_default-own.rest.0.0.0.0.0.0.0.0.0.0.0.0.0.0.0.0.0.0.0.0.0.0.0.0.0.0.1
    (skip _ 4 _ _ c.in_default.in_default-own.rest.0.0.0.0.0.0.0.0.0.0.0.0.0.0.0.0.0.0.0.0.0.0.0.0.0.1
    (skip _ 5 _ _ c.in_default.in_default-own.rest.0.0.0.0.0.0.0.0.0.0.0.0.0.0.0.0.0.0.0.0.0.0.0.0.1
    (skip _ 6 _ _ c.in_default.in_default-own.rest.0.0.0.0.0.0.0.0.0.0.0.0.0.0.0.0.0.0.0.0.0.0.0.1
    (skip _ 7 _ _ c.in_default.in_default-own.rest.0.0.0.0.0.0.0.0.0.0.0.0.0.0.0.0.0.0.0.0.0.0.1
    (skip _ 8 _ _ c.in_default.in_default-own.rest.0.0.0.0.0.0.0.0.0.0.0.0.0.0.0.0.0.0.0.0.0.1
    (skip _ 9 _ _ c.in_default.in_default-own.rest.0.0.0.0.0.0.0.0.0.0.0.0.0.0.0.0.0.0.0.0.1
    (skip _ 10 _ _ c.in_default.in_default-own.rest.0.0.0.0.0.0.0.0.0.0.0.0.0.0.0.0.0.0.0.1
    (skip _ 11 _ _ c.in_default.in_default-own.rest.0.0.0.0.0.0.0.0.0.0.0.0.0.0.0.0.0.0.1
    (skip _ 12 _ _ c.in_default.in_default-own.rest.0.0.0.0.0.0.0.0.0.0.0.0.0.0.0.0.0.1
    (skip _ 13 _ _ c.in_default.in_default-own.rest.0.0.0.0.0.0.0.0.0.0.0.0.0.0.0.0.1
    (skip _ 14 _ _ c.in_default.in_default-own.rest.0.0.0.0.0.0.0.0.0.0.0.0.0.0.0.1
    (skip _ 15 _ _ c.in_default.in_default-own.rest.0.0.0.0.0.0.0.0.0.0.0.0.0.0.1
    (skip _ 16 _ _ c.in_default.in_default-own.rest.0.0.0.0.0.0.0.0.0.0.0.0.0.1
    (skip _ 17 _ _ c.in_default.in_default-own.rest.0.0.0.0.0.0.0.0.0.0.0.0.1
    (skip _ 18 _ _ c.in_default.in_default-own.rest.0.0.0.0.0.0.0.0.0.0.0.1
    (skip _ 19 _ _ c.in_default.in_default-own.rest.0.0.0.0.0.0.0.0.0.0.1
    (skip _ 20 _ _ c.in_default.in_default-own.rest.0.0.0.0.0.0.0.0.0.1
    (skip _ 21 _ _ c.in_default.in_default-own.rest.0.0.0.0.0.0.0.0.1
    (skip _ 22 _ _ c.in_default.in_default-own.rest.0.0.0.0.0.0.0.1
    (skip _ 23 _ _ c.in_default.in_default-own.rest.0.0.0.0.0.0.1
    (skip _ 24 _ _ c.in_default.in_default-own.rest.0.0.0.0.0.1
    (skip _ 25 _ _ c.in_default.in_default-own.rest.0.0.0.0.1
    (skip _ 26 _ _ c.in_default.in_default-own.rest.0.0.0.1
    (skip _ 27 _ _ c.in_default.in_default-own.rest.0.0.1
    (skip _ 28 _ _ c.in_default.in_default-own.rest.0.1
    (skip _ 29 _ _ c.in_default.in_default-own.rest.1
    refl))))))))))))))))))))))))))))
