use Rattle.std.proofs.Common.{sym, ◌∙◌, arith, length}
use Rattle.evaluator.proofs.Ends.{ended, stopped}
use Rattle.evaluator.proofs.Filled.{enough, scanned}
use Rattle.evaluator.proofs.Node.{kinds}
use Rattle.evaluator.specs.Laws.{done-fits, table-checked}
use Rattle.sorts.specs.Laws.{passed-room}
use Rattle.evaluator.proofs.evaluate_in.Goals as goal

pub whole_as_slice-fill : goal.whole_as_slice-fill
whole_as_slice-fill g c = let h = c.requires.0.most in omega arith

pub shared_whole_as_slice-first_wide : goal.shared_whole_as_slice-first_wide
shared_whole_as_slice-first_wide g c = let h = c.requires.0.most in omega arith

pub shared_whole_as_slice-run : goal.shared_whole_as_slice-run
shared_whole_as_slice-run g c = let h = c.requires.0.most in omega arith

pub first_wide-requires : goal.first_wide-requires
first_wide-requires g c =
    let m = enough g.row.N c.args.count c.requires.0.enough in
    let t = c.fill.ensures in
    let p = c.in_ok-fill.was in
    (scanned _ _ _ _ _ _ m t p c.requires.1.gave, kinds _ _ (passed-room _ _ (sym (table-checked m t) ∙ p)).passes)

pub run-requires : goal.run-requires
run-requires g c =
    let m = enough g.row.N c.args.count c.requires.0.enough in
    let t = c.fill.ensures in
    let p = c.in_ok-fill.was in
    record {
      scan = scanned _ _ _ _ _ _ m t p c.requires.1.gave;
      room = (let m = c.requires.1.room in omega arith);
      passes = (passed-room _ _ (sym (table-checked m t) ∙ p)).passes;
      given = done-fits _ _ _ (sym c.first_wide.ensures ∙ c.in_ok-first_wide.was);
    }

pub returns-in_err-fill : goal.returns-in_err-fill
returns-in_err-fill g c =
    let a = c.args in
    let m = enough g.row.N a.count c.requires.0.enough in
    stopped a.nodes.now a.given.now a.column.now a.count c.from_residual.result _ _ c.from_residual.ensures.1
    (ended a.nodes.now a.given.now a.count (length a.column.now) _ _ c.requires.1.gave c.requires.1.room (table-checked m c.fill.ensures) c.in_err-fill.was)

pub returns-in_err-first_wide : goal.returns-in_err-first_wide
returns-in_err-first_wide g c =
    let a = c.args in
    let m = enough g.row.N a.count c.requires.0.enough in
    stopped a.nodes.now a.given.now a.column.now a.count c.from_residual-in_err-first_wide.result _ _ c.from_residual-in_err-first_wide.ensures.1
    (ended a.nodes.now a.given.now a.count (length a.column.now) _ _ c.requires.1.gave c.requires.1.room (table-checked m c.fill.ensures) c.in_ok-fill.was ∙ sym c.first_wide.ensures ∙ c.in_err-first_wide.was)

pub returns : goal.returns
returns g c =
    let a = c.args in
    let m = enough g.row.N a.count c.requires.0.enough in
    (sym (ended a.nodes.now a.given.now a.count (length a.column.now) _ _ c.requires.1.gave c.requires.1.room (table-checked m c.fill.ensures) c.in_ok-fill.was ∙ sym c.first_wide.ensures ∙ c.in_ok-first_wide.was), c.run.ensures)
