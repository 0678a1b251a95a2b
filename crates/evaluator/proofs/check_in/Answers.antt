use Rattle.std.proofs.Common.{arith}
use Rattle.evaluator.proofs.Filled.{enough}
use Rattle.evaluator.specs.Laws.{table-checked}
use Rattle.evaluator.proofs.check_in.Goals as goal

pub returns : goal.returns
returns g c = table-checked (enough g.row.N c.args.count c.requires.enough) c.fill.ensures

pub whole_as_slice-fill : goal.whole_as_slice-fill
whole_as_slice-fill g c = omega arith
