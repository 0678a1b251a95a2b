use Rattle.std.proofs.lemmas.Result.{err_from_is_err_and}
use Rattle.smtwriter.proofs.Whole.{refused, long}
use Rattle.smtwriter.proofs.over.Goals as goal

pub returns-in_err-fill : goal.returns-in_err-fill
returns-in_err-fill g c =
    let p = err_from_is_err_and c.from_residual.result c.from_residual.ensures.1 in
    rw (p.1, p.2) (refused (long _ _ c.requires.0) c.fill.ensures _ _ _ c.in_err-fill.was)
