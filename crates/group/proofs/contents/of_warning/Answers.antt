-- The distance decides.
-- Assumes nothing.
use Rattle.std.proofs.lemmas.Result.{err_from_is_err_and}
use Rattle.group.proofs.contents.of_warning.Goals as goal

pub returns-in_err-distance : goal.returns-in_err-distance
returns-in_err-distance c =
    let p = err_from_is_err_and c.from_residual.result c.from_residual.ensures.1 in
    rw (p.1, ← c.in_err-distance.ensures)

pub returns : goal.returns
returns c = rw (← c.in_ok-distance.ensures)
