-- A refusal that `?` hands on is the refusal that was given.
-- Assumes nothing.
use Rattle.std.proofs.Common.{◌≡◌, Result, Err, IsErrAnd, ap, ◌∙◌}
use Rattle.std.proofs.lemmas.Result.{err_from_is_err_and}

pub handed : {T E : Type 0} {y : E} (r : Result T E) → IsErrAnd r (λ e. e ≡ y) → r ≡ Err y
handed r h = let p = err_from_is_err_and r h in p.1 ∙ ap Err p.2
