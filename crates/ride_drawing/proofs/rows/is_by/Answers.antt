-- By whether the entry was met.
-- Assumes nothing.
use Rattle.std.proofs.Common.{ℕ, Option}
use mathlib.Core.Path.{sym, ap}
use Rattle.ride_drawing.specs.Row.{is_by}
use Rattle.ride_drawing.proofs.rows.is_by.Goals as goal

pub returns-in-None : goal.returns-in-None
returns-in-None c =
    let a = c.args in
    ap (λ (m : Option ℕ). is_by a.place m) (sym c.in-None.is)

pub returns-in-Some : goal.returns-in-Some
returns-in-Some c =
    let a = c.args in
    ap (λ (m : Option ℕ). is_by a.place m) (sym c.in-Some.is)
