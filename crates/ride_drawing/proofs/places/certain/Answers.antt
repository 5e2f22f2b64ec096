-- By whether a group is open.
-- Assumes nothing.
use mathlib.Core.Path.{refl}
use borrow.Author.Tests.{lt-ltb, le-ltb}
use Rattle.group.specs.declared.Heard.{Heard}
use Rattle.ride.proofs.Cases.{first_place_law}
use Rattle.ride_drawing.specs.Drawing.{certain}
use Rattle.ride_drawing.proofs.places.certain.Goals as goal

pub returns-then-group-gt0 : goal.returns-then-group-gt0
unfolding certain
returns-then-group-gt0 c =
    let a = c.args in
    simp (lt-ltb _ _ c.if-group-gt0.true) (first_place_law a.ride.group.kept (record { place = 0; heard = Heard.Words 0 0 0 }) refl)

pub returns : goal.returns
unfolding certain
returns c =
    simp (le-ltb _ _ c.if-group-gt0.false)
