-- Both tests.
-- Assumes nothing.
use Prim.Native.Nat.{◌/◌}
use mathlib.Core.Bool.{Bool, ◌&&◌}
use mathlib.Core.Path.{ap}
use lib.Dec.{leb}
use Rattle.ride_drawing.specs.Row.{is_on_the_way}
use Rattle.ride_drawing.proofs.ways.is_on_the_way.Goals as goal

pub returns : goal.returns
unfolding is_on_the_way
returns c =
    let a = c.args in
    ap (λ (b : Bool). b && leb (a.entry.place / 10000) (a.place / 10000)) c.is_further.ensures
