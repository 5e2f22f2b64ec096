-- `with_one` asks for each of the five whether the balise comes there.
use mathlib.Core.Path.{◌≡◌}
use native.Mathlib.Omega.{arith}
use lib.ListN.{length}
use Rattle.group.specs.declared.Heard.{Heard}
use Rattle.ride.proofs.Joined.{each_is_set}
use Rattle.ride.proofs.joining.with_one.Goals as goal

pub returns : goal.returns
returns c =
    let a = c.args in
    let five : length a.old ≡ 5 = omega (arith, c.well_formed.0.1.0.1) in
    rw (c.either.ensures, c.either-2.ensures, c.either-3.ensures, c.either-4.ensures, c.either-5.ensures)
    (each_is_set a.old a.count a.balise (record { place = 0; heard = Heard.Words 0 0 0 }) five)
