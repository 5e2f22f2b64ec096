-- `faulty` puts the fault's line and that nothing is known together.
use mathlib.Core.Path.{refl}
use Rattle.ride.proofs.Cases.{first_place_law, faulted}
use Rattle.group.specs.declared.Heard.{Heard}
use Rattle.ride.proofs.closing.faulty.Goals as goal

pub returns : goal.returns
returns c =
    faulted c.args.group c.args.known _ _ c.args.number c.requires c.nothing_known-nothing.ensures
    (first_place_law c.args.group.kept (record { place = 0; heard = Heard.Words 0 0 0 }) refl)
