-- `known_from` sets what is known from a present signal alone.
use Rattle.ride.proofs.Cases.{known_signal}
use Rattle.ride.proofs.knowing.known_from.Goals as goal

pub returns-in-Signal : goal.returns-in-Signal
returns-in-Signal c =
    rw (c.linking_from.ensures, c.main_from.ensures)
    (known_signal c.args.content _ _ _ _ c.args.place c.args.number c.args.known c.in-Signal.is)
