-- `main_from` takes what is told, and else leaves what was.
use Rattle.ride.proofs.Cases.{main_kmh}
use Rattle.ride.proofs.knowing.main_from.Goals as goal

pub returns-in-Kmh : goal.returns-in-Kmh
returns-in-Kmh c =
    let a = c.args in
    main_kmh a.told _ a.before c.in-Kmh.is
