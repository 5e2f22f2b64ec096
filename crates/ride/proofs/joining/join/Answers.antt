-- `join` keeps the balise while there is room, and counts it.
use Rattle.ride.proofs.Steps.{joined}
use Rattle.ride.proofs.joining.join.Goals as goal

pub returns : goal.returns
returns c =
    let a = c.args in
    joined a.group a.balise _ _ c.with_one.ensures c.counted.ensures
