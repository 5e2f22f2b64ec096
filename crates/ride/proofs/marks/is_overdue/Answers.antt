-- `is_overdue` goes by the linking, as the definition does.
use Rattle.ride.proofs.Cases.{overdue_set}
use Rattle.ride.proofs.marks.is_overdue.Goals as goal

pub returns-in-Set : goal.returns-in-Set
returns-in-Set c =
    let a = c.args in
    rw c.beyond.ensures (overdue_set a.linking _ _ a.odometer c.in-Set.is)
