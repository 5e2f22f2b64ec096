-- `mark_of` goes by the linking, as the definition does.
use mathlib.Core.Path.{ap, ◌∙◌}
use Rattle.ride.specs.Linking.{mark_at}
use Rattle.ride.proofs.Cases.{mark_set}
use Rattle.ride.proofs.marks.mark_of.Goals as goal

pub returns-in-Set : goal.returns-in-Set
returns-in-Set c =
    let a = c.args in
    c.mark_at.ensures ∙ ap (mark_at c.in-Set.distance) c.beyond.ensures
    ∙ mark_set a.linking _ _ a.place c.in-Set.is
