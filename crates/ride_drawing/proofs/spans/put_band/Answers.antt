-- By the linking.
-- Assumes nothing.
use mathlib.Core.Path.{sym, ap}
use Rattle.ride.specs.declared.Linking.{Linking}
use Rattle.text.proofs.Putting.{all_as, none_as}
use Rattle.ride_drawing.specs.Span.{band}
use Rattle.ride_drawing.proofs.spans.put_band.Goals as goal

pub returns-in-Unset : goal.returns-in-Unset
unfolding band
returns-in-Unset c =
    let a = c.args in
    none_as _ _ (ap (λ (k : Linking). band k a.edge a.from a.to) (sym c.in-Unset.is))

pub returns-in-Set : goal.returns-in-Set
returns-in-Set c =
    let a = c.args in
    all_as _ _ (ap (λ (k : Linking). band k a.edge a.from a.to) (sym c.in-Set.is)) c.put_linked.ensures
