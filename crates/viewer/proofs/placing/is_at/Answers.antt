-- `is_at` asks a fresh ride's check of the record.
use mathlib.Core.Path.{◌≡◌, refl, ap, ◌∙◌}
use mathlib.Core.List.{List}
use Prim.Native.Nat.{ℕ}
use Rattle.ride.specs.declared.Ride.{Ride}
use Rattle.ride.specs.State.{fresh_ride}
use Rattle.ride.specs.Record.{check_record}
use Rattle.viewer.specs.Going.{reaches, is_at}
use Rattle.viewer.proofs.placing.is_at.Goals as goal

-- a fresh ride has passed nothing
at_first : fresh_ride.odometer ≡ 0
unfolding fresh_ride
at_first = refl

pub returns : goal.returns
unfolding is_at
returns c =
    let a = c.args in
    c.reaches.ensures
    ∙ ap (reaches a.place) c.check_record-checked.ensures
    ∙ ap (λ (r : Ride). reaches a.place (check_record r.odometer c.eight-bytes.result)) c.fresh-fresh.ensures
    ∙ ap (λ (n : ℕ). reaches a.place (check_record n c.eight-bytes.result)) at_first
    ∙ ap (λ (r : List ℕ). reaches a.place (check_record 0 r)) c.eight-bytes.ensures
