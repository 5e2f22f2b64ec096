-- Odometer, group and what is known.
-- Assumes nothing.
use mathlib.Core.Path.{◌≡◌, ap, ◌∙◌}
use Prim.Native.Nat.{ℕ, ◌%◌}
use Rattle.group.specs.declared.Group.{Group}
use Rattle.ride.specs.declared.Known.{Known}
use Rattle.ride.specs.declared.Ride.{Ride}
use Rattle.ride_bytes.specs.Rides.{ride_of}
use Rattle.ride_bytes.proofs.ride_in.Goals as goal

ridden : (o o' : ℕ) (g g' : Group) (k k' : Known) → o ≡ o' → g ≡ g' → k ≡ k'
    → ◌≡◌ {A = Ride} (record { odometer = o; group = g; known = k }) (record { odometer = o'; group = g'; known = k' })
ridden o o' g g' k k' p q r = cc

pub returns : goal.returns
unfolding ride_of
returns c =
    ridden _ _ _ _ _ _ (c.low32.ensures ∙ ap (λ (n : ℕ). n % 4294967296) c.figure_at.ensures) c.read.ensures c.read-2.ensures
