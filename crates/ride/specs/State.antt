-- The state of a ride (document 01, "A ride"): the last accepted odometer, the group, and what is
-- known. "A fresh ride has none of them."
-- Assumes nothing.
use Rattle.std.specs.Prelude.{Bool, ltb, replicate}
use Rattle.group.specs.declared.Heard.{Heard}
use Rattle.group.specs.declared.Balise.{Balise}
use Rattle.group.specs.declared.Group.{Group}
use Rattle.group.specs.declared.Number.{Number}
use Rattle.group.specs.declared.Told.{Told}
use Rattle.ride.specs.declared.Linking.{Linking}
use Rattle.ride.specs.declared.Known.{Known}
use Rattle.ride.specs.declared.Ride.{Ride}

-- A place of a group that no balise has taken.
abbrev pub no_balise : Balise
no_balise = record { place = 0; heard = Heard.Unreadable }

-- No group: its count is 0.
unfoldable pub no_group : Group
no_group = record { kept = replicate 5 no_balise; count = 0; last = 0 }

-- A group is open if it has a balise.
abbrev pub is_open_meant : Group → Bool
is_open_meant g = ltb 0 g.count

-- Nothing is known: linking is not set; main speed, target and number are none. "A refused group
-- ends linking and clears main speed and target", and the number.
unfoldable pub nothing_known : Known
nothing_known = record { linking = Linking.Unset; main = Told.Unknown; target = Told.Unknown; number = Number.None }

-- A fresh ride. No odometer is below its last accepted one.
unfoldable pub fresh_ride : Ride
fresh_ride = record { odometer = 0; group = no_group; known = nothing_known }
