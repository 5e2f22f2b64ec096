-- A ride as bytes: the odometer and what is known, six figures that a caller may see; then the
-- group's count and last place, the places of its five kept balises, and what was heard at each.
-- Assumes nothing.
use Rattle.std.specs.Prelude.{ℕ, ◌+◌, ◌%◌, List, [], ◌∷◌, ◌++◌, map}
use Rattle.state_bytes.specs.Figures.{each, spread, figure_at_meant}
use Rattle.group.specs.declared.Balise.{Balise}
use Rattle.group.specs.declared.Group.{Group}
use Rattle.ride.specs.declared.Known.{Known}
use Rattle.ride.specs.declared.Ride.{Ride}
use Rattle.ride_bytes.specs.Things.{told_figure, told_of, number_figure, number_of, distance_figure, from_figure, linking_of, heard_figure, heard_of}

-- The odometer, and what is known: linking's distance and place, main speed, target, number.
unfoldable pub known_figures : Ride → List ℕ
known_figures ride =
    ride.odometer ∷ distance_figure ride.known.linking ∷ from_figure ride.known.linking
    ∷ told_figure ride.known.main ∷ told_figure ride.known.target ∷ number_figure ride.known.number ∷ []

-- A group: its count, its last place, the places of the balises that it keeps, and what was heard
-- at each.
unfoldable pub group_figures : Group → List ℕ
group_figures g =
    g.count ∷ g.last ∷ map (λ (b : Balise). b.place) g.kept ++ map (λ (b : Balise). heard_figure b.heard) g.kept

-- The eighteen figures of a ride.
abbrev pub ride_figures : Ride → List ℕ
ride_figures ride = known_figures ride ++ group_figures ride.group

-- A ride as bytes.
unfoldable pub ride_bytes : Ride → List ℕ
ride_bytes ride = spread 144 (ride_figures ride)

-- What is known, where figure i is what a rule gives for i.
abbrev pub known_of : (ℕ → ℕ) → Known
known_of figure =
    record { linking = linking_of (figure 1) (figure 2); main = told_of (figure 3); target = told_of (figure 4); number = number_of (figure 5) }

-- Kept balise i likewise ..
abbrev pub balise_of : (ℕ → ℕ) → ℕ → Balise
balise_of figure i = record { place = figure (8 + i) % 4294967296; heard = heard_of (figure (13 + i)) }

-- .. the group ..
abbrev pub group_of : (ℕ → ℕ) → Group
group_of figure = record { kept = each 5 (balise_of figure); count = figure 6 % 256; last = figure 7 % 4294967296 }

-- .. and the ride.
unfoldable pub ride_of : (ℕ → ℕ) → Ride
ride_of figure = record { odometer = figure 0 % 4294967296; group = group_of figure; known = known_of figure }

-- The ride in some bytes.
abbrev pub ride_in : List ℕ → Ride
ride_in bytes = ride_of (figure_at_meant bytes)
