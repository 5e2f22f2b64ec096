-- A plan that meets all that the laws ask of one: a signal at 1000 and a route at 12000, 20 dm.
-- Assumes nothing.
use Prim.Native.Nat.{ℕ, ◌≤◌, ◌<◌}
use native.Mathlib.Omega.{arith}
use mathlib.Core.Path.{◌≡◌, refl}
use mathlib.Core.Bool.{true}
use mathlib.Core.List.{List, [], ◌∷◌}
use lib.ListN.{length, get_or}
use Rattle.words.specs.Answer.{gives}
use Rattle.ride.specs.Over.{first_records}
use Rattle.acceptance.specs.Plan.{place_of, kind_of, is_good, all_good, entry_of, apart, no_entry, plan_with, good, well_formed, plan}
use Rattle.ride_drawing.specs.declared.Plan.{Plan}
use Rattle.ride_drawing.specs.Row.{row, furthest}
use Rattle.ride_drawing.specs.Places.{Rising}
use Rattle.ride_drawing.proofs.Rising.{begins}

abbrev bytes : List ℕ
bytes = 0 ∷ 0 ∷ 3 ∷ 232 ∷ 0 ∷ 0 ∷ 0 ∷ 0 ∷ 0 ∷ 0 ∷ 46 ∷ 224 ∷ 4 ∷ 0 ∷ 0 ∷ 0 ∷ []

read : (plan bytes 20).answer ≡ gives good
unfolding plan well_formed all_good is_good apart entry_of place_of kind_of first_records
read = refl

abbrev the_plan : Plan
the_plan = record { run = (plan bytes 20).plan; asked = true }

long : length (row the_plan) ≡ 2
unfolding plan well_formed all_good is_good apart entry_of place_of kind_of first_records plan_with
long = refl

there : (get_or (row the_plan) 1 no_entry).place ≡ 12000
unfolding plan well_formed all_good is_good apart entry_of place_of kind_of first_records plan_with
there = refl

pub plan_met : Rising the_plan.run × (1 < length (row the_plan)) × ((get_or (row the_plan) 1 no_entry).place ≤ furthest)
plan_met = (begins bytes 20 read, omega (arith, long), omega (arith, there))
