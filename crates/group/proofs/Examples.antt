-- Document 01's distances, column 14, and the group of its ride, computed by the definitions.
-- Assumes nothing.
use Prim.Native.Nat.{ℕ, ◌-◌, ◌*◌, ◌≤◌}
use mathlib.Core.Path.{◌≡◌, refl}
use mathlib.Core.Bool.{false}
use mathlib.Core.List.{List, [], ◌∷◌}
use native.Mathlib.Omega.{arith}
use borrow.Author.Tests.{le-leb}
use Rattle.words.specs.Answer.{Outcome, gives, refuses}
use Rattle.words.specs.Bits.{word}
use Rattle.words.specs.Plain.{is_check, covers, count, even, is_code, onwards, figure}
use Rattle.words.specs.Code.{other, exchanged, read_word}
use Rattle.telegram.specs.Telegram.{short_word, long_word, telegram}
use Rattle.group_rows.specs.declared.Direction.{Direction}
use Rattle.group_rows.specs.declared.Kind.{Kind}
use Rattle.group.specs.declared.Number.{Number}
use Rattle.group.specs.declared.Told.{Told}
use Rattle.group.specs.declared.Content.{Content}
use Rattle.group.specs.declared.Heard.{Heard}
use Rattle.group.specs.declared.Balise.{Balise}
use Rattle.group.specs.declared.Group.{Group}
use Rattle.group_rows.specs.declared.Part.{Part}
use Rattle.group_rows.specs.declared.Placed.{Placed}
use Rattle.group.specs.Balise.{balises, read_all}
use Rattle.group_rows.specs.Row.{fits, first, fit_row_meant, fit_rows}
use Rattle.group_rows.specs.Rows.{how_many, fit_in}
use Rattle.group_rows.specs.Fitting.{route_speed, fitting}
use Rattle.group.specs.Distance.{distance}
use Rattle.group.specs.Speed.{signal_speed, target_figure}
use Rattle.group.specs.Numbers.{number_of}
use Rattle.group.specs.Judge.{distance_of, signal_distance, judge_read, judge}

-- "distances (BY,BZ) (0,1) 125, (13,14) 119000, (14,1) 7000, (14,14) 500, (0,0) refused without a
-- 14"
distances : List (Outcome ℕ)
distances = distance 0 1 ∷ distance 13 14 ∷ distance 14 1 ∷ distance 14 14 ∷ distance 0 0 ∷ []

distances_are : distances ≡ gives 125 ∷ gives 119000 ∷ gives 7000 ∷ gives 500 ∷ refuses 15 ∷ []
unfolding distances distance
distances_are = refl

-- "base plus signed product proved between 500 and 7000" in column 14.
pub preset_between : (figure : ℕ) → 1 ≤ figure → figure ≤ 14 → (d : ℕ) × (distance 14 figure ≡ gives d) × (500 ≤ d) × (d ≤ 7000)
unfolding distance
preset_between figure h h' = (7500 - 500 * figure, rw (le-leb 1 figure h, le-leb figure 14 h'), omega arith, omega arith)

-- A place of the array that the group does not use.
empty : Balise
empty = record { place = 0; heard = Heard.Unreadable }

-- The first group of document 01's ride: 17 8E 5A at 1000 and 99 2B 4D at 1030.
of_the_ride : Group
of_the_ride =
    record {
      kept =
          record { place = 1000; heard = Heard.Words 0x17 0x8E 0x5A }
          ∷ record { place = 1030; heard = Heard.Words 0x99 0x2B 0x4D }
          ∷ empty ∷ empty ∷ empty ∷ [];
      count = 2;
      last = 1030;
    }

-- "Distance is 3500 + 4 x 125 = 4000 dm." "Main speed 130, target 80."
judged_of_the_ride : judge of_the_ride
    ≡ gives (record { direction = Direction.Present; kind = Kind.Signal; place = 1000; ay = 8; az = 5; number = Number.None; content = Content.Signal 4000 false (Told.Kmh 130) (Told.Kmh 80) })
unfolding of_the_ride empty number_of judge balises read_all telegram short_word long_word read_word is_code even count covers figure onwards is_check exchanged other word judge_read fitting fit_in how_many fit_rows fit_row_meant fits first distance_of signal_distance distance signal_speed target_figure
judged_of_the_ride = refl

-- Balises read at the places 10, 20, 30 and so on.
at : ℕ → Part → Placed
at place part = record { place = place; part = part }

-- 12 8 1 9 14: a signal with its number and a prefix. The prefix (7, 1) makes target figure 1 read
-- 0; BZ is 0 and CY gives the distance.
judged_long : judge_read
    (at 10 (Part.Number 1612) ∷ at 20 (Part.Figures 8 7 1) ∷ at 30 (Part.Figures 1 3 1) ∷ at 40 (Part.Figures 9 6 0)
    ∷ at 50 (Part.Figures 14 2 9) ∷ [])
    ≡ gives (record { direction = Direction.Present; kind = Kind.Signal; place = 30; ay = 3; az = 1; number = Number.Figure 1612; content = Content.Signal 15000 false (Told.Kmh 60) (Told.Kmh 0) })
unfolding at number_of judge_read fitting fit_in how_many fit_rows fit_row_meant fits first distance_of signal_distance distance signal_speed target_figure
judged_long = refl

-- 5 5 with AY 2 and AZ 9: a route board, 90 km/h, its A the first of the two.
judged_route : judge_read (at 10 (Part.Figures 5 2 9) ∷ at 20 (Part.Figures 5 0 0) ∷ [])
    ≡ gives (record { direction = Direction.Present; kind = Kind.Route; place = 10; ay = 2; az = 9; number = Number.None; content = Content.Route 90 })
unfolding at number_of judge_read fitting fit_in how_many fit_rows fit_row_meant fits first route_speed
judged_route = refl

-- 12 M 2: an opposite warning board, AZ 14 allowed.
judged_opposite : judge_read (at 10 (Part.Number 5) ∷ at 20 Part.Marker ∷ at 30 (Part.Figures 2 6 14) ∷ [])
    ≡ gives (record { direction = Direction.Opposite; kind = Kind.Warning; place = 30; ay = 6; az = 14; number = Number.Figure 5; content = Content.Nothing })
unfolding at number_of judge_read fitting fit_in how_many fit_rows fit_row_meant fits first
judged_opposite = refl

-- No balise at all fits no row.
judged_empty : judge_read [] ≡ refuses 13
unfolding judge_read fitting fit_in how_many fit_rows fit_row_meant fits
judged_empty = refl

-- 2 9 with BY 14: no row, and so 13 before any distance.
judged_no_row : judge_read (at 10 (Part.Figures 2 6 5) ∷ at 20 (Part.Figures 9 14 0) ∷ []) ≡ refuses 13
unfolding at number_of judge_read fitting fit_in how_many fit_rows fit_row_meant fits first
judged_no_row = refl
