-- What is promised of places: a sign's place on its strip is its place on the track, or the edge.
-- Assumes nothing.
use Rattle.std.specs.Prelude.{ℕ, ◌+◌, ◌≤◌, ◌<◌, ◌≡◌, true, List, [], ◌∷◌, length, get_or}
use Rattle.words.specs.Answer.{gives}
use Rattle.ride.specs.declared.Line.{Line}
use Rattle.ride.specs.declared.Ride.{Ride}
use Rattle.acceptance.specs.declared.Acceptance.{Acceptance}
use Rattle.acceptance.specs.Plan.{no_entry, apart, good, plan as plan_of}
use Rattle.acceptance.specs.Taking.{planned, take_line}
use Rattle.ride_drawing.specs.declared.Pen.{Pen}
use Rattle.ride_drawing.specs.declared.Plan.{Plan}
use Rattle.ride_drawing.specs.Strip.{on_strip, edge_of}
use Rattle.ride_drawing.specs.Row.{row, is_extra}
use Rattle.ride_drawing.specs.Element.{Element, plain, mark, entry, extra}
use Rattle.ride_drawing.specs.Drawing.{draw_end}
use Rattle.ride_drawing.specs.Draw.{draw_over}

-- ---- at its place, or at the edge

-- On the strip with this edge, from the margin of 1000 dm on and up to 10000 dm, a place lies at
-- its distance from the picture's left side; before that it lies at the left side, and behind it at
-- the right edge.
pub record AtItsPlace : Type 0 where
  pub there : (edge place : ℕ) → edge ≤ place + 1000 → place ≤ edge + 10000 → on_strip edge place + edge ≡ place + 1000
  pub before : (edge place : ℕ) → place + 1000 < edge → on_strip edge place ≡ 0
  pub behind : (edge place : ℕ) → edge + 10000 < place → on_strip edge place ≡ 11000

-- ---- each sign at its own place

-- The sign of a line at this place, on the strip with this edge, stands at the line's own place,
-- the one that `explain` writes at its head, and this does not lie behind the strip. A refusal has
-- no place of its own.
abbrev pub AtOwnPlace : Line → ℕ → ℕ → Type 0
AtOwnPlace (Line.Group s) edge place = (place ≡ s.place) × (place < edge + 10000)
AtOwnPlace (Line.Fault own n) edge place = (place ≡ own) × (place < edge + 10000)
AtOwnPlace (Line.Missed own) edge place = (place ≡ own) × (place < edge + 10000)
AtOwnPlace (Line.Record number n) edge place = Unit {0}
AtOwnPlace (Line.Trace n) edge place = Unit {0}

-- An element stands where it belongs: a line's sign at the line's own place; an entry's sign is
-- that of the plan's entry with its index, on the strip of its place; and what is marked as an
-- extra group is one.
abbrev pub Belongs : Plan → Element → Type 0
Belongs plan (plain pieces) = Unit {0}
Belongs plan (mark closed line edge place) = AtOwnPlace line edge place
Belongs plan (entry i e edge) = (i < length (row plan)) × (e ≡ get_or (row plan) i no_entry) × (edge ≡ edge_of e.place)
Belongs plan (extra s edge) = (is_extra plan s ≡ true) × (s.place < edge + 10000)

-- So do all of some elements.
abbrev pub AllBelong : Plan → List Element → Type 0
AllBelong plan [] = Unit {0}
AllBelong plan (e ∷ es) = Belongs plan e × AllBelong plan es

-- The entries of a run's plan lie in rising order, "more than twice the tolerance apart".
abbrev pub Rising : Acceptance → Type 0
Rising run = apart run.tolerance (planned run) ≡ true

-- In the picture of any ride, and in its end, all elements stand where they belong, with any plan
-- whose entries rise; those of a good plan do, and whatever lines are taken they stay so.
pub record OwnPlace : Type 0 where
  pub over : (plan : Plan) (gaps : ℕ → ℕ) (pen : Pen) (ride : Ride) (number : ℕ) (rs : List (List ℕ)) → Rising plan.run → AllBelong plan (draw_over plan gaps pen ride number rs).elements
  pub ending : (plan : Plan) (pen : Pen) (ride : Ride) → Rising plan.run → AllBelong plan (draw_end plan pen ride)
  pub begins : (bytes : List ℕ) (tolerance : ℕ) → (plan_of bytes tolerance).answer ≡ gives good → Rising (plan_of bytes tolerance).plan
  pub goes_on : (run : Acceptance) (line : Line) → Rising run → Rising (take_line run line).state
