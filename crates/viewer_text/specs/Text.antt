-- What the program `view` shows of where it stands, as text: how many records lie before it, of how
-- many, and how many states are kept; then the state of the ride, a line each, and the record that
-- comes next.
--     3 of 12, kept 3
--       odometer 5000
--       no group
--       linking 4000 from 1000
--       main 130, target 80, number none
--       next 6000 position
-- Assumes nothing.
use Rattle.std.specs.Prelude.{ℕ, ◌*◌, ◌/◌, List, ◌++◌, ltb, length}
use Rattle.words.specs.Answer.{pick}
use Rattle.text.specs.Text.{codes, decimal}
use Rattle.group.specs.declared.Group.{Group}
use Rattle.group.specs.declared.Number.{Number}
use Rattle.group.specs.declared.Told.{Told}
use Rattle.ride.specs.declared.Linking.{Linking}
use Rattle.ride.specs.declared.Known.{Known}
use Rattle.ride.specs.declared.Ride.{Ride}
use Rattle.ride.specs.State.{is_open_meant}
use Rattle.ride.specs.Closing.{first_place}
use Rattle.trace_text.specs.declared.What.{What}
use Rattle.trace_text.specs.declared.Said.{Said}
use Rattle.trace_text.specs.Line.{thing_text}
use Rattle.trace_text.specs.Thing.{thing_at}

-- `3 of 12, kept 3`, and the last accepted odometer.
unfoldable pub place : ℕ → ℕ → ℕ → ℕ → List ℕ
place number count kept odometer =
    decimal number ++ codes " of " ++ decimal count ++ codes ", kept " ++ decimal kept ++ codes "\n"
    ++ codes "  odometer " ++ decimal odometer ++ codes "\n"

-- `group of 2 from 1000 to 1030`: how many balises the open group has (255 stands for 255 or more),
-- its first place and its last; or `no group`.
unfoldable pub group : Group → List ℕ
group g =
    pick (is_open_meant g)
    (codes "  group of " ++ decimal g.count ++ codes " from " ++ decimal (first_place g) ++ codes " to " ++ decimal g.last ++ codes "\n")
    (codes "  no group\n")

-- `linking 4000 from 1000`: its distance, and the place that it counts from; or `no linking`.
unfoldable pub linking : Linking → List ℕ
linking Linking.Unset = codes "  no linking\n"
linking (Linking.Set distance from) = codes "  linking " ++ decimal distance ++ codes " from " ++ decimal from ++ codes "\n"

-- A speed in km/h, or `none`.
unfoldable pub speed : Told → List ℕ
speed Told.Unknown = codes "none"
speed (Told.Kmh v) = decimal v

-- The figure of the number balise, or `none`.
unfoldable pub figure : Number → List ℕ
figure Number.None = codes "none"
figure (Number.Figure m) = decimal m

-- `main 130, target 80, number none`.
unfoldable pub speeds : Known → List ℕ
speeds known =
    codes "  main " ++ speed known.main ++ codes ", target " ++ speed known.target ++ codes ", number " ++ figure known.number ++ codes "\n"

-- Where a viewer stands, of so many records, with so many states kept and this state.
unfoldable pub state : ℕ → ℕ → ℕ → Ride → List ℕ
state number count kept ride =
    place number count kept ride.odometer ++ group ride.group ++ linking ride.known.linking ++ speeds ride.known

-- `next 1000 1 8 5`: the record that a viewer stands before, in the words of `records`; or that
-- there is none.
unfoldable pub next_is : ℕ → What → List ℕ
next_is place what = codes "  next " ++ thing_text place what ++ codes "\n"

abbrev pub no_next : List ℕ
no_next = codes "  no further record\n"

abbrev pub next_said : Said → List ℕ
next_said Said.Nothing = no_next
next_said (Said.Thing place what) = next_is place what
next_said Said.Unreadable = no_next

-- The record that stands after so many others of a trace.
unfoldable pub next : List ℕ → ℕ → List ℕ
next trace number = pick (ltb number (length trace / 8)) (next_said (thing_at trace (number * 8))) no_next
