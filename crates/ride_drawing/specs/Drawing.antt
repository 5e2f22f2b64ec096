-- The drawing of a ride: what each record adds to the page, and where the pen stands then.
-- Assumes nothing.
use Rattle.std.specs.Prelude.{ℕ, Bool, true, false, List, [], ◌∷◌, ◌++◌}
use Rattle.words.specs.Answer.{Outcome, gives, refuses, pick}
use Rattle.text.specs.Text.{codes}
use Rattle.group_rows.specs.declared.Direction.{Direction}
use Rattle.group_rows.specs.declared.Kind.{Kind}
use Rattle.group.specs.declared.Group.{Group}
use Rattle.ride.specs.declared.Known.{Known}
use Rattle.ride.specs.declared.Line.{Line}
use Rattle.ride.specs.declared.Ride.{Ride}
use Rattle.ride.specs.State.{is_open_meant}
use Rattle.ride.specs.Closing.{first_place}
use Rattle.ride.specs.Step.{end}
use Rattle.ride_drawing.specs.declared.Pen.{Pen}
use Rattle.ride_drawing.specs.declared.Plan.{Plan}
use Rattle.ride_drawing.specs.Strip.{greater, arrive, closing}
use Rattle.ride_drawing.specs.Span.{band, span}
use Rattle.ride_drawing.specs.Row.{row, is_extra, furthest}
use Rattle.ride_drawing.specs.Element.{Element, plain, mark, extra}
use Rattle.ride_drawing.specs.Way.{Past, past, way_past}
use Rattle.ride_drawing.specs.Ticks.{draw_refused, ticked, one_tick, ticks_at}

-- ---- a line

-- The place of a line's sign: its own; a refused record stands at the last accepted odometer.
abbrev pub place_of : Line → ℕ → ℕ
place_of (Line.Group s) odometer = s.place
place_of (Line.Fault place n) odometer = place
place_of (Line.Missed place) odometer = place
place_of (Line.Record number n) odometer = odometer
place_of (Line.Trace n) odometer = odometer

-- Whether a signal turns what is known: a present one does.
abbrev pub seen_turns : Direction → Kind → Bool
seen_turns Direction.Present Kind.Signal = true
seen_turns Direction.Present Kind.Warning = false
seen_turns Direction.Present Kind.Annulled = false
seen_turns Direction.Present Kind.Line = false
seen_turns Direction.Present Kind.Route = false
seen_turns Direction.Opposite kind = false

-- Whether a line turns the speeds: a present signal and a refused group do.
abbrev pub turns : Line → Bool
turns (Line.Group s) = seen_turns s.direction s.kind
turns (Line.Fault place n) = true
turns (Line.Missed place) = false
turns (Line.Record number n) = false
turns (Line.Trace n) = false

-- Up to where what was known before a line is drawn at its sign.
abbrev pub reached : Pen → Line → ℕ → ℕ
reached pen line place = pick (turns line) (greater pen.from place) pen.from

-- Whether a line is that of a missed signal.
abbrev pub is_missed : Line → Bool
is_missed (Line.Group s) = false
is_missed (Line.Fault place n) = false
is_missed (Line.Missed place) = true
is_missed (Line.Record number n) = false
is_missed (Line.Trace n) = false

-- What was known before a line, drawn at its sign: at a missed signal where it was due, which ends
-- there; the speeds go on.
unfoldable pub known_before : Pen → Known → Line → ℕ → List (List ℕ)
known_before pen known line place =
    pick (is_missed line)
    (band known.linking pen.edge pen.from place)
    (span pen.edge pen.from (reached pen line place) known)

-- The pen after the sign of a line.
unfoldable pub after_line : Pen → Line → ℕ → Pen
after_line pen line odometer =
    let there : Pen = arrive pen (place_of line odometer) (place_of line odometer) in
    record { edge = there.edge; from = reached there line (place_of line odometer); is_open = there.is_open; ticks = there.ticks }

-- The mark of an extra group, in the row over its strip.
abbrev pub extra_mark : Plan → Line → ℕ → List Element
extra_mark plan (Line.Group s) edge = pick (is_extra plan s) (extra s edge ∷ []) []
extra_mark plan (Line.Fault place n) edge = []
extra_mark plan (Line.Missed place) edge = []
extra_mark plan (Line.Record number n) edge = []
extra_mark plan (Line.Trace n) edge = []

-- A line on the further of its place's strip and the pen's: the way, what was known, its sign.
unfoldable pub on_its_strip : Plan → Pen → Known → Group → Line → ℕ → List Element
on_its_strip plan pen known closed line place =
    let there : Pen = arrive pen place place in
    way_past plan pen place place known
    ++ plain (known_before there known line place)
    ∷ mark closed line there.edge place
    ∷ extra_mark plan line there.edge

-- Lines in order, with what was known before the first and before the others.
unfoldable pub draw_lines : Plan → Pen → Known → Known → Group → List Line → ℕ → List Element
draw_lines plan pen known then closed [] odometer = []
draw_lines plan pen known then closed (l ∷ ls) odometer =
    on_its_strip plan pen known closed l (place_of l odometer) ++ draw_lines plan (after_line pen l odometer) then then closed ls odometer

-- The pen after them.
abbrev pub after_lines : Pen → List Line → ℕ → Pen
after_lines pen [] odometer = pen
after_lines pen (l ∷ ls) odometer = after_lines (after_line pen l odometer) ls odometer

-- ---- a record and the end

-- Up to where what is known is certain: to the first balise of an open group, else to the odometer.
unfoldable pub certain : Ride → ℕ
certain ride = pick (is_open_meant ride.group) (first_place ride.group) ride.odometer

-- An accepted record: its lines, and then the pen goes to the strip of its odometer.
unfoldable pub draw_accepted : Plan → Pen → Ride → List Line → Group → Ride → List Element
draw_accepted plan pen ride lines closed after =
    draw_lines plan pen ride.known (end ride).ride.known closed lines ride.odometer
    ++ way_past plan (after_lines pen lines ride.odometer) after.odometer (certain after) after.known

-- What a record adds: the tick of its refusal, or what an accepted one does.
abbrev pub draw_step : Plan → Pen → Ride → ℕ → Outcome (List Line) → Group → Ride → List Element
draw_step plan pen ride number (refuses n) closed after = draw_refused pen ride.odometer closed (Line.Record number n)
draw_step plan pen ride number (gives lines) closed after = draw_accepted plan pen ride lines closed after

-- The pen after a record.
abbrev pub pen_after : Pen → ℕ → Outcome (List Line) → Ride → Pen
pen_after pen odometer (refuses n) after = ticked (one_tick pen.ticks) pen
pen_after pen odometer (gives lines) after =
    ticked (ticks_at pen odometer after.odometer) (arrive (after_lines pen lines odometer) after.odometer (certain after))

-- The end of the last strip: what is known is drawn up to the last accepted odometer.
unfoldable pub last_strip : Pen → Ride → List (List ℕ)
last_strip pen ride = pick pen.is_open (span pen.edge pen.from ride.odometer ride.known ++ closing ∷ []) (codes "</p>\n" ∷ [])

-- All behind a pen: the entries that it did not come by, and the end of the last strip.
unfoldable pub the_rest : Plan → Pen → Ride → List Element
the_rest plan pen ride =
    let p : Past = past pen pen 0 (row plan) furthest ride.odometer ride.known in
    p.elements ++ plain (last_strip p.pen ride) ∷ []

-- What the end of the ride adds: the line of a group that it closes, and all that is left.
unfoldable pub draw_end : Plan → Pen → Ride → List Element
draw_end plan pen ride =
    let e = end ride in
    draw_lines plan pen ride.known e.ride.known e.closed e.lines ride.odometer
    ++ the_rest plan (after_lines pen e.lines ride.odometer) e.ride
