-- What a record adds is no longer than the room that is kept for it.
-- Assumes nothing.
use Prim.Native.Nat.{ℕ, ◌*◌, ◌≤◌}
use native.Mathlib.Omega.{arith}
use mathlib.Core.Bool.{Bool, true, false}
use mathlib.Core.List.{List, [], ◌∷◌, ◌++◌}
use lib.ListN.{length}
use Rattle.words.specs.Answer.{pick}
use Rattle.text.specs.Text.{codes, decimal}
use Rattle.group.specs.declared.Group.{Group}
use Rattle.group.specs.Judge.{judge}
use Rattle.ride.specs.declared.Known.{Known}
use Rattle.ride.specs.declared.Line.{Line}
use Rattle.ride.specs.declared.Lines.{Lines}
use Rattle.ride.specs.declared.Ride.{Ride}
use Rattle.std.specs.Prelude.{Result, Ok, Err}
use Rattle.ride.specs.declared.Wrong.{Wrong}
use Rattle.ride.specs.State.{is_open_meant}
use Rattle.ride.specs.Closing.{line_of, close, leave}
use Rattle.ride.specs.Step.{End, end}
use Rattle.ride.specs.Says.{says_wrong, says_lines, says_given}
use Rattle.ride_drawing.specs.declared.Pen.{Pen}
use Rattle.ride_drawing.specs.declared.Plan.{Plan}
use Rattle.ride_drawing.specs.Strip.{arrive}
use Rattle.ride_drawing.specs.Span.{band, span}
use Rattle.ride_drawing.specs.Row.{row, furthest}
use Rattle.ride_drawing.specs.Element.{Element, plain, mark}
use Rattle.ride_drawing.specs.Way.{Past, past, way_past}
use Rattle.ride_drawing.specs.Ticks.{in_the_row, on_the_ticks, draw_refused}
use Rattle.ride_drawing.specs.Drawing.{extra_mark, place_of, reached, is_missed, known_before, after_line, after_lines, on_its_strip, draw_lines, certain, draw_accepted, draw_step, last_strip, the_rest, draw_end}
use Rattle.ride_drawing.specs.Draw.{text_of, room_for}
use Rattle.ride_drawing.specs.Laws.{Bounded}
use Rattle.ride_drawing.proofs.Sizes.{size, either, size_none, size_one, size_append, worded, band_size, span_size}
use Rattle.ride_drawing.proofs.ShortWays.{bytes, bytes_none, bytes_plain, bytes_mark, bytes_append, all_size, past_way, extra_most}

-- what was known before a line,
before_size : (pen : Pen) (known : Known) (l : Line) (place : ℕ) → size (known_before pen known l place) ≤ 700
unfolding known_before
before_size pen known l place =
    either (is_missed l) (band known.linking pen.edge pen.from place) (span pen.edge pen.from (reached pen l place) known) 700
    (omega (arith, band_size known.linking pen.edge pen.from place)) (span_size pen.edge pen.from (reached pen l place) known)

-- a line,
one_size : (plan : Plan) (pen : Pen) (known : Known) (closed : Group) (l : Line) (place : ℕ) → bytes (on_its_strip plan pen known closed l place) ≤ 151000
unfolding on_its_strip
one_size plan pen known closed l place =
    let there : Pen = arrive pen place place in
    let s : List (List ℕ) = known_before there known l place in
    let x : List Element = extra_mark plan l there.edge in
    let m : List Element = mark closed l there.edge place ∷ x in
    omega (
      arith,
      bytes_append (way_past plan pen place place known) (plain s ∷ m),
      past_way plan pen place place known,
      bytes_plain s m,
      bytes_mark closed l there.edge place x,
      extra_most plan l there.edge,
      before_size there known l place,
    )

-- two lines at most,
module _ (plan : Plan) (known then : Known) (closed : Group) (odometer : ℕ) where
  none_lines : (pen : Pen) → bytes (draw_lines plan pen known then closed [] odometer) ≤ 0
  unfolding draw_lines
  none_lines pen = omega (arith, bytes_none)

  one_line : (k : Known) (pen : Pen) (l : Line) → bytes (draw_lines plan pen k then closed (l ∷ []) odometer) ≤ 151000
  unfolding draw_lines
  one_line k pen l =
      omega (arith, bytes_append (on_its_strip plan pen k closed l (place_of l odometer)) [], bytes_none, one_size plan pen k closed l (place_of l odometer))

  two_lines : (pen : Pen) (l m : Line) → bytes (draw_lines plan pen known then closed (l ∷ m ∷ []) odometer) ≤ 302000
  unfolding draw_lines
  two_lines pen l m =
      let p : Pen = after_line pen l odometer in
      omega
      (arith, bytes_append (on_its_strip plan pen known closed l (place_of l odometer)) (draw_lines plan p then then closed (m ∷ []) odometer), one_size plan pen known closed l (place_of l odometer), one_line then p m)

  lines_size : (pen : Pen) (ls : Lines) → bytes (draw_lines plan pen known then closed (says_lines ls) odometer) ≤ 302000
  lines_size pen Lines.None = omega (arith, none_lines pen)
  lines_size pen (Lines.One l) = omega (arith, one_line known pen l)
  lines_size pen (Lines.Two l m) = two_lines pen l m

-- a refused record,
refused_size : (pen : Pen) (odometer : ℕ) (closed : Group) (l : Line) → bytes (draw_refused pen odometer closed l) ≤ 1000
unfolding draw_refused on_the_ticks in_the_row
refused_size pen odometer closed l = go pen.is_open
  where
    last : List Element
    last = plain (codes "</svg>\n" ∷ []) ∷ []

    row : bytes (in_the_row closed l) ≤ 1000
    row =
        omega (
          arith,
          bytes_plain (codes "<svg class='r' viewBox='93 206 14 14'>" ∷ []) (mark closed l 0 0 ∷ last),
          bytes_mark closed l 0 0 last,
          bytes_plain (codes "</svg>\n" ∷ []) [],
          bytes_none,
          size_one (codes "<svg class='r' viewBox='93 206 14 14'>") [],
          size_one (codes "</svg>\n") [],
          size_none,
        )

    up : List ℕ
    up = codes "<g transform='translate(0 -" ++ decimal (5 * pen.ticks)

    end : List Element
    end = plain (codes "</g>\n" ∷ []) ∷ []

    tick : bytes (on_the_ticks pen odometer closed l) ≤ 1000
    tick =
        omega (
          arith,
          bytes_plain (up ∷ codes ")'>" ∷ []) (mark closed l pen.edge odometer ∷ end),
          bytes_mark closed l pen.edge odometer end,
          bytes_plain (codes "</g>\n" ∷ []) [],
          bytes_none,
          size_one up (codes ")'>" ∷ []),
          size_one (codes ")'>") [],
          size_one (codes "</g>\n") [],
          size_none,
          worded (codes "<g transform='translate(0 -") (5 * pen.ticks),
        )

    go : (b : Bool) → bytes (pick b (on_the_ticks pen odometer closed l) (in_the_row closed l)) ≤ 1000
    go true = tick
    go false = row

-- an accepted one:
accepted_size : (plan : Plan) (pen : Pen) (ride : Ride) (ls : Lines) (closed : Group) (after : Ride) → bytes (draw_accepted plan pen ride (says_lines ls) closed after) ≤ 452000
unfolding draw_accepted
accepted_size plan pen ride ls closed after =
    let lines : List Element = draw_lines plan pen ride.known (end ride).ride.known closed (says_lines ls) ride.odometer in
    let there : Pen = after_lines pen (says_lines ls) ride.odometer in
    omega (
      arith,
      bytes_append lines (way_past plan there after.odometer (certain after) after.known),
      lines_size plan ride.known (end ride).ride.known closed ride.odometer pen ls,
      past_way plan there after.odometer (certain after) after.known,
    )

-- all have room.
pub step_size : (plan : Plan) (pen : Pen) (ride : Ride) (number : ℕ) (given : Result Lines Wrong) (closed : Group) (after : Ride)
    → length (text_of (draw_step plan pen ride number (says_given given) closed after)) ≤ room_for
unfolding bytes size
step_size plan pen ride number (Err w) closed after = omega (arith, refused_size pen ride.odometer closed (Line.Record number (says_wrong w)))
step_size plan pen ride number (Ok ls) closed after = omega (arith, accepted_size plan pen ride ls closed after)

last_size : (pen : Pen) (ride : Ride) → size (last_strip pen ride) ≤ 800
unfolding last_strip
last_size pen ride = go pen.is_open
  where
    s : List (List ℕ)
    s = span pen.edge pen.from ride.odometer ride.known

    go : (b : Bool) → size (pick b (s ++ codes "</svg></div>\n" ∷ []) (codes "</p>\n" ∷ [])) ≤ 800
    go true =
        omega
        (arith, size_append s (codes "</svg></div>\n" ∷ []), size_one (codes "</svg></div>\n") [], size_none, span_size pen.edge pen.from ride.odometer ride.known)
    go false = omega (arith, size_one (codes "</p>\n") [], size_none)

rest_size : (plan : Plan) (pen : Pen) (ride : Ride) → bytes (the_rest plan pen ride) ≤ 148500
unfolding the_rest
rest_size plan pen ride =
    let p : Past = past pen pen 0 (row plan) furthest ride.odometer ride.known in
    let l : List (List ℕ) = last_strip p.pen ride in
    omega (arith, bytes_append p.elements (plain l ∷ []), bytes_plain l [], bytes_none, all_size plan pen furthest ride.odometer ride.known, last_size p.pen ride)

-- So has the end, which has one line at most.
end_lines : (plan : Plan) (pen : Pen) (ride : Ride) (known then : Known) (closed : Group) → bytes (draw_lines plan pen known then closed (end ride).lines ride.odometer) ≤ 151000
unfolding end close leave
end_lines plan pen ride known then closed = go (is_open_meant ride.group)
  where
    go : (b : Bool) → bytes (draw_lines plan pen known then closed (pick b (close ride.group ride.known) (leave ride.group ride.known)).lines ride.odometer) ≤ 151000
    go true = one_line plan known then closed ride.odometer known pen (line_of ride.group ride.known.linking (judge ride.group))
    go false = omega (arith, none_lines plan known then closed ride.odometer pen)

end_size : (plan : Plan) (pen : Pen) (ride : Ride) → bytes (draw_end plan pen ride) ≤ room_for
unfolding draw_end
end_size plan pen ride =
    let e : End = end ride in
    let lines : List Element = draw_lines plan pen ride.known e.ride.known e.closed e.lines ride.odometer in
    let there : Pen = after_lines pen e.lines ride.odometer in
    omega
    (arith, bytes_append lines (the_rest plan there e.ride), end_lines plan pen ride ride.known e.ride.known e.closed, rest_size plan there e.ride)

pub end_short : (plan : Plan) (pen : Pen) (ride : Ride) → length (text_of (draw_end plan pen ride)) ≤ room_for
unfolding bytes size
end_short plan pen ride = end_size plan pen ride

pub bounded : Bounded
bounded = record { step = step_size; ending = end_short }
