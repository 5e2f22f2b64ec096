-- Each sign stands at its own place: a line's by how it is drawn, an entry's by how the pen comes
-- by it.
-- Assumes nothing.
use Prim.Native.Nat.{ℕ, suc, ◌+◌, ◌<◌}
use mathlib.Core.Path.{◌≡◌, refl}
use mathlib.Core.Logic.{inl}
use mathlib.Core.Bool.{Bool, true, false}
use mathlib.Core.List.{List, [], ◌∷◌, ◌++◌}
use Rattle.words.specs.Answer.{Outcome, gives, refuses, pick}
use Rattle.group.specs.declared.Group.{Group}
use Rattle.ride.specs.declared.Known.{Known}
use Rattle.ride.specs.declared.Line.{Line}
use Rattle.ride.specs.declared.Ride.{Ride}
use Rattle.ride.specs.Record.{odometer_of}
use Rattle.ride.specs.Step.{Step, End, treat, end}
use Rattle.acceptance.specs.Taking.{planned}
use Rattle.ride_drawing.specs.declared.Pen.{Pen}
use Rattle.ride_drawing.specs.declared.Plan.{Plan}
use Rattle.ride_drawing.specs.Strip.{is_further, arrive}
use Rattle.ride_drawing.specs.Span.{span}
use Rattle.ride_drawing.specs.Row.{row, is_extra, furthest}
use Rattle.ride_drawing.specs.Element.{Element, plain, mark, extra}
use Rattle.ride_drawing.specs.Way.{way, Past, past, way_past}
use Rattle.ride_drawing.specs.Ticks.{in_the_row, on_the_ticks, draw_refused}
use Rattle.ride_drawing.specs.Drawing.{extra_mark, place_of, after_line, after_lines, on_its_strip, draw_lines, certain, draw_accepted, draw_step, last_strip, the_rest, draw_end, known_before}
use Rattle.ride_drawing.specs.Draw.{step_pen, step_elements, Picture, draw_over}
use Rattle.ride_drawing.specs.Places.{AtOwnPlace, AllBelong, Rising, OwnPlace}
use Rattle.ride_drawing.proofs.Rising.{first_rise, begins, goes_on}
use Rattle.ride_drawing.proofs.Belonging.{both, not_behind, past_belongs}

-- A line drawn at its place is at its own.
own : (l : Line) (odometer edge : ℕ) → place_of l odometer < edge + 10000 → AtOwnPlace l edge (place_of l odometer)
own (Line.Group s) odometer edge h = (refl, h)
own (Line.Fault place n) odometer edge h = (refl, h)
own (Line.Missed place) odometer edge h = (refl, h)
own (Line.Record number n) odometer edge h = tt
own (Line.Trace n) odometer edge h = tt

module _ (plan : Plan) (h : Rising plan.run) where
  all_belong : (pen : Pen) (place until : ℕ) (known : Known) → AllBelong plan (past pen pen 0 (row plan) place until known).elements
  all_belong pen place until known =
      past_belongs plan plan.run.tolerance pen place until known (row plan) 0 pen refl (first_rise 64 plan.run.tolerance (planned plan.run) h) (inl refl)

  way_belongs : (pen : Pen) (place until : ℕ) (known : Known) → AllBelong plan (way_past plan pen place until known)
  unfolding way_past
  way_belongs pen place until known = go (is_further pen place)
    where
      p : Past
      p = past pen pen 0 (row plan) place until known

      last : List Element
      last = plain (way p.pen place until known) ∷ []

      go : (b : Bool) → AllBelong plan (pick b (p.elements ++ last) [])
      go true = both plan p.elements last (all_belong pen place until known) (tt, tt)
      go false = tt

  extra_belongs : (l : Line) (odometer edge : ℕ) → place_of l odometer < edge + 10000 → AllBelong plan (extra_mark plan l edge)
  extra_belongs (Line.Group s) odometer edge near = go (is_extra plan s) refl
    where
      go : (b : Bool) → is_extra plan s ≡ b → AllBelong plan (pick b (extra s edge ∷ []) [])
      go true e = ((e, near), tt)
      go false e = tt
  extra_belongs (Line.Fault place n) odometer edge near = tt
  extra_belongs (Line.Missed place) odometer edge near = tt
  extra_belongs (Line.Record number n) odometer edge near = tt
  extra_belongs (Line.Trace n) odometer edge near = tt

  lines_belong : (ls : List Line) (pen : Pen) (known then : Known) (closed : Group) (odometer : ℕ) → AllBelong plan (draw_lines plan pen known then closed ls odometer)
  unfolding draw_lines on_its_strip
  lines_belong [] pen known then closed odometer = tt
  lines_belong (l ∷ ls) pen known then closed odometer =
      let place : ℕ = place_of l odometer in
      let there : Pen = arrive pen place place in
      let near : place < there.edge + 10000 = not_behind pen place place in
      let sign : List Element = plain (known_before there known l place) ∷ mark closed l there.edge place ∷ extra_mark plan l there.edge in
      both plan (way_past plan pen place place known ++ sign) (draw_lines plan (after_line pen l odometer) then then closed ls odometer)
      (both plan (way_past plan pen place place known) sign (way_belongs pen place place known) (tt, (own l odometer there.edge near, extra_belongs l odometer there.edge near)))
      (lines_belong ls (after_line pen l odometer) then then closed odometer)

  step_belongs : (pen : Pen) (ride : Ride) (number : ℕ) (o : Outcome (List Line)) (closed : Group) (after : Ride) → AllBelong plan (draw_step plan pen ride number o closed after)
  unfolding draw_refused on_the_ticks in_the_row draw_accepted
  step_belongs pen ride number (refuses n) closed after = go pen.is_open
    where
      line : Line
      line = Line.Record number n

      go : (b : Bool) → AllBelong plan (pick b (on_the_ticks pen ride.odometer closed line) (in_the_row closed line))
      go true = (tt, (tt, (tt, tt)))
      go false = (tt, (tt, (tt, tt)))
  step_belongs pen ride number (gives lines) closed after =
      let there : Pen = after_lines pen lines ride.odometer in
      both plan (draw_lines plan pen ride.known (end ride).ride.known closed lines ride.odometer) (way_past plan there after.odometer (certain after) after.known)
      (lines_belong lines pen ride.known (end ride).ride.known closed ride.odometer) (way_belongs there after.odometer (certain after) after.known)

  over : (gaps : ℕ → ℕ) (rs : List (List ℕ)) (pen : Pen) (ride : Ride) (number : ℕ) → AllBelong plan (draw_over plan gaps pen ride number rs).elements
  unfolding draw_over
  over gaps [] pen ride number = tt
  over gaps (r ∷ rs) pen ride number =
      let s : Step = treat ride (gaps (odometer_of r)) r in
      let rest : Picture = draw_over plan gaps (step_pen pen ride s) s.ride (suc number) rs in
      both plan (step_elements plan pen ride number s) rest.elements (step_belongs pen ride number s.lines s.closed s.ride) (over gaps rs (step_pen pen ride s) s.ride (suc number))

  ending : (pen : Pen) (ride : Ride) → AllBelong plan (draw_end plan pen ride)
  unfolding draw_end the_rest
  ending pen ride =
      let e : End = end ride in
      let there : Pen = after_lines pen e.lines ride.odometer in
      let p : Past = past there there 0 (row plan) furthest e.ride.odometer e.ride.known in
      let last : List Element = plain (last_strip p.pen e.ride) ∷ [] in
      both plan (draw_lines plan pen ride.known e.ride.known e.closed e.lines ride.odometer) (p.elements ++ last)
      (lines_belong e.lines pen ride.known e.ride.known e.closed ride.odometer)
      (both plan p.elements last (all_belong there furthest e.ride.odometer e.ride.known) (tt, tt))

pub own_place : OwnPlace
own_place = record {
  over = λ plan gaps pen ride number rs h. over plan h gaps rs pen ride number;
  ending = λ plan pen ride h. ending plan h pen ride;
  begins = begins;
  goes_on = goes_on;
}
