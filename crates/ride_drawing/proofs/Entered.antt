-- Every entry has one sign: what is left of it before the pen and what was drawn of it are together
-- one.
-- Assumes nothing.
use Prim.Native.Nat.{ℕ, suc, ◌+◌, ◌/◌, ◌≤◌, ◌<◌}
use native.Mathlib.Omega.{arith}
use native.Mathlib.Nat.{zero-add}
use mathlib.Core.Path.{◌≡◌, refl}
use mathlib.Core.Bool.{Bool, true, false, ◌&&◌}
use mathlib.Core.List.{List, [], ◌∷◌, ◌++◌}
use lib.Dec.{leb}
use lib.ListN.{length, get_or}
use borrow.Author.Tests.{le-leb}
use Rattle.words.specs.Answer.{Outcome, gives, refuses, pick}
use Rattle.group.specs.declared.Group.{Group}
use Rattle.ride.specs.declared.Known.{Known}
use Rattle.ride.specs.declared.Line.{Line}
use Rattle.ride.specs.declared.Ride.{Ride}
use Rattle.ride.specs.Record.{odometer_of}
use Rattle.ride.specs.Step.{Step, End, treat, end}
use Rattle.acceptance.specs.declared.Entry.{Entry}
use Rattle.acceptance.specs.Plan.{no_entry}
use Rattle.ride_drawing.specs.declared.Pen.{Pen}
use Rattle.ride_drawing.specs.declared.Plan.{Plan}
use Rattle.ride_drawing.specs.Strip.{edge_of, on_strip, is_further, arrive}
use Rattle.ride_drawing.specs.Row.{row, is_extra, is_on_the_way, furthest}
use Rattle.ride_drawing.specs.Element.{Element, plain, mark, extra}
use Rattle.ride_drawing.specs.Way.{Past, past, way_past}
use Rattle.ride_drawing.specs.Ticks.{in_the_row, on_the_ticks, draw_refused}
use Rattle.ride_drawing.specs.Drawing.{extra_mark, place_of, after_line, after_lines, on_its_strip, draw_lines, certain, draw_accepted, draw_step, pen_after, last_strip, the_rest, draw_end, known_before}
use Rattle.ride_drawing.specs.Draw.{step_pen, step_elements, Picture, draw_over}
use Rattle.ride_drawing.specs.Says.{fresh_pen}
use Rattle.ride_drawing.specs.Laws.{signs_of, OneEntry}
use Rattle.ride_drawing.proofs.AtItsPlace.{at_its_place}
use Rattle.ride_drawing.proofs.Passed.{one, signs_append, past_signs, left, fresh_all, way_signs}

module _ (plan : Plan) (k : ℕ) (h : k < length (row plan)) where
  abbrev it : Entry
  it = get_or (row plan) k no_entry

  -- ---- lines and records

  extra_signs : (l : Line) (edge : ℕ) → signs_of k (extra_mark plan l edge) ≡ 0
  extra_signs (Line.Group s) edge = go (is_extra plan s)
    where
      go : (b : Bool) → signs_of k (pick b (extra s edge ∷ []) []) ≡ 0
      go true = refl
      go false = refl
  extra_signs (Line.Fault place n) edge = refl
  extra_signs (Line.Missed place) edge = refl
  extra_signs (Line.Record number n) edge = refl
  extra_signs (Line.Trace n) edge = refl

  line_signs : (pen : Pen) (known : Known) (closed : Group) (l : Line) (odometer : ℕ)
      → signs_of k (on_its_strip plan pen known closed l (place_of l odometer)) + left it (after_line pen l odometer) ≡ left it pen
  unfolding on_its_strip after_line left is_further
  line_signs pen known closed l odometer =
      let place : ℕ = place_of l odometer in
      let there : Pen = arrive pen place place in
      let rest : List Element = plain (known_before there known l place) ∷ mark closed l there.edge place ∷ extra_mark plan l there.edge in
      omega (arith, signs_append k (way_past plan pen place place known) rest, extra_signs l there.edge, way_signs plan k h pen place place known)

  lines_signs : (ls : List Line) (pen : Pen) (known then : Known) (closed : Group) (odometer : ℕ)
      → signs_of k (draw_lines plan pen known then closed ls odometer) + left it (after_lines pen ls odometer) ≡ left it pen
  unfolding draw_lines
  lines_signs [] pen known then closed odometer = zero-add (left it pen)
  lines_signs (l ∷ ls) pen known then closed odometer =
      let pen' : Pen = after_line pen l odometer in
      omega
      (arith, signs_append k (on_its_strip plan pen known closed l (place_of l odometer)) (draw_lines plan pen' then then closed ls odometer), line_signs pen known closed l odometer, lines_signs ls pen' then then closed odometer)

  refused_signs : (pen : Pen) (odometer : ℕ) (closed : Group) (l : Line) → signs_of k (draw_refused pen odometer closed l) ≡ 0
  unfolding draw_refused on_the_ticks in_the_row
  refused_signs pen odometer closed l = go pen.is_open
    where
      go : (b : Bool) → signs_of k (pick b (on_the_ticks pen odometer closed l) (in_the_row closed l)) ≡ 0
      go true = refl
      go false = refl

  step_signs : (pen : Pen) (ride : Ride) (number : ℕ) (o : Outcome (List Line)) (closed : Group) (after : Ride)
      → signs_of k (draw_step plan pen ride number o closed after) + left it (pen_after pen ride.odometer o after) ≡ left it pen
  unfolding draw_accepted left is_further
  step_signs pen ride number (refuses n) closed after = omega (arith, refused_signs pen ride.odometer closed (Line.Record number n))
  step_signs pen ride number (gives lines) closed after =
      let first : List Element = draw_lines plan pen ride.known (end ride).ride.known closed lines ride.odometer in
      let there : Pen = after_lines pen lines ride.odometer in
      let on : List Element = way_past plan there after.odometer (certain after) after.known in
      omega
      (arith, signs_append k first on, lines_signs lines pen ride.known (end ride).ride.known closed ride.odometer, way_signs plan k h there after.odometer (certain after) after.known)

  over_signs : (gaps : ℕ → ℕ) (rs : List (List ℕ)) (pen : Pen) (ride : Ride) (number : ℕ) →
      let p = draw_over plan gaps pen ride number rs in
      signs_of k p.elements + left it p.pen ≡ left it pen
  unfolding draw_over
  over_signs gaps [] pen ride number = zero-add (left it pen)
  over_signs gaps (r ∷ rs) pen ride number =
      let s : Step = treat ride (gaps (odometer_of r)) r in
      let rest : Picture = draw_over plan gaps (step_pen pen ride s) s.ride (suc number) rs in
      omega
      (arith, signs_append k (step_elements plan pen ride number s) rest.elements, step_signs pen ride number s.lines s.closed s.ride, over_signs gaps rs (step_pen pen ride s) s.ride (suc number))

  -- ---- the end

  rest_signs : (pen : Pen) (ride : Ride) → it.place ≤ furthest → signs_of k (the_rest plan pen ride) ≡ left it pen
  unfolding the_rest left is_on_the_way
  rest_signs pen ride low =
      let p : Past = past pen pen 0 (row plan) furthest ride.odometer ride.known in
      let near : leb (it.place / 10000) (furthest / 10000) ≡ true = le-leb (it.place / 10000) (furthest / 10000) (omega arith) in
      let all : one (is_further pen it.place && leb (it.place / 10000) (furthest / 10000)) ≡ one (is_further pen it.place) = rw near (go (is_further pen it.place)) in
      omega
      (arith, signs_append k p.elements (plain (last_strip p.pen ride) ∷ []), past_signs pen furthest ride.odometer ride.known (row plan) k k 0 pen (omega arith) h, all)
    where
      go : (b : Bool) → one (b && true) ≡ one b
      go true = refl
      go false = refl

  end_signs : (pen : Pen) (ride : Ride) → it.place ≤ furthest → signs_of k (draw_end plan pen ride) ≡ left it pen
  unfolding draw_end
  end_signs pen ride low =
      let e : End = end ride in
      let first : List Element = draw_lines plan pen ride.known e.ride.known e.closed e.lines ride.odometer in
      let there : Pen = after_lines pen e.lines ride.odometer in
      omega
      (arith, signs_append k first (the_rest plan there e.ride), lines_signs e.lines pen ride.known e.ride.known e.closed ride.odometer, rest_signs there e.ride low)

  whole_signs : (gaps : ℕ → ℕ) (ride : Ride) (number : ℕ) (rs : List (List ℕ)) → it.place ≤ furthest →
      let p = draw_over plan gaps fresh_pen ride number rs in
      signs_of k (p.elements ++ draw_end plan p.pen p.ride) ≡ 1
  whole_signs gaps ride number rs low =
      let p : Picture = draw_over plan gaps fresh_pen ride number rs in
      omega
      (arith, signs_append k p.elements (draw_end plan p.pen p.ride), over_signs gaps rs fresh_pen ride number, end_signs p.pen p.ride low, fresh_left)
    where
      fresh_left : left it fresh_pen ≡ 1
      fresh_left = fresh_all it

own_place : (place : ℕ) → on_strip (edge_of place) place + edge_of place ≡ place + 1000
own_place place = at_its_place.there (edge_of place) place (omega arith) (omega arith)

pub one_entry : OneEntry
one_entry = record { once = λ plan gaps ride number rs k h low. whole_signs plan k h gaps ride number rs low; there = own_place }
