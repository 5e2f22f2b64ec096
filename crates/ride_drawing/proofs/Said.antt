-- The signs of what a step adds are its lines, each with the group that closed then; those of a
-- ride are those of its steps.
-- Assumes nothing.
use mathlib.Core.Path.{◌≡◌, refl, ap, ap₂, ◌∙◌}
use mathlib.Core.Bool.{Bool, true, false}
use mathlib.Core.List.{List, [], ◌∷◌, ◌++◌, append-nil}
use Prim.Native.Nat.{ℕ, suc}
use Rattle.words.specs.Answer.{Outcome, gives, refuses, pick}
use Rattle.group.specs.declared.Group.{Group}
use Rattle.ride.specs.declared.Known.{Known}
use Rattle.ride.specs.declared.Line.{Line}
use Rattle.ride.specs.declared.Ride.{Ride}
use Rattle.ride.specs.Record.{odometer_of}
use Rattle.ride.specs.Step.{Step, End, treat, end}
use Rattle.ride.specs.Over.{lines_for}
use Rattle.ride_text.specs.SameLines.{Said, said_by, said_over}
use Rattle.ride_text.specs.Reasoned.{said_at_end}
use Rattle.acceptance.specs.declared.Entry.{Entry}
use Rattle.ride_drawing.specs.declared.Pen.{Pen}
use Rattle.ride_drawing.specs.declared.Plan.{Plan}
use Rattle.ride_drawing.specs.Strip.{is_further, arrive}
use Rattle.ride_drawing.specs.Row.{row, is_extra, is_on_the_way, furthest}
use Rattle.ride_drawing.specs.Element.{Element, plain, mark, entry, extra}
use Rattle.ride_drawing.specs.Way.{way, Past, come_by, past, way_past}
use Rattle.ride_drawing.specs.Ticks.{in_the_row, on_the_ticks, draw_refused}
use Rattle.ride_drawing.specs.Drawing.{extra_mark, place_of, after_line, after_lines, on_its_strip, draw_lines, certain, draw_accepted, draw_step, last_strip, the_rest, draw_end, known_before}
use Rattle.ride_drawing.specs.Draw.{step_pen, step_elements, draw_over}

-- The lines whose signs stand among some elements, each with the group that closed then.
abbrev pub said : List Element → List Said
said [] = []
said (plain pieces ∷ es) = said es
said (mark closed line edge place ∷ es) = record { closed = closed; line = line } ∷ said es
said (entry i e edge ∷ es) = said es
said (extra s edge ∷ es) = said es

said_append : (es fs : List Element) → said (es ++ fs) ≡ said es ++ said fs
said_append [] fs = refl
said_append (plain pieces ∷ es) fs = said_append es fs
said_append (mark closed line edge place ∷ es) fs = ap (λ (ss : List Said). record { closed = closed; line = line } ∷ ss) (said_append es fs)
said_append (entry i e edge ∷ es) fs = said_append es fs
said_append (extra s edge ∷ es) fs = said_append es fs

-- What the pen comes by on its way is no line,
by_said : (began : Pen) (i : ℕ) (e : Entry) (place until : ℕ) (known : Known) (pen : Pen) → said (come_by began i e place until known pen).elements ≡ []
unfolding come_by
by_said began i e place until known pen = go (is_on_the_way began place e)
  where
    on : Past
    on = record { elements = plain (way pen e.place until known) ∷ entry i e (arrive pen e.place until).edge ∷ []; pen = arrive pen e.place until }

    by : Past
    by = record { elements = []; pen = pen }

    go : (b : Bool) → said (pick b on by).elements ≡ []
    go true = refl
    go false = refl

past_said : (began : Pen) (es : List Entry) (pen : Pen) (i place until : ℕ) (known : Known) → said (past began pen i es place until known).elements ≡ []
unfolding past
past_said began [] pen i place until known = refl
past_said began (e ∷ es) pen i place until known =
    let here : Past = come_by began i e place until known pen in
    said_append here.elements (past began here.pen (suc i) es place until known).elements
    ∙ ap₂ (λ (x y : List Said). x ++ y) (by_said began i e place until known pen) (past_said began es here.pen (suc i) place until known)

way_said : (plan : Plan) (pen : Pen) (place until : ℕ) (known : Known) → said (way_past plan pen place until known) ≡ []
unfolding way_past
way_said plan pen place until known = go (is_further pen place)
  where
    p : Past
    p = past pen pen 0 (row plan) place until known

    go : (b : Bool) → said (pick b (p.elements ++ plain (way p.pen place until known) ∷ []) []) ≡ []
    go true = said_append p.elements (plain (way p.pen place until known) ∷ []) ∙ append-nil (said p.elements) ∙ past_said pen (row plan) pen 0 place until known
    go false = refl

-- and no mark of an extra group is.
extra_said : (plan : Plan) (l : Line) (edge : ℕ) → said (extra_mark plan l edge) ≡ []
extra_said plan (Line.Group s) edge = go (is_extra plan s)
  where
    go : (b : Bool) → said (pick b (extra s edge ∷ []) []) ≡ []
    go true = refl
    go false = refl
extra_said plan (Line.Fault place n) edge = refl
extra_said plan (Line.Missed place) edge = refl
extra_said plan (Line.Record number n) edge = refl
extra_said plan (Line.Trace n) edge = refl

-- A line has its own sign.
one_said : (plan : Plan) (pen : Pen) (known : Known) (closed : Group) (l : Line) (place : ℕ) → said (on_its_strip plan pen known closed l place) ≡ said_by closed (l ∷ [])
unfolding on_its_strip
one_said plan pen known closed l place =
    let there : Pen = arrive pen place place in
    let rest : List Element = plain (known_before there known l place) ∷ mark closed l there.edge place ∷ extra_mark plan l there.edge in
    said_append (way_past plan pen place place known) rest
    ∙ ap₂ (λ (x y : List Said). x ++ (record { closed = closed; line = l } ∷ y)) (way_said plan pen place place known) (extra_said plan l there.edge)

-- The signs of lines are the lines, with the group that closed.
lines_said : (plan : Plan) (pen : Pen) (known then : Known) (closed : Group) (ls : List Line) (odometer : ℕ) → said (draw_lines plan pen known then closed ls odometer) ≡ said_by closed ls
unfolding draw_lines
lines_said plan pen known then closed [] odometer = refl
lines_said plan pen known then closed (l ∷ ls) odometer =
    said_append (on_its_strip plan pen known closed l (place_of l odometer)) (draw_lines plan (after_line pen l odometer) then then closed ls odometer)
    ∙ ap₂ (λ (x y : List Said). x ++ y) (one_said plan pen known closed l (place_of l odometer)) (lines_said plan (after_line pen l odometer) then then closed ls odometer)

-- So they are where something that has no line's sign comes after them.
then_none : (plan : Plan) (pen : Pen) (known then : Known) (closed : Group) (ls : List Line) (odometer : ℕ) (es : List Element) → said es ≡ []
    → said (draw_lines plan pen known then closed ls odometer ++ es) ≡ said_by closed ls
then_none plan pen known then closed ls odometer es none =
    said_append (draw_lines plan pen known then closed ls odometer) es
    ∙ ap₂ (λ (x y : List Said). x ++ y) (lines_said plan pen known then closed ls odometer) none
    ∙ append-nil (said_by closed ls)

-- A refused record has one sign, on the strip or in the row.
refused_said : (pen : Pen) (odometer : ℕ) (closed : Group) (line : Line) → said (draw_refused pen odometer closed line) ≡ said_by closed (line ∷ [])
unfolding draw_refused on_the_ticks in_the_row
refused_said pen odometer closed line = go pen.is_open
  where
    go : (b : Bool) → said (pick b (on_the_ticks pen odometer closed line) (in_the_row closed line)) ≡ said_by closed (line ∷ [])
    go true = refl
    go false = refl

step_said : (plan : Plan) (pen : Pen) (ride : Ride) (number : ℕ) (o : Outcome (List Line)) (closed : Group) (after : Ride)
    → said (draw_step plan pen ride number o closed after) ≡ said_by closed (lines_for number o)
unfolding draw_accepted
step_said plan pen ride number (refuses n) closed after = refused_said pen ride.odometer closed (Line.Record number n)
step_said plan pen ride number (gives lines) closed after =
    then_none plan pen ride.known (end ride).ride.known closed lines ride.odometer (way_past plan (after_lines pen lines ride.odometer) after.odometer (certain after) after.known)
    (way_said plan (after_lines pen lines ride.odometer) after.odometer (certain after) after.known)

module _ (plan : Plan) (gaps : ℕ → ℕ) where
  pub over : (pen : Pen) (ride : Ride) (number : ℕ) (rs : List (List ℕ)) → said (draw_over plan gaps pen ride number rs).elements ≡ said_over gaps ride number rs
  unfolding draw_over said_over
  over pen ride number [] = refl
  over pen ride number (r ∷ rs) =
      let s : Step = treat ride (gaps (odometer_of r)) r in
      let pen' : Pen = step_pen pen ride s in
      said_append (step_elements plan pen ride number s) (draw_over plan gaps pen' s.ride (suc number) rs).elements
      ∙ ap₂ (λ (x y : List Said). x ++ y) (step_said plan pen ride number s.lines s.closed s.ride) (over pen' s.ride (suc number) rs)

rest_said : (plan : Plan) (pen : Pen) (ride : Ride) → said (the_rest plan pen ride) ≡ []
unfolding the_rest
rest_said plan pen ride =
    let p : Past = past pen pen 0 (row plan) furthest ride.odometer ride.known in
    said_append p.elements (plain (last_strip p.pen ride) ∷ []) ∙ append-nil (said p.elements) ∙ past_said pen (row plan) pen 0 furthest ride.odometer ride.known

pub ending : (plan : Plan) (pen : Pen) (ride : Ride) → said (draw_end plan pen ride) ≡ said_at_end ride
unfolding draw_end
ending plan pen ride =
    let e : End = end ride in
    then_none plan pen ride.known e.ride.known e.closed e.lines ride.odometer (the_rest plan (after_lines pen e.lines ride.odometer) e.ride)
    (rest_said plan (after_lines pen e.lines ride.odometer) e.ride)
