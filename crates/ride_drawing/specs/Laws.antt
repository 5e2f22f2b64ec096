-- What is promised of a drawing: every line has one sign, and so has every entry of a plan; no
-- record adds more than the room that is kept for it. Of places: Places.antt; of titles:
-- Titles.antt.
-- Assumes nothing.
use Rattle.std.specs.Prelude.{ℕ, ◌+◌, ◌≤◌, ◌<◌, ◌≡◌, List, [], ◌∷◌, ◌++◌, eqb, length, get_or, Result}
use Rattle.words.specs.Answer.{pick}
use Rattle.group.specs.declared.Group.{Group}
use Rattle.ride.specs.declared.Line.{Line}
use Rattle.ride.specs.declared.Ride.{Ride}
use Rattle.ride.specs.declared.Lines.{Lines}
use Rattle.ride.specs.declared.Wrong.{Wrong}
use Rattle.ride.specs.Step.{end}
use Rattle.ride.specs.Says.{says_given}
use Rattle.ride.specs.Over.{ride_over}
use Rattle.acceptance.specs.Plan.{no_entry}
use Rattle.ride_drawing.specs.declared.Pen.{Pen}
use Rattle.ride_drawing.specs.Strip.{on_strip, edge_of}
use Rattle.ride_drawing.specs.declared.Plan.{Plan}
use Rattle.ride_drawing.specs.Row.{row, furthest}
use Rattle.ride_drawing.specs.Element.{Element, plain, mark, entry, extra}
use Rattle.ride_drawing.specs.Drawing.{draw_step, draw_end}
use Rattle.ride_drawing.specs.Draw.{text_of, draw_over, room_for}
use Rattle.ride_drawing.specs.Says.{fresh_pen}

-- ---- every line has one sign

-- The lines whose signs stand among some elements, in order.
abbrev pub signed : List Element → List Line
signed [] = []
signed (plain pieces ∷ es) = signed es
signed (mark closed line edge place ∷ es) = line ∷ signed es
signed (entry i e edge ∷ es) = signed es
signed (extra s edge ∷ es) = signed es

-- The signs of a ride are its lines, each once and in their order; so are those of its end.
pub record OneSign : Type 0 where
  pub over : (plan : Plan) (gaps : ℕ → ℕ) (pen : Pen) (ride : Ride) (number : ℕ) (rs : List (List ℕ)) → signed (draw_over plan gaps pen ride number rs).elements ≡ (ride_over gaps ride number rs).lines
  pub ending : (plan : Plan) (pen : Pen) (ride : Ride) → signed (draw_end plan pen ride) ≡ (end ride).lines

-- ---- every entry of a plan has one sign

-- How many signs the entry with this index has among some elements.
abbrev pub signs_of : ℕ → List Element → ℕ
signs_of k [] = 0
signs_of k (plain pieces ∷ es) = signs_of k es
signs_of k (mark closed line edge place ∷ es) = signs_of k es
signs_of k (extra s edge ∷ es) = signs_of k es
signs_of k (entry i e edge ∷ es) = pick (eqb k i) 1 0 + signs_of k es

-- In the picture of a whole ride with its end each entry of the plan, whose place has 32 bits, has
-- exactly one sign; and on the strip of its kilometre a place lies at its own distance, never at
-- the edge.
pub record OneEntry : Type 0 where
  pub once : (plan : Plan) (gaps : ℕ → ℕ) (ride : Ride) (number : ℕ) (rs : List (List ℕ)) (k : ℕ) → k < length (row plan) → (get_or (row plan) k no_entry).place ≤ furthest →
      let p = draw_over plan gaps fresh_pen ride number rs in
      signs_of k (p.elements ++ draw_end plan p.pen p.ride) ≡ 1
  pub there : (place : ℕ) → on_strip (edge_of place) place + edge_of place ≡ place + 1000

-- ---- no more than the room

-- No record adds more than the room that is kept for it, whatever it gives, and neither does the
-- end.
pub record Bounded : Type 0 where
  pub step : (plan : Plan) (pen : Pen) (ride : Ride) (number : ℕ) (given : Result Lines Wrong) (closed : Group) (after : Ride) → length (text_of (draw_step plan pen ride number (says_given given) closed after)) ≤ room_for
  pub ending : (plan : Plan) (pen : Pen) (ride : Ride) → length (text_of (draw_end plan pen ride)) ≤ room_for
