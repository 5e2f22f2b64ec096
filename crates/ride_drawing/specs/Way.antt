-- The way of the pen from strip to strip, past the entries of a plan.
-- Assumes nothing.
use Rattle.std.specs.Prelude.{ℕ, suc, ◌-◌, ◌/◌, List, [], ◌∷◌, ◌++◌}
use Rattle.words.specs.Answer.{pick}
use Rattle.text.specs.Text.{codes}
use Rattle.ride.specs.declared.Known.{Known}
use Rattle.acceptance.specs.declared.Entry.{Entry}
use Rattle.ride_drawing.specs.declared.Pen.{Pen}
use Rattle.ride_drawing.specs.declared.Plan.{Plan}
use Rattle.ride_drawing.specs.Strip.{is_further, arrive, heading, closing, between}
use Rattle.ride_drawing.specs.Span.{span}
use Rattle.ride_drawing.specs.Row.{row, is_on_the_way}
use Rattle.ride_drawing.specs.Element.{Element, plain, entry}

-- Before the first strip ends the row of records refused before any accepted one; before any other,
-- what is known is drawn up to the place `until`, and the kilometres without a strip are told.
unfoldable pub leaving : Pen → ℕ → ℕ → Known → List (List ℕ)
leaving pen place until known =
    pick pen.is_open
    (span pen.edge pen.from until known ++ closing ∷ between (place / 10000 - pen.edge / 10000))
    (codes "</p>\n" ∷ [])

-- The way of the pen to a place: nothing on its own strip, or its end and the head of the place's.
unfoldable pub way : Pen → ℕ → ℕ → Known → List (List ℕ)
way pen place until known = pick (is_further pen place) (leaving pen place until known ++ heading (place / 10000)) []

-- What the pen comes by, and where it stands then.
pub record Past : Type 0 where
  pub elements : List Element
  pub pen : Pen

-- An entry on the pen's way to a place, from where it began: the way there, and its sign on the
-- strip of its place; any other is left.
unfoldable pub come_by : Pen → ℕ → Entry → ℕ → ℕ → Known → Pen → Past
come_by began i e place until known pen =
    pick (is_on_the_way began place e)
    (record { elements = plain (way pen e.place until known) ∷ entry i e (arrive pen e.place until).edge ∷ []; pen = arrive pen e.place until })
    (record { elements = []; pen = pen })

-- The entries that the pen, from where it began, comes by on its way to a place, the first with
-- this index: one in a kilometre without a strip gets a strip of its own.
unfoldable pub past : Pen → Pen → ℕ → List Entry → ℕ → ℕ → Known → Past
past began pen i [] place until known = record { elements = []; pen = pen }
past began pen i (e ∷ es) place until known =
    let here : Past = come_by began i e place until known pen in
    let rest : Past = past began here.pen (suc i) es place until known in
    record { elements = here.elements ++ rest.elements; pen = rest.pen }

-- The way to a place past the entries of a plan.
unfoldable pub way_past : Plan → Pen → ℕ → ℕ → Known → List Element
way_past plan pen place until known =
    let p : Past = past pen pen 0 (row plan) place until known in
    pick (is_further pen place) (p.elements ++ plain (way p.pen place until known) ∷ []) []
