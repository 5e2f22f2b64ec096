-- The strips of a page: one for each kilometre in which a record was accepted or a line has its
-- place, 1 unit a metre, with a margin of 100 m on the left. Places and edges are in dm.
-- Assumes nothing.
use Rattle.std.specs.Prelude.{ℕ, zero, suc, ◌+◌, ◌-◌, ◌*◌, ◌/◌, ◌%◌, Bool, not, ◌||◌, List, [], ◌∷◌, ◌++◌, leb, ltb}
use Rattle.words.specs.Answer.{pick}
use Rattle.text.specs.Text.{codes, decimal}
use Rattle.ride_drawing.specs.declared.Pen.{Pen}

-- The lesser and the greater of two places.
abbrev pub lesser : ℕ → ℕ → ℕ
lesser a b = pick (leb a b) a b

abbrev pub greater : ℕ → ℕ → ℕ
greater a b = pick (leb a b) b a

-- Where a place lies on the strip with this left edge, in dm from the left side of the picture:
-- behind the margin of 1000, at most at the right edge; a place before the margin lies at the
-- picture's left side.
unfoldable pub on_strip : ℕ → ℕ → ℕ
on_strip edge place = pick (leb edge place) (1000 + lesser (place - edge) 10000) (1000 - (edge - place))

-- The left edge of the strip of a place.
abbrev pub edge_of : ℕ → ℕ
edge_of place = place / 10000 * 10000

-- Whether a place lies in a later strip than the pen's, or no strip is open yet.
unfoldable pub is_further : Pen → ℕ → Bool
is_further pen place = not pen.is_open || ltb (pen.edge / 10000) (place / 10000)

-- The pen on the strip of a place, where what is known has been drawn up to the place `until`.
unfoldable pub arrive : Pen → ℕ → ℕ → Pen
arrive pen place until =
    pick (is_further pen place) (record { edge = edge_of place; from = lesser until (edge_of place); is_open = Bool.true; ticks = pen.ticks }) pen

-- The figure at the tick that lies i times 100 m behind the edge: a kilometre with one decimal.
unfoldable pub figure : ℕ → ℕ → List (List ℕ)
figure km i =
    (codes "<text x='" ++ decimal (100 + 100 * i))
    ∷ (codes "' y='232'>" ++ decimal (km + i / 10))
    ∷ (codes "." ++ decimal (i % 10))
    ∷ codes "</text>"
    ∷ []

-- The figures at n ticks from this one on.
unfoldable pub figures : ℕ → ℕ → ℕ → List (List ℕ)
figures km i zero = []
figures km i (suc n) = figure km i ++ figures km (suc i) n

-- The head of the strip of a kilometre: its title, the grid, and a figure each 100 m.
unfoldable pub heading : ℕ → List (List ℕ)
heading km =
    (codes "<h2>km " ++ decimal km)
    ∷ codes "</h2>\n<div class='s'><svg viewBox='-12 0 1170 236'><use href='#g'/>"
    ∷ figures km 0 11
    ++ codes "\n" ∷ []

-- The end of a strip.
abbrev pub closing : List ℕ
closing = codes "</svg></div>\n"

-- Between two strips, one n kilometres after the other: those between them have no strip.
unfoldable pub between : ℕ → List (List ℕ)
between n = pick (ltb 1 n) ((codes "<p>" ++ decimal (n - 1)) ∷ codes " km without records</p>\n" ∷ []) []
