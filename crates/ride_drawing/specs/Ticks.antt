-- The ticks of refused records: at the last accepted odometer, over each other where they have one;
-- those before any accepted record in a row at the head.
-- Assumes nothing.
use Rattle.std.specs.Prelude.{ℕ, ◌+◌, ◌*◌, ◌&&◌, List, [], ◌∷◌, ◌++◌, eqb, ltb}
use Rattle.words.specs.Answer.{pick}
use Rattle.text.specs.Text.{codes, decimal}
use Rattle.group.specs.declared.Group.{Group}
use Rattle.ride.specs.declared.Line.{Line}
use Rattle.ride_drawing.specs.declared.Pen.{Pen}
use Rattle.ride_drawing.specs.Element.{Element, plain, mark}

-- A refused record before any accepted one: its sign in a picture of its own, at the head.
unfoldable pub in_the_row : Group → Line → List Element
in_the_row closed line = plain (codes "<svg class='r' viewBox='93 206 14 14'>" ∷ []) ∷ mark closed line 0 0 ∷ plain (codes "</svg>\n" ∷ []) ∷ []

-- The tick of a refused record on the pen's strip, at the last accepted odometer: over the ticks
-- that lie there, 5 units for each.
unfoldable pub on_the_ticks : Pen → ℕ → Group → Line → List Element
on_the_ticks pen odometer closed line =
    plain ((codes "<g transform='translate(0 -" ++ decimal (5 * pen.ticks)) ∷ codes ")'>" ∷ [])
    ∷ mark closed line pen.edge odometer
    ∷ plain (codes "</g>\n" ∷ [])
    ∷ []

-- A refused record: a small tick on the pen's strip, or in the row.
unfoldable pub draw_refused : Pen → ℕ → Group → Line → List Element
draw_refused pen odometer closed line = pick pen.is_open (on_the_ticks pen odometer closed line) (in_the_row closed line)

-- The pen with so many ticks under the next one.
abbrev pub ticked : ℕ → Pen → Pen
ticked n pen = record { edge = pen.edge; from = pen.from; is_open = pen.is_open; ticks = n }

-- One tick more: six lie over each other, and the next one stands on the first again.
abbrev pub one_tick : ℕ → ℕ
one_tick n = pick (ltb n 5) (n + 1) 0

-- The ticks that lie at the odometer after an accepted record: those that lay there before it. The
-- ticks of the row at the head lie on no strip.
abbrev pub ticks_at : Pen → ℕ → ℕ → ℕ
ticks_at pen before after = pick (pen.is_open && eqb before after) pen.ticks 0
