-- The sign of a line: its shape at its place, the line as its title, and what stands beside it.
-- Assumes nothing.
use Rattle.std.specs.Prelude.{ℕ, ◌+◌, ◌-◌, ◌*◌, ◌/◌, ◌%◌, true, false, List, [], ◌∷◌, ◌++◌, ltb, length, take}
use Rattle.words.specs.Answer.{pick}
use Rattle.text.specs.Text.{codes, decimal}
use Rattle.group_rows.specs.declared.Direction.{Direction}
use Rattle.group_rows.specs.declared.Kind.{Kind}
use Rattle.group.specs.declared.Number.{Number}
use Rattle.group.specs.declared.Group.{Group}
use Rattle.ride.specs.declared.Mark.{Mark}
use Rattle.ride.specs.declared.Line.{Line}
use Rattle.ride_text.specs.Style.{with_reasons}
use Rattle.ride_text.specs.Text.{line_text}
use Rattle.ride_drawing.specs.Metres.{metres}
use Rattle.ride_drawing.specs.Strip.{on_strip}

-- The shape of a signal, by its mark,
abbrev pub mark_shape : Mark → ℕ
mark_shape Mark.Unmarked = 1
mark_shape Mark.First = 2
mark_shape Mark.Early = 3
mark_shape Mark.Good = 4
mark_shape Mark.Late = 5

-- of a kind,
abbrev pub kind_shape : Kind → Mark → ℕ
kind_shape Kind.Signal mark = mark_shape mark
kind_shape Kind.Warning mark = 6
kind_shape Kind.Annulled mark = 7
kind_shape Kind.Line mark = 8
kind_shape Kind.Route mark = 9

-- and of a direction: above the line the one ridden, below it the opposite.
abbrev pub seen_shape : Direction → ℕ → ℕ
seen_shape Direction.Present shape = shape
seen_shape Direction.Opposite shape = shape + 10

-- The shape of a line's sign: the page draws it once, under this number.
abbrev pub shape : Line → ℕ
shape (Line.Group s) = seen_shape s.direction (kind_shape s.kind s.mark)
shape (Line.Fault place n) = 20
shape (Line.Missed place) = 21
shape (Line.Record number n) = 22
shape (Line.Trace n) = 23

-- The line as `explain` writes it, without its newline.
unfoldable pub title : Group → Line → List ℕ
title closed line = take (length (line_text with_reasons closed line) - 1) (line_text with_reasons closed line)

-- How far down a number stands beside its sign.
abbrev pub beside : Direction → ℕ
beside Direction.Present = 146
beside Direction.Opposite = 198

-- How far down the number of a fault at x stands: at one of three heights, by turns each 4 m, so
-- that it is read beside a neighbour's.
abbrev pub beside_fault : ℕ → ℕ
beside_fault x = 146 - x / 40 % 3 * 14

-- A signal's number.
abbrev pub number_beside : Direction → Number → ℕ → List (List ℕ)
number_beside direction Number.None x = []
number_beside direction (Number.Figure m) x =
    metres (codes "<text dx='12' x='") x ++ (codes "' y='" ++ decimal (beside direction)) ∷ (codes "'>" ++ decimal m) ∷ codes "</text>" ∷ []

-- The place of a fault that began further back than the margin.
abbrev pub place_beside : ℕ → ℕ → List (List ℕ)
place_beside edge place = pick (ltb (place + 1000) edge) ((codes " at " ++ decimal place) ∷ []) []

-- What stands beside the sign of a line at x, on the strip with this edge.
unfoldable pub label : Line → ℕ → ℕ → List (List ℕ)
label (Line.Group s) edge x = number_beside s.direction s.number x
label (Line.Fault place n) edge x =
    metres (codes "<text class='x' dx='9' x='") x
    ++ (codes "' y='" ++ decimal (beside_fault x))
    ∷ (codes "'>" ++ decimal n)
    ∷ place_beside edge place ++ codes "</text>" ∷ []
label (Line.Missed place) edge x = []
label (Line.Record number n) edge x = []
label (Line.Trace n) edge x = []

-- The sign of a line whose place is this one, on the strip with this edge.
unfoldable pub sign : Group → Line → ℕ → ℕ → List (List ℕ)
sign closed line edge place =
    codes "<g><title>"
    ∷ title closed line
    ∷ (codes "</title><use href='#s" ++ decimal (shape line))
    ∷ metres (codes "' x='") (on_strip edge place)
    ++ codes "'/>"
    ∷ label line edge (on_strip edge place)
    ++ codes "</g>\n" ∷ []
