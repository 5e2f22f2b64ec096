-- No line is longer than 64 bytes, and none with its reason longer than 160.
-- Assumes nothing.
use mathlib.Core.Bool.{true, false}
use mathlib.Core.Path.{◌≡◌, refl}
use mathlib.Core.List.{List, []}
use Prim.Native.Nat.{ℕ, ◌+◌, ◌≤◌}
use native.Mathlib.Omega.{arith}
use lib.ListN.{length, length-append}
use Rattle.group_rows.specs.declared.Direction.{Direction}
use Rattle.group_rows.specs.declared.Kind.{Kind}
use Rattle.group.specs.declared.Number.{Number}
use Rattle.ride.specs.declared.Mark.{Mark}
use Rattle.ride.specs.declared.Seen.{Seen}
use Rattle.ride.specs.declared.Line.{Line}
use Rattle.group.specs.declared.Group.{Group}
use Rattle.group_reason.specs.Explain.{explain}
use Rattle.group_reason.proofs.Pieces.{reason_length}
use Rattle.ride_text.specs.Style.{Style, with_reasons}
use Rattle.ride_text.specs.Text.{direction_word, kind_word, mark, number, seen, text_with, text, why_text, line_text}
use Rattle.ride_text.specs.List.{room_for}
use Rattle.text.proofs.Decimal.{at_most, decimal_length}

direction_length : (d : Direction) → length (direction_word d) ≤ 9
direction_length Direction.Present = omega arith
direction_length Direction.Opposite = omega arith

pub kind_length : (k : Kind) → length (kind_word k) ≤ 9
kind_length Kind.Signal = omega arith
kind_length Kind.Warning = omega arith
kind_length Kind.Annulled = omega arith
kind_length Kind.Line = omega arith
kind_length Kind.Route = omega arith

mark_length : (m : Mark) → length (mark m) ≤ 6
mark_length Mark.Unmarked = omega arith
mark_length Mark.First = omega arith
mark_length Mark.Early = omega arith
mark_length Mark.Good = omega arith
mark_length Mark.Late = omega arith

number_length : (n : Number) → length (number n) ≤ 7
number_length Number.None = omega arith
number_length (Number.Figure m) = simp length-append (omega (arith, at_most 5 m))

seen_length : (s : Seen) → length (seen s) ≤ 64
unfolding seen
seen_length s =
    simp length-append
    (omega (arith, decimal_length s.place, direction_length s.direction, kind_length s.kind, mark_length s.mark, number_length s.number))

-- with so much behind a fault's number
longest_with : (why : List ℕ) (most : ℕ) → 64 ≤ most → 48 + length why ≤ most → (l : Line) → length (text_with why l) ≤ most
unfolding text_with
longest_with why most h k (Line.Group s) = omega (arith, seen_length s)
longest_with why most h k (Line.Fault place n) = simp length-append (omega (arith, decimal_length place, decimal_length n))
longest_with why most h k (Line.Missed place) = simp length-append (omega (arith, decimal_length place))
longest_with why most h k (Line.Record number n) = simp length-append (omega (arith, decimal_length number, decimal_length n))
longest_with why most h k (Line.Trace n) = simp length-append (omega (arith, decimal_length n))

pub longest : (l : Line) → length (text l) ≤ 64
longest l = longest_with [] 64 (omega arith) (omega arith) l

why_length : (g : Group) → length (why_text g) ≤ 98
unfolding why_text
why_length g = simp length-append (omega (arith, reason_length (explain g)))

-- The most bytes of a line in a style: half of the room for a record.
abbrev pub half : Style → ℕ
half false = 64
half true = 160

pub halves : (style : Style) → half style + half style ≡ room_for style
halves false = refl
halves true = refl

pub line_length : (style : Style) (g : Group) (l : Line) → length (line_text style g l) ≤ half style
line_length false g l = longest l
line_length true g l = longest_with (why_text g) 160 (omega arith) (omega (arith, why_length g)) l

-- No line has more than 160 bytes.
pub line_within : (style : Style) (g : Group) (l : Line) → length (line_text style g l) ≤ 160
line_within false g l = omega (arith, longest l)
line_within true g l = line_length with_reasons g l
