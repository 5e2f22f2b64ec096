-- Document 01's lines as text.
-- Assumes nothing.
use mathlib.Core.Path.{◌≡◌, refl}
use Rattle.group_rows.specs.declared.Direction.{Direction}
use Rattle.group_rows.specs.declared.Kind.{Kind}
use Rattle.group.specs.declared.Number.{Number}
use Rattle.ride.specs.declared.Mark.{Mark}
use Rattle.ride.specs.declared.Line.{Line}
use Rattle.ride_text.specs.Text.{codes, digits, decimal, seen, text_with, text}

first_signal : text (Line.Group (record { place = 1000; direction = Direction.Present; kind = Kind.Signal; mark = Mark.First; number = Number.None })) ≡ codes "1000 present signal first\n"
unfolding text_with seen decimal digits
first_signal = refl

opposite_signal : text (Line.Group (record { place = 1000; direction = Direction.Opposite; kind = Kind.Signal; mark = Mark.Unmarked; number = Number.None })) ≡ codes "1000 opposite signal\n"
unfolding text_with seen decimal digits
opposite_signal = refl

late_with_number : text (Line.Group (record { place = 6410; direction = Direction.Present; kind = Kind.Signal; mark = Mark.Late; number = Number.Figure 17 })) ≡ codes "6410 present signal late n17\n"
unfolding text_with seen decimal digits
late_with_number = refl

opposite_with_number : text (Line.Group (record { place = 11030; direction = Direction.Opposite; kind = Kind.Signal; mark = Mark.Unmarked; number = Number.Figure 1612 })) ≡ codes "11030 opposite signal n1612\n"
unfolding text_with seen decimal digits
opposite_with_number = refl

missed : text (Line.Missed 5800) ≡ codes "5800 missed\n"
unfolding text_with decimal digits
missed = refl

trace_refused : text (Line.Trace 16) ≡ codes "trace refused 16\n"
unfolding text_with decimal digits
trace_refused = refl

fault : text (Line.Fault 1000 13) ≡ codes "1000 fault 13\n"
unfolding text_with decimal digits
fault = refl

record_refused : text (Line.Record 3 17) ≡ codes "record 3 refused 17\n"
unfolding text_with decimal digits
record_refused = refl

nought : decimal 0 ≡ codes "0"
unfolding decimal digits
nought = refl

largest : decimal 18446744073709551615 ≡ codes "18446744073709551615"
unfolding decimal digits
largest = refl
