-- Document 01's ride as it is drawn, computed: where the next signal is due, the speeds, and the
-- sign of the missed signal.
-- Assumes nothing.
use mathlib.Core.Path.{◌≡◌, refl}
use Rattle.text.specs.Text.{codes, digits, decimal}
use Rattle.text.specs.Pieces.{whole}
use Rattle.group.specs.declared.Told.{Told}
use Rattle.group.specs.declared.Number.{Number}
use Rattle.ride.specs.declared.Linking.{Linking}
use Rattle.ride.specs.declared.Known.{Known}
use Rattle.ride.specs.declared.Line.{Line}
use Rattle.ride.specs.State.{no_group}
use Rattle.ride_text.specs.Text.{text_with}
use Rattle.ride_drawing.specs.Strip.{on_strip}
use Rattle.ride_drawing.specs.Span.{speed_line, level, due, middle, band, span}
use Rattle.ride_drawing.specs.Sign.{title, label, sign}

-- From 1000 on the next signal is due in 4000 dm: from 4200 to 5800, in the middle at 5000.
due_there : whole (band (Linking.Set 4000 1000) 0 1000 6000)
    ≡ codes "<rect class='d' y='124' height='64' x='520.0' width='160.0'/>\n<path class='c' d='M600.0 124v64'/>\n"
unfolding band due middle on_strip decimal digits
due_there = refl

-- It is just there where it was announced: the band ends at its middle.
came_there : whole (band (Linking.Set 4000 1000) 0 1000 5000)
    ≡ codes "<rect class='d' y='124' height='64' x='520.0' width='80.0'/>\n<path class='c' d='M600.0 124v64'/>\n"
unfolding band due middle on_strip decimal digits
came_there = refl

-- "Main speed 130, target 80": the figure of the greater stands over its line, that of the lesser
-- under it.
abbrev slower_next : Known
slower_next = record { linking = Linking.Unset; main = Told.Kmh 130; target = Told.Kmh 80; number = Number.None }

speeds : whole (span 0 1000 5800 slower_next)
    ≡ codes "<g class='m' transform='translate(200.0 75)'><path d='M0 0h480.0'/><text y='-3'>130</text></g>\n<g class='t u' transform='translate(200.0 92)'><path d='M0 0h480.0'/><text y='-3'>80</text></g>\n"
unfolding span level speed_line band on_strip decimal digits
speeds = refl

-- "5800 missed"
missed : whole (sign no_group (Line.Missed 5800) 0 5800) ≡ codes "<g><title>5800 missed</title><use href='#s21' x='680.0'/></g>\n"
unfolding sign title label on_strip text_with no_group decimal digits
missed = refl
