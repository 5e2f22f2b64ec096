-- The line is spelled in a space of its own, and put without its last byte.
-- Assumes nothing.
use mathlib.Core.Path.{sym}
use native.Mathlib.Omega.{arith}
use lib.Seq.{length-take-le}
use Rattle.text.proofs.Standing.{Begins, begins}
use Rattle.text.specs.Put.{put}
use Rattle.ride_drawing.proofs.Cases.{cut_short}
use Rattle.text.proofs.Putting.{word_as}
use Rattle.ride_drawing.specs.Sign.{title}
use Rattle.ride_text.proofs.Longest.{line_within}
use Rattle.ride_text.specs.Style.{with_reasons}
use Rattle.ride_text.specs.Text.{line_text}
use Rattle.ride_drawing.proofs.signs.put_title.Goals.{After-put_styled-n}
use Rattle.ride_drawing.proofs.signs.put_title.Goals as goal

-- The space begins with the line.
spelled : (c : After-put_styled-n) → let a = c.args in Begins (line_text with_reasons a.closed a.line) c.put_styled-n.new.buf c.put_styled-n.result
spelled c =
    let a = c.args in
    begins 160 (line_text with_reasons a.closed a.line) (line_within with_reasons a.closed a.line) c.put_styled-n.ensures

pub slice_bounds-space-end : goal.slice_bounds-space-end
slice_bounds-space-end c = omega (arith, c.without_newline-m.ensures, (spelled (goal.at-slice_bounds-space-end c).After-put_styled-n).within)

pub slice_bounds-put-end : goal.slice_bounds-put-end
slice_bounds-put-end c = sym (length-take-le _ _ (omega (arith, c.without_newline-m.ensures, (spelled (goal.at-slice_bounds-put-end c).After-put_styled-n).within)))

pub returns : goal.returns
unfolding title
returns c =
    word_as _ _ (cut_short c.put_styled-n.result c.without_newline-m.result (spelled (goal.at-returns c).After-put_styled-n) c.without_newline-m.ensures) c.put.ensures
