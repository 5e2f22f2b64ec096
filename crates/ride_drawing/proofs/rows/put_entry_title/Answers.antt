-- The line is spelled in a space of its own, and put without its last byte.
-- Assumes nothing.
use mathlib.Core.Path.{sym}
use native.Mathlib.Omega.{arith}
use lib.Seq.{length-take-le}
use Rattle.text.proofs.Standing.{Begins, begins}
use Rattle.text.specs.Put.{put}
use Rattle.acceptance_text.specs.Lines.{entry_line}
use Rattle.acceptance_text.proofs.Pieces.{entry_length}
use Rattle.ride_drawing.proofs.Cases.{cut_short}
use Rattle.text.proofs.Putting.{word_as}
use Rattle.ride_drawing.specs.Row.{entry_title}
use Rattle.ride_drawing.proofs.rows.put_entry_title.Goals.{After-put_entry-n}
use Rattle.ride_drawing.proofs.rows.put_entry_title.Goals as goal

-- The space begins with the line.
spelled : (c : After-put_entry-n) → let a = c.args in Begins (entry_line a.i a.entry) c.put_entry-n.new.buf c.put_entry-n.result
spelled c =
    let a = c.args in
    begins 128 (entry_line a.i a.entry) (entry_length a.i a.entry) c.put_entry-n.ensures

pub slice_bounds-space-end : goal.slice_bounds-space-end
slice_bounds-space-end c = omega (arith, c.without_newline-m.ensures, (spelled (goal.at-slice_bounds-space-end c).After-put_entry-n).within)

pub slice_bounds-put-end : goal.slice_bounds-put-end
slice_bounds-put-end c = sym (length-take-le _ _ (omega (arith, c.without_newline-m.ensures, (spelled (goal.at-slice_bounds-put-end c).After-put_entry-n).within)))

pub returns : goal.returns
unfolding entry_title
returns c =
    word_as _ _ (cut_short c.put_entry-n.result c.without_newline-m.result (spelled (goal.at-returns c).After-put_entry-n) c.without_newline-m.ensures) c.put.ensures
