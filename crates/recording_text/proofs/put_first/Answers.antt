-- The line is spelled in a space of its own, and put into the buffer if it fits there.
-- Assumes nothing.
use native.Mathlib.Omega.{arith}
use Rattle.text.proofs.Standing.{Begins, begins, as_long, put_as}
use Rattle.recording_text.specs.Lines.{first_line}
use Rattle.recording_text.proofs.Pieces.{first_length}
use Rattle.recording_text.proofs.put_first.Goals.{After-spell_first-n}
use Rattle.recording_text.proofs.put_first.Goals as goal

-- The space begins with the text.
line : (c : After-spell_first-n) → let a = c.args in Begins (first_line a.before a.after) c.spell_first-n.new.buf c.spell_first-n.result
line c =
    let a = c.args in
    begins 128 (first_line a.before a.after) (omega (arith, first_length a.before a.after)) c.spell_first-n.ensures

pub spell_first-n-requires : goal.spell_first-n-requires
spell_first-n-requires c = omega (arith, first_length c.args.before c.args.after)

pub slice_bounds-space-end : goal.slice_bounds-space-end
slice_bounds-space-end c = (line (goal.at-slice_bounds-space-end c).After-spell_first-n).within

pub slice_bounds-put-end : goal.slice_bounds-put-end
slice_bounds-put-end c = as_long (line (goal.at-slice_bounds-put-end c).After-spell_first-n)

pub returns : goal.returns
returns c = put_as _ _ (line (goal.at-returns c).After-spell_first-n) c.put.ensures
