-- The lines are spelled in a space of their own, and put into the buffer if they fit there.
-- Assumes nothing.
use native.Mathlib.Omega.{arith}
use Rattle.text.proofs.Standing.{Begins, begins, as_long, put_as}
use Rattle.recording_text.specs.Lines.{end_lines}
use Rattle.recording_text.proofs.Pieces.{end_length}
use Rattle.recording_text.proofs.put_end.Goals.{After-spell_end-n}
use Rattle.recording_text.proofs.put_end.Goals as goal

-- The space begins with the text.
lines : (c : After-spell_end-n) → let a = c.args in Begins (end_lines a.frames a.records a.bytes) c.spell_end-n.new.buf c.spell_end-n.result
lines c =
    let a = c.args in
    begins 384 (end_lines a.frames a.records a.bytes) (omega (arith, end_length a.frames a.records a.bytes)) c.spell_end-n.ensures

pub spell_end-n-requires : goal.spell_end-n-requires
spell_end-n-requires c = let a = c.args in omega (arith, end_length a.frames a.records a.bytes)

pub slice_bounds-space-end : goal.slice_bounds-space-end
slice_bounds-space-end c = (lines (goal.at-slice_bounds-space-end c).After-spell_end-n).within

pub slice_bounds-put-end : goal.slice_bounds-put-end
slice_bounds-put-end c = as_long (lines (goal.at-slice_bounds-put-end c).After-spell_end-n)

pub returns : goal.returns
returns c = put_as _ _ (lines (goal.at-returns c).After-spell_end-n) c.put.ensures
