-- The line is spelled in a space of its own, and put into the buffer if it fits there.
-- Assumes nothing.
use native.Mathlib.Omega.{arith}
use Rattle.text.proofs.Standing.{Begins, begins, as_long, put_as}
use Rattle.acceptance_text.specs.Lines.{entry_line}
use Rattle.acceptance_text.proofs.Pieces.{entry_length}
use Rattle.acceptance_text.proofs.put_entry.Goals.{After-spell_entry-n}
use Rattle.acceptance_text.proofs.put_entry.Goals as goal

-- The space begins with the text.
line : (c : After-spell_entry-n) → let a = c.args in Begins (entry_line a.i a.entry) c.spell_entry-n.new.buf c.spell_entry-n.result
line c =
    let a = c.args in
    begins 128 (entry_line a.i a.entry) (omega (arith, entry_length a.i a.entry)) c.spell_entry-n.ensures

pub spell_entry-n-requires : goal.spell_entry-n-requires
spell_entry-n-requires c = omega (arith, entry_length c.args.i c.args.entry)

pub slice_bounds-space-end : goal.slice_bounds-space-end
slice_bounds-space-end c = (line (goal.at-slice_bounds-space-end c).After-spell_entry-n).within

pub slice_bounds-put-end : goal.slice_bounds-put-end
slice_bounds-put-end c = as_long (line (goal.at-slice_bounds-put-end c).After-spell_entry-n)

pub returns : goal.returns
returns c = put_as _ _ (line (goal.at-returns c).After-spell_entry-n) c.put.ensures
