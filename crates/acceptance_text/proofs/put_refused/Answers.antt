-- The line is spelled in a space of its own, and put into the buffer if it fits there.
-- Assumes nothing.
use native.Mathlib.Omega.{arith}
use Rattle.text.proofs.Standing.{Begins, begins, as_long, put_as}
use Rattle.acceptance_text.specs.Lines.{refused_line}
use Rattle.acceptance_text.proofs.Pieces.{refused_length}
use Rattle.acceptance_text.proofs.put_refused.Goals.{After-spell_refused-n}
use Rattle.acceptance_text.proofs.put_refused.Goals as goal

-- The space begins with the text.
line : (c : After-spell_refused-n) → let a = c.args in Begins (refused_line a.number) c.spell_refused-n.new.buf c.spell_refused-n.result
line c =
    let a = c.args in
    begins 128 (refused_line a.number) (omega (arith, refused_length a.number)) c.spell_refused-n.ensures

pub spell_refused-n-requires : goal.spell_refused-n-requires
spell_refused-n-requires c = omega (arith, refused_length c.args.number)

pub slice_bounds-space-end : goal.slice_bounds-space-end
slice_bounds-space-end c = (line (goal.at-slice_bounds-space-end c).After-spell_refused-n).within

pub slice_bounds-put-end : goal.slice_bounds-put-end
slice_bounds-put-end c = as_long (line (goal.at-slice_bounds-put-end c).After-spell_refused-n)

pub returns : goal.returns
returns c = put_as _ _ (line (goal.at-returns c).After-spell_refused-n) c.put.ensures
