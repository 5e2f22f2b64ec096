-- The line is spelled in a space of its own, and put into the buffer if it fits there.
-- Assumes nothing.
use native.Mathlib.Omega.{arith}
use Rattle.text.proofs.Standing.{Begins, begins, as_long, put_as}
use Rattle.acceptance_text.specs.Lines.{sum_line}
use Rattle.acceptance_text.proofs.Pieces.{sum_length}
use Rattle.acceptance_text.proofs.put_sum.Goals.{After-spell_sum-n}
use Rattle.acceptance_text.proofs.put_sum.Goals as goal

-- The space begins with the text.
line : (c : After-spell_sum-n) → let a = c.args in Begins (sum_line a.sums) c.spell_sum-n.new.buf c.spell_sum-n.result
line c =
    let a = c.args in
    begins 256 (sum_line a.sums) (omega (arith, sum_length a.sums)) c.spell_sum-n.ensures

pub spell_sum-n-requires : goal.spell_sum-n-requires
spell_sum-n-requires c = omega (arith, sum_length c.args.sums)

pub slice_bounds-space-end : goal.slice_bounds-space-end
slice_bounds-space-end c = (line (goal.at-slice_bounds-space-end c).After-spell_sum-n).within

pub slice_bounds-put-end : goal.slice_bounds-put-end
slice_bounds-put-end c = as_long (line (goal.at-slice_bounds-put-end c).After-spell_sum-n)

pub returns : goal.returns
returns c = put_as _ _ (line (goal.at-returns c).After-spell_sum-n) c.put.ensures
