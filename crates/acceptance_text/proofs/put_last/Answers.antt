-- The lines are spelled in a space of their own, and put into the buffer if they fit there.
-- Assumes nothing.
use mathlib.Core.Path.{subst}
use mathlib.Core.Bool.{Bool}
use mathlib.Core.List.{◌++◌}
use native.Mathlib.Omega.{arith}
use Rattle.text.proofs.Standing.{Begins, begins, as_long, put_as}
use Rattle.acceptance_text.specs.Lines.{trouble_line, verdict, last_lines}
use Rattle.acceptance_text.proofs.Pieces.{last_length}
use Rattle.acceptance_text.proofs.put_last.Goals.{After-spell_last-n}
use Rattle.acceptance_text.proofs.put_last.Goals as goal

-- The space begins with the text.
line : (c : After-spell_last-n) →
    let a = c.args in
    Begins (last_lines a.sums a.faults a.records) c.spell_last-n.new.buf c.spell_last-n.result
unfolding last_lines
line c =
    let a = c.args in
    let text = trouble_line a.faults a.records in
    subst (λ (p : Bool). Begins (text ++ verdict p) c.spell_last-n.new.buf c.spell_last-n.result) c.is_passed.ensures
    (begins 128 (text ++ verdict c.is_passed.result) (last_length c.is_passed.result a.faults a.records) c.spell_last-n.ensures)

pub spell_last-n-requires : goal.spell_last-n-requires
spell_last-n-requires c =
    let a = c.args in
    omega (arith, last_length c.is_passed.result a.faults a.records)

pub slice_bounds-space-end : goal.slice_bounds-space-end
slice_bounds-space-end c = (line (goal.at-slice_bounds-space-end c).After-spell_last-n).within

pub slice_bounds-put-end : goal.slice_bounds-put-end
slice_bounds-put-end c = as_long (line (goal.at-slice_bounds-put-end c).After-spell_last-n)

pub returns : goal.returns
returns c = put_as _ _ (line (goal.at-returns c).After-spell_last-n) c.put.ensures
