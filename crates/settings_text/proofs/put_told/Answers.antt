-- `put_told` spells the line in a space of its own, and puts it into the buffer if it fits there.
use native.Mathlib.Omega.{arith}
use Rattle.text.proofs.Standing.{Begins, begins, as_long, put_as}
use Rattle.settings_text.specs.Told.{told}
use Rattle.settings_text.proofs.Pieces.{told_length}
use Rattle.settings_text.proofs.put_told.Goals.{After-put_how-n}
use Rattle.settings_text.proofs.put_told.Goals as goal

-- The space begins with the text.
line : (c : After-put_how-n) → let a = c.args in Begins (told a.line a.how) c.put_how-n.new.buf c.put_how-n.result
line c =
    let a = c.args in
    begins 128 (told a.line a.how) (omega (arith, told_length a.line a.how)) c.put_how-n.ensures

pub put_how-n-requires : goal.put_how-n-requires
put_how-n-requires c = omega (arith, told_length c.args.line c.args.how)

pub slice_bounds-space-end : goal.slice_bounds-space-end
slice_bounds-space-end c = (line (goal.at-slice_bounds-space-end c).After-put_how-n).within

pub slice_bounds-put-end : goal.slice_bounds-put-end
slice_bounds-put-end c = as_long (line (goal.at-slice_bounds-put-end c).After-put_how-n)

pub returns : goal.returns
returns c = put_as _ _ (line (goal.at-returns c).After-put_how-n) c.put.ensures
