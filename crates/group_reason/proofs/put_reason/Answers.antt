-- The text is spelled in a space of its own, and put into the buffer if it fits there.
-- Assumes nothing.
use native.Mathlib.Omega.{arith}
use Rattle.text.proofs.Standing.{Begins, begins, as_long, put_as}
use Rattle.group_reason.specs.Says.{says_reason}
use Rattle.group_reason.specs.Text.{reason_text}
use Rattle.group_reason.proofs.Pieces.{reason_length}
use Rattle.group_reason.proofs.put_reason.Goals.{After-put_text-n}
use Rattle.group_reason.proofs.put_reason.Goals as goal

-- The space begins with the text.
line : (c : After-put_text-n) → let a = c.args in Begins (reason_text (says_reason a.reason)) c.put_text-n.new.buf c.put_text-n.result
line c =
    let a = c.args in
    begins 96 (reason_text (says_reason a.reason)) (omega (arith, reason_length (says_reason a.reason))) c.put_text-n.ensures

pub put_text-n-requires : goal.put_text-n-requires
put_text-n-requires c = omega (arith, reason_length (says_reason c.args.reason))

pub slice_bounds-space-end : goal.slice_bounds-space-end
slice_bounds-space-end c = (line (goal.at-slice_bounds-space-end c).After-put_text-n).within

pub slice_bounds-put-end : goal.slice_bounds-put-end
slice_bounds-put-end c = as_long (line (goal.at-slice_bounds-put-end c).After-put_text-n)

pub returns : goal.returns
returns c = put_as _ _ (line (goal.at-returns c).After-put_text-n) c.put.ensures
