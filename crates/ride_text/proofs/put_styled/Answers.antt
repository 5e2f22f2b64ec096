-- `put_styled` spells the line in a space of its own, and puts it into the buffer if it fits there.
use native.Mathlib.Omega.{arith}
use Rattle.text.proofs.Standing.{Begins, begins, as_long, put_as}
use Rattle.ride_text.specs.Text.{line_text}
use Rattle.ride_text.proofs.Longest.{line_within}
use Rattle.ride_text.proofs.put_styled.Goals.{After-put_text-n}
use Rattle.ride_text.proofs.put_styled.Goals as goal

-- The space begins with the line's text.
spelled : (c : After-put_text-n) → let a = c.args in Begins (line_text a.reasons a.closed a.line) c.put_text-n.new.buf c.put_text-n.result
spelled c =
    let a = c.args in
    begins 160 (line_text a.reasons a.closed a.line) (line_within a.reasons a.closed a.line) c.put_text-n.ensures

pub returns : goal.returns
returns c = put_as _ _ (spelled (goal.at-returns c).After-put_text-n) c.put.ensures

pub put_text-n-requires : goal.put_text-n-requires
put_text-n-requires c = let a = c.args in omega (arith, line_within a.reasons a.closed a.line)

pub slice_bounds-space-end : goal.slice_bounds-space-end
slice_bounds-space-end c = (spelled (goal.at-slice_bounds-space-end c).After-put_text-n).within

pub slice_bounds-put-end : goal.slice_bounds-put-end
slice_bounds-put-end c = as_long (spelled (goal.at-slice_bounds-put-end c).After-put_text-n)
