-- `put_number_alone` spells the line in a space of its own, and puts it into the buffer if it fits
-- there.
use native.Mathlib.Omega.{arith}
use Rattle.text.proofs.Standing.{Begins, begins, as_long, put_as}
use Rattle.refusals.specs.Words.{alone}
use Rattle.refusals.proofs.Lengths.{alone_length}
use Rattle.refusals.proofs.bare.put_number_alone.Goals.{After-spell-n}
use Rattle.refusals.proofs.bare.put_number_alone.Goals as goal

-- The space begins with the text.
line : (c : After-spell-n) → let a = c.args in Begins (alone a.number) c.spell-n.new.buf c.spell-n.result
line c =
    let a = c.args in
    begins 64 (alone a.number) (omega (arith, alone_length a.number)) c.spell-n.ensures

pub spell-n-requires : goal.spell-n-requires
spell-n-requires c = omega (arith, alone_length c.args.number)

pub slice_bounds-space-end : goal.slice_bounds-space-end
slice_bounds-space-end c = (line (goal.at-slice_bounds-space-end c).After-spell-n).within

pub slice_bounds-put-end : goal.slice_bounds-put-end
slice_bounds-put-end c = as_long (line (goal.at-slice_bounds-put-end c).After-spell-n)

pub returns : goal.returns
returns c = put_as _ _ (line (goal.at-returns c).After-spell-n) c.put.ensures
