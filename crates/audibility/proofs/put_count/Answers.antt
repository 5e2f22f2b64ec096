-- `put_count` spells the line in a space of its own, and puts it into the buffer if it fits there.
use native.Mathlib.Omega.{arith}
use Rattle.text.proofs.Standing.{Begins, begins, as_long, put_as}
use Rattle.audibility.specs.Lines.{count_line}
use Rattle.audibility.proofs.Pieces.{count_length}
use Rattle.audibility.proofs.put_count.Goals.{After-put_counts-n}
use Rattle.audibility.proofs.put_count.Goals as goal

-- The space begins with the text.
line : (c : After-put_counts-n) → let a = c.args in Begins (count_line a.telegrams a.numbers) c.put_counts-n.new.buf c.put_counts-n.result
line c =
    let a = c.args in
    begins 128 (count_line a.telegrams a.numbers) (omega (arith, count_length a.telegrams a.numbers)) c.put_counts-n.ensures

pub put_counts-n-requires : goal.put_counts-n-requires
put_counts-n-requires c = omega (arith, count_length c.args.telegrams c.args.numbers)

pub slice_bounds-space-end : goal.slice_bounds-space-end
slice_bounds-space-end c = (line (goal.at-slice_bounds-space-end c).After-put_counts-n).within

pub slice_bounds-put-end : goal.slice_bounds-put-end
slice_bounds-put-end c = as_long (line (goal.at-slice_bounds-put-end c).After-put_counts-n)

pub returns : goal.returns
returns c = put_as _ _ (line (goal.at-returns c).After-put_counts-n) c.put.ensures
