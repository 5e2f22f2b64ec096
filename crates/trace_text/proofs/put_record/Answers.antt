-- `put_record` spells the line in a space of its own, and puts it into the buffer if it fits there.
use native.Mathlib.Omega.{arith}
use Rattle.text.proofs.Standing.{Begins, begins, as_long, put_as}
use Rattle.trace_text.specs.Line.{record_line}
use Rattle.trace_text.proofs.Pieces.{line_length}
use Rattle.trace_text.proofs.put_record.Goals.{After-put_line-n}
use Rattle.trace_text.proofs.put_record.Goals as goal

-- The space begins with the text.
line : (c : After-put_line-n) → let a = c.args in Begins (record_line a.number a.place a.what) c.put_line-n.new.buf c.put_line-n.result
line c =
    let a = c.args in
    begins 128 (record_line a.number a.place a.what) (omega (arith, line_length a.number a.place a.what)) c.put_line-n.ensures

pub put_line-n-requires : goal.put_line-n-requires
put_line-n-requires c = omega (arith, line_length c.args.number c.args.place c.args.what)

pub slice_bounds-space-end : goal.slice_bounds-space-end
slice_bounds-space-end c = (line (goal.at-slice_bounds-space-end c).After-put_line-n).within

pub slice_bounds-put-end : goal.slice_bounds-put-end
slice_bounds-put-end c = as_long (line (goal.at-slice_bounds-put-end c).After-put_line-n)

pub returns : goal.returns
returns c = put_as _ _ (line (goal.at-returns c).After-put_line-n) c.put.ensures
