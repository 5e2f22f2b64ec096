-- `put_thing` spells it in a space of its own, and puts it into the buffer if it fits there.
use native.Mathlib.Omega.{arith}
use Rattle.text.proofs.Standing.{Begins, begins, as_long, put_as}
use Rattle.trace_text.specs.Line.{thing_text}
use Rattle.trace_text.proofs.Pieces.{thing_length}
use Rattle.trace_text.proofs.put_thing.Goals.{After-put_thing-n}
use Rattle.trace_text.proofs.put_thing.Goals as goal

-- The space begins with the text.
thing : (c : After-put_thing-n) → let a = c.args in Begins (thing_text a.place a.what) c.put_thing-n.new.buf c.put_thing-n.result
thing c =
    let a = c.args in
    begins 128 (thing_text a.place a.what) (omega (arith, thing_length a.place a.what)) c.put_thing-n.ensures

pub put_thing-n-requires : goal.put_thing-n-requires
put_thing-n-requires c = omega (arith, thing_length c.args.place c.args.what)

pub slice_bounds-space-end : goal.slice_bounds-space-end
slice_bounds-space-end c = (thing (goal.at-slice_bounds-space-end c).After-put_thing-n).within

pub slice_bounds-put-end : goal.slice_bounds-put-end
slice_bounds-put-end c = as_long (thing (goal.at-slice_bounds-put-end c).After-put_thing-n)

pub returns : goal.returns
returns c = put_as _ _ (thing (goal.at-returns c).After-put_thing-n) c.put.ensures
