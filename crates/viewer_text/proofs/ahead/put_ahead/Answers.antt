-- `put_ahead` spells the line in a space of its own, and puts it into the buffer if it fits there.
use Prim.Native.Nat.{ℕ, ◌+◌, ◌≤◌}
use native.Mathlib.Omega.{arith}
use lib.ListN.{length, replicate, length-append, length-replicate}
use Rattle.text.specs.Text.{codes}
use Rattle.text.proofs.Standing.{Begins, begins, as_long, put_as, join_3}
use Rattle.trace_text.specs.declared.What.{What}
use Rattle.trace_text.specs.Line.{thing_text}
use Rattle.trace_text.proofs.Pieces.{thing_length}
use Rattle.viewer_text.specs.Text.{next_is}
use Rattle.viewer_text.proofs.ahead.put_ahead.Goals.{After-put-n}
use Rattle.viewer_text.proofs.ahead.put_ahead.Goals as goal

next_length : (place : ℕ) (what : What) → length (next_is place what) ≤ 96
unfolding next_is
next_length place what = simp length-append (omega (arith, thing_length place what))

room : (place : ℕ) (what : What) → 0 + length (next_is place what) ≤ length (replicate {A = ℕ} 96 0)
room place what = omega (arith, next_length place what, length-replicate {A = ℕ} 96 0)

-- The space begins with the line.
line : (c : After-put-n) → let a = c.args in Begins (next_is a.place a.what) c.put-n.new.buf c.put-n.result
unfolding next_is
line c =
    let a = c.args in
    begins 96 (next_is a.place a.what) (next_length a.place a.what)
    (join_3 (replicate 96 0) 0 (codes "  next ") (thing_text a.place a.what) (codes "\n") (room a.place a.what) c.put-a.ensures c.put_thing-b.ensures c.put-n.ensures)

pub slice_bounds-space-end : goal.slice_bounds-space-end
slice_bounds-space-end c = (line (goal.at-slice_bounds-space-end c).After-put-n).within

pub slice_bounds-put-end-5 : goal.slice_bounds-put-end-5
slice_bounds-put-end-5 c = as_long (line (goal.at-slice_bounds-put-end-5 c).After-put-n)

pub returns : goal.returns
returns c = put_as _ _ (line (goal.at-returns c).After-put-n) c.put.ensures
