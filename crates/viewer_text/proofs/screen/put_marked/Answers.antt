-- `put_marked` spells the line in a space of its own, and puts it into the buffer if it fits there.
use mathlib.Core.Bool.{Bool, true, false}
use Prim.Native.Nat.{ℕ, ◌+◌, ◌≤◌}
use native.Mathlib.Omega.{arith}
use lib.ListN.{length, replicate, length-append, length-replicate}
use Rattle.text.proofs.Standing.{Begins, begins, as_long, put_as, join}
use Rattle.trace_text.specs.declared.What.{What}
use Rattle.trace_text.specs.Line.{record_line}
use Rattle.trace_text.proofs.Pieces.{line_length}
use Rattle.viewer_text.specs.Screen.{mark, marked}
use Rattle.viewer_text.proofs.screen.put_marked.Goals.{After-put_record-n}
use Rattle.viewer_text.proofs.screen.put_marked.Goals as goal

mark_length : (b : Bool) → length (mark b) ≤ 2
mark_length true = omega arith
mark_length false = omega arith

marked_length : (b : Bool) (number place : ℕ) (what : What) → length (marked b number place what) ≤ 136
unfolding marked
marked_length b number place what = omega (arith, length-append (mark b) (record_line number place what), mark_length b, line_length number place what)

room : (b : Bool) (number place : ℕ) (what : What) → 0 + length (marked b number place what) ≤ length (replicate {A = ℕ} 136 0)
room b number place what = omega (arith, marked_length b number place what, length-replicate {A = ℕ} 136 0)

-- The space begins with the line.
line : (c : After-put_record-n) → let a = c.args in Begins (marked a.ahead a.number a.place a.what) c.put_record-n.new.buf c.put_record-n.result
unfolding marked
line c =
    let a = c.args in
    begins 136 (marked a.ahead a.number a.place a.what) (marked_length a.ahead a.number a.place a.what)
    (join (replicate 136 0) 0 (mark a.ahead) (record_line a.number a.place a.what) (room a.ahead a.number a.place a.what) c.put_mark-a.ensures c.put_record-n.ensures)

pub slice_bounds-space-end : goal.slice_bounds-space-end
slice_bounds-space-end c = (line (goal.at-slice_bounds-space-end c).After-put_record-n).within

pub slice_bounds-put-end : goal.slice_bounds-put-end
slice_bounds-put-end c = as_long (line (goal.at-slice_bounds-put-end c).After-put_record-n)

pub returns : goal.returns
returns c = put_as _ _ (line (goal.at-returns c).After-put_record-n) c.put.ensures
