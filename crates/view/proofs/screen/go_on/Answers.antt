-- `go_on` keeps what it has and what it lists within the buffer.
use Rattle.std.proofs.Common.{sym, arith, length-take-le}
use Rattle.view.proofs.screen.go_on.Goals as goal

pub slice_bounds-last_lines-end-2 : goal.slice_bounds-last_lines-end-2
slice_bounds-last_lines-end-2 c = sym (length-take-le _ _ (omega arith))
