-- `start_of` takes no more of the block than it has.
use Rattle.std.proofs.Common.{sym, arith, length-take-le}
use Rattle.typed_lines.proofs.start_of.Goals as goal

pub slice_bounds-begin-end : goal.slice_bounds-begin-end
slice_bounds-begin-end c = sym (length-take-le _ _ (omega arith))
