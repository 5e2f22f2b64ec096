-- `in_block` takes no more of the block than it has.
use Rattle.std.proofs.Common.{sym, arith, length-take-le}
use Rattle.typed_lines.proofs.in_block.Goals as goal

pub slice_bounds-next_line-end : goal.slice_bounds-next_line-end
slice_bounds-next_line-end c = sym (length-take-le _ _ (omega arith))
