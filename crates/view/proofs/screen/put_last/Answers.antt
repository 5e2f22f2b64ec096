-- `put_last` puts no more than there is.
use Rattle.std.proofs.Common.{sym, arith, length-take-le}
use Rattle.view.proofs.screen.put_last.Goals as goal

pub slice_bounds-put-end : goal.slice_bounds-put-end
slice_bounds-put-end c = sym (length-take-le _ _ (omega arith))
