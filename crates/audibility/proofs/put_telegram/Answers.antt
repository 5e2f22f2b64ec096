-- `put_telegram` spells the line in a space of its own, and puts it into the buffer if it fits
-- there.
use native.Mathlib.Omega.{arith}
use Rattle.text.proofs.Standing.{Begins, begins, as_long, put_as}
use Rattle.telegram.specs.Spelling.{asked}
use Rattle.audibility.specs.Lines.{telegram_line}
use Rattle.audibility.proofs.Pieces.{telegram_length}
use Rattle.audibility.proofs.put_telegram.Goals.{After-put_figures-n}
use Rattle.audibility.proofs.put_telegram.Goals as goal

-- The space begins with the text.
line : (c : After-put_figures-n) → let a = c.args in Begins (telegram_line (asked a.x a.y a.z)) c.put_figures-n.new.buf c.put_figures-n.result
line c =
    let a = c.args in
    begins 64 (telegram_line (asked a.x a.y a.z)) (omega (arith, telegram_length (asked a.x a.y a.z))) c.put_figures-n.ensures

pub put_figures-n-requires : goal.put_figures-n-requires
put_figures-n-requires c = omega (arith, telegram_length (asked c.args.x c.args.y c.args.z))

pub slice_bounds-space-end : goal.slice_bounds-space-end
slice_bounds-space-end c = (line (goal.at-slice_bounds-space-end c).After-put_figures-n).within

pub slice_bounds-put-end : goal.slice_bounds-put-end
slice_bounds-put-end c = as_long (line (goal.at-slice_bounds-put-end c).After-put_figures-n)

pub returns : goal.returns
returns c = put_as _ _ (line (goal.at-returns c).After-put_figures-n) c.put.ensures
