-- `put_contact` spells the line in a space of its own, and puts it into the buffer if it fits
-- there.
use native.Mathlib.Omega.{arith}
use Rattle.text.proofs.Standing.{Begins, begins, as_long, put_as}
use Rattle.contact_text.specs.Lines.{heard}
use Rattle.contact_text.proofs.Pieces.{heard_length}
use Rattle.contact_text.proofs.put_contact.Goals.{After-put_heard-n}
use Rattle.contact_text.proofs.put_contact.Goals as goal

-- The space begins with the text.
line : (c : After-put_heard-n) → let a = c.args in Begins (heard a.start a.bits a.judged) c.put_heard-n.new.buf c.put_heard-n.result
line c =
    let a = c.args in
    begins 192 (heard a.start a.bits a.judged) (omega (arith, heard_length a.start a.bits a.judged)) c.put_heard-n.ensures

pub put_heard-n-requires : goal.put_heard-n-requires
put_heard-n-requires c = omega (arith, heard_length c.args.start c.args.bits c.args.judged)

pub slice_bounds-space-end : goal.slice_bounds-space-end
slice_bounds-space-end c = (line (goal.at-slice_bounds-space-end c).After-put_heard-n).within

pub slice_bounds-put-end : goal.slice_bounds-put-end
slice_bounds-put-end c = as_long (line (goal.at-slice_bounds-put-end c).After-put_heard-n)

pub returns : goal.returns
returns c = put_as _ _ (line (goal.at-returns c).After-put_heard-n) c.put.ensures
