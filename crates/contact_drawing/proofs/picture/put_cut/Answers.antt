-- By the length.
-- Assumes nothing.
use borrow.Author.Tests.{lt-ltb, le-ltb}
use Rattle.text.proofs.Putting.{none, then, alone}
use Rattle.contact_drawing.specs.Strips.{cut_at}
use Rattle.contact_drawing.proofs.picture.put_cut.Goals as goal

pub returns-then-length-le2000 : goal.returns-then-length-le2000
unfolding cut_at
returns-then-length-le2000 c = simp (le-ltb _ _ c.if-length-le2000.true) (none _ _)

pub returns : goal.returns
unfolding cut_at
returns c =
    simp (lt-ltb _ _ c.if-length-le2000.false) (then _ _ _ _ c.put_number-a.ensures (alone _ _ _ c.put.ensures))
