-- The contract fixes the whole answer and the lent buffer then: any two answers that it allows are
-- equal, and so are the buffers.
-- Assumes nothing.
use mathlib.Core.Path.{sym, ◌∙◌}
use Rattle.contact_drawing.proofs.draw.Kinds as draw_kinds
use Rattle.contact_drawing.proofs.draw.Reads as draw_reads
use Rattle.words.proofs.Told.{FixedWith}
use Rattle.text.proofs.Putting.{same_put}

pub draw_determined : FixedWith 2 draw_kinds.ps draw_kinds.r draw_reads.Post (λ κs x. x.1.1.1.1.1.1.1.0.now)
draw_determined κs a r r' x x' p q = same_put (p ∙ sym q)
