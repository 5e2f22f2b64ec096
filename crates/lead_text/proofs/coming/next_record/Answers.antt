-- `next_record` asks at the lead's end, or of the piece.
-- Assumes nothing.
use mathlib.Core.Path.{◌∙◌}
use Rattle.lead_text.specs.List.{place_of}
use Rattle.lead_text.proofs.Next.{at_end, in_piece}
use Rattle.lead_text.proofs.coming.next_record.Goals as goal

pub returns-then-ends : goal.returns-then-ends
returns-then-ends c =
    let a = c.args in
    c.of_end.ensures ∙ at_end a.ends a.store a.frames.now (place_of a.here) c.if-ends.true

pub returns : goal.returns
returns c =
    let a = c.args in
    c.of_piece.ensures ∙ in_piece a.ends a.store a.frames.now (place_of a.here) c.if-ends.false
