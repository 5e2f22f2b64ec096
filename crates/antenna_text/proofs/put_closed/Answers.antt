-- The start is the closing bit less the length, and the first place is counted from it.
-- Assumes nothing.
use mathlib.Core.Path.{ap, ◌∙◌}
use mathlib.Core.List.{List}
use Prim.Native.Nat.{ℕ}
use Rattle.text.specs.Put.{put}
use Rattle.antenna_text.proofs.Shown.{closed_is}
use Rattle.antenna_text.proofs.put_closed.Goals as goal

pub returns : goal.returns
returns c =
    let a = c.args in
    c.put_contact.ensures ∙ ap (λ (t : List ℕ). put t a.buf.now a.at) (closed_is a.end a.bits a.judged c.first_bit-start.ensures c.placed.ensures)
