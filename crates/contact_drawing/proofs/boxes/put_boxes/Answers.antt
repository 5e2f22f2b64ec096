-- By the byte at the place.
-- Assumes nothing.
use mathlib.Core.Path.{sym, ◌∙◌}
use borrow.Author.Tests.{eq-eqb, ne_eqb}
use Rattle.telegram.specs.Stretch.{bits_at}
use Rattle.contact_drawing.specs.Strips.{boxes}
use Rattle.contact_drawing.proofs.boxes.put_boxes.Goals as goal

pub returns-then-byte-s : goal.returns-then-byte-s
unfolding boxes
returns-then-byte-s c =
    simp (eq-eqb _ _ (sym c.byte.ensures ∙ c.if-byte-s.true)) c.put_number.ensures

pub returns : goal.returns
unfolding boxes
returns c =
    let a = c.args in
    simp (ne_eqb (bits_at a.bits.now a.p 8) a.s (λ z. c.if-byte-s.false (c.byte.ensures ∙ z))) c.put_number-2.ensures
