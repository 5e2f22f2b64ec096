-- A byte of the buffer, or what a list gives beyond its end.
-- Assumes nothing.
use mathlib.Core.Path.{sym}
use lib.ListN.{get_or-eq_default}
use Rattle.contact_drawing.proofs.wave.nth.Goals as goal

pub returns-then-i-bits : goal.returns-then-i-bits
returns-then-i-bits c = sym (get_or-eq_default c.args.bits.now 0 c.if-i-bits.true)
