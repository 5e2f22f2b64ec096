-- The contract fixes the place answered and every byte of the buffer: any two that it allows are
-- equal.
-- Assumes nothing.
use mathlib.Core.Path.{sym, ◌∙◌}
use Rattle.contact_text.proofs.put_contact.Kinds as put_contact_kinds
use Rattle.contact_text.proofs.put_contact.Reads as put_contact_reads
use Rattle.words.proofs.Told.{FixedWith}
use Rattle.text.proofs.Putting.{same_put}

pub put_contact_determined : FixedWith 1 put_contact_kinds.ps put_contact_kinds.r put_contact_reads.Post (λ κs x. x.1.1.1.0.now)
put_contact_determined κs a r r' x x' p q = same_put (p ∙ sym q)
