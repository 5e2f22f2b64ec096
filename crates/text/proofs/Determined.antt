-- Each contract fixes the place answered and every byte of the buffer: any two that it allows are
-- equal.
-- Assumes nothing.
use mathlib.Core.Path.{sym, ◌∙◌}
use Rattle.text.proofs.put.Kinds as put_kinds
use Rattle.text.proofs.put.Reads as put_reads
use Rattle.text.proofs.put_number.Kinds as put_number_kinds
use Rattle.text.proofs.put_number.Reads as put_number_reads
use Rattle.words.proofs.Told.{FixedWith}
use Rattle.text.proofs.Putting.{same_put}

pub put_determined : FixedWith 2 put_kinds.ps put_kinds.r put_reads.Post (λ κs x. x.1.0.now)
put_determined κs a r r' x x' p q = same_put (p ∙ sym q)

pub put_number_determined : FixedWith 2 put_number_kinds.ps put_number_kinds.r put_number_reads.Post (λ κs x. x.1.1.0.now)
put_number_determined κs a r r' x x' p q = same_put (p ∙ sym q)
