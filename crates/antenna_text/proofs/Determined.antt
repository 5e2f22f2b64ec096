-- Each contract fixes its function's answer, and `put_closed`'s every byte of the buffer: any two
-- that it allows are equal.
-- Assumes nothing.
use mathlib.Core.Path.{sym, ◌∙◌}
use Rattle.antenna_text.proofs.put_closed.Kinds as kinds
use Rattle.antenna_text.proofs.put_closed.Reads as reads
use Rattle.antenna_text.proofs.placing.first_bit.Kinds as first_kinds
use Rattle.antenna_text.proofs.placing.first_bit.Reads as first_reads
use Rattle.antenna_text.proofs.placing.number_at.Kinds as number_kinds
use Rattle.antenna_text.proofs.placing.number_at.Reads as number_reads
use Rattle.words.proofs.Told.{Fixed, FixedWith}
use Rattle.text.proofs.Putting.{same_put}

pub put_closed_determined : FixedWith 1 kinds.ps kinds.r reads.Post (λ κs x. x.1.1.1.0.now)
put_closed_determined κs a r r' x x' p q = same_put (p ∙ sym q)

pub first_bit_determined : Fixed 0 first_kinds.ps first_kinds.r first_reads.Post
first_bit_determined κs a r r' x x' p q = p ∙ sym q

pub number_at_determined : Fixed 0 number_kinds.ps number_kinds.r number_reads.Post
number_at_determined κs a r r' x x' p q = p ∙ sym q
