-- The contract fixes the place answered and every byte of the buffer: any two that it allows are
-- equal.
-- Assumes nothing.
use mathlib.Core.Path.{sym, ◌∙◌}
use Rattle.refusals.proofs.put_refused.Kinds as put_refused_kinds
use Rattle.refusals.proofs.put_refused.Reads as put_refused_reads
use Rattle.words.proofs.Told.{FixedWith}
use Rattle.text.proofs.Putting.{same_put}

pub put_refused_determined : FixedWith 1 put_refused_kinds.ps put_refused_kinds.r put_refused_reads.Post (λ κs x. x.1.0.now)
put_refused_determined κs a r r' x x' p q = same_put (p ∙ sym q)
