-- Each contract fixes the whole answer and every lent byte: any two that it allows are equal.
-- Assumes nothing.
use mathlib.Core.Path.{sym, ◌∙◌}
use Rattle.settings_text.proofs.take.Kinds as take_kinds
use Rattle.settings_text.proofs.take.Reads as take_reads
use Rattle.settings_text.proofs.taking.no_store.Kinds as no_store_kinds
use Rattle.settings_text.proofs.taking.no_store.Reads as no_store_reads
use Rattle.settings_text.proofs.is_fine.Kinds as is_fine_kinds
use Rattle.settings_text.proofs.is_fine.Reads as is_fine_reads
use Rattle.settings_text.proofs.read.Kinds as read_kinds
use Rattle.settings_text.proofs.read.Reads as read_reads
use Rattle.settings_text.proofs.put_told.Kinds as put_told_kinds
use Rattle.settings_text.proofs.put_told.Reads as put_told_reads
use Rattle.words.proofs.Told.{Fixed, FixedWith}
use Rattle.text.proofs.Putting.{same_put}

pub take_determined : Fixed 0 take_kinds.ps take_kinds.r take_reads.Post
take_determined κs a r r' x x' p q = p ∙ sym q

pub no_store_determined : Fixed 0 no_store_kinds.ps no_store_kinds.r no_store_reads.Post
no_store_determined κs a r r' x x' p q = p ∙ sym q

pub is_fine_determined : Fixed 0 is_fine_kinds.ps is_fine_kinds.r is_fine_reads.Post
is_fine_determined κs a r r' x x' p q = p ∙ sym q

pub read_determined : Fixed 1 read_kinds.ps read_kinds.r read_reads.Post
read_determined κs a r r' x x' p q = p ∙ sym q

pub put_told_determined : FixedWith 1 put_told_kinds.ps put_told_kinds.r put_told_reads.Post (λ κs x. x.1.1.0.now)
put_told_determined κs a r r' x x' p q = same_put (p ∙ sym q)
