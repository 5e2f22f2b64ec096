-- Each contract fixes its function's whole answer: any two answers that it allows are equal.
-- Assumes nothing.
use mathlib.Core.Path.{sym, ◌∙◌}
use Rattle.plan_text.proofs.read.Kinds as read_kinds
use Rattle.plan_text.proofs.read.Reads as read_reads
use Rattle.plan_text.proofs.entry_of.Kinds as entry_of_kinds
use Rattle.plan_text.proofs.entry_of.Reads as entry_of_reads
use Rattle.words.proofs.Told.{Fixed}

pub read_determined : Fixed 0 read_kinds.ps read_kinds.r read_reads.Post
read_determined κs a r r' x x' p q = p ∙ sym q

pub entry_of_determined : Fixed 0 entry_of_kinds.ps entry_of_kinds.r entry_of_reads.Post
entry_of_determined κs a r r' x x' p q = p ∙ sym q
