-- The contract fixes the whole answer: any two that it allows are equal.
-- Assumes nothing.
use mathlib.Core.Path.{sym, ◌∙◌}
use Rattle.words.proofs.Told.{Fixed}
use Rattle.track_text.proofs.read.Kinds as read_kinds
use Rattle.track_text.proofs.read.Reads as read_reads

pub read_determined : Fixed 0 read_kinds.ps read_kinds.r read_reads.Post
read_determined κs a x y at_x at_y p q = p ∙ sym q
