-- Each contract fixes its function's whole answer: any two answers that it allows are equal.
-- Assumes nothing.
use mathlib.Core.Path.{sym, ◌∙◌}
use Rattle.lines.proofs.fresh.Kinds as fresh_kinds
use Rattle.lines.proofs.fresh.Reads as fresh_reads
use Rattle.lines.proofs.begin.Kinds as begin_kinds
use Rattle.lines.proofs.begin.Reads as begin_reads
use Rattle.lines.proofs.next_line.Kinds as next_line_kinds
use Rattle.lines.proofs.next_line.Reads as next_line_reads
use Rattle.words.proofs.Told.{Fixed}

pub fresh_determined : Fixed 0 fresh_kinds.ps fresh_kinds.r fresh_reads.Post
fresh_determined κs a r r' x x' p q = p ∙ sym q

pub begin_determined : Fixed 1 begin_kinds.ps begin_kinds.r begin_reads.Post
begin_determined κs a r r' x x' p q = p ∙ sym q

pub next_line_determined : Fixed 1 next_line_kinds.ps next_line_kinds.r next_line_reads.Post
next_line_determined κs a r r' x x' p q = p ∙ sym q
