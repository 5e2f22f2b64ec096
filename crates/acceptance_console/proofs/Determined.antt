-- The contract that is an equation fixes the whole answer: any two answers that it allows are
-- equal. (The others read or write: docs/EXCEPTIONS.md.)
-- Assumes nothing.
use Rattle.std.proofs.Common.{sym, ◌∙◌}
use Rattle.words.proofs.Told.{Fixed}
use Rattle.acceptance_console.proofs.blocks.set_out.Kinds as set_out_kinds
use Rattle.acceptance_console.proofs.blocks.set_out.Reads as set_out_reads

pub set_out_determined : Fixed 0 set_out_kinds.ps set_out_kinds.r set_out_reads.Post
set_out_determined κs a r r' x x' p q = p ∙ sym q
