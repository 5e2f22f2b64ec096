-- Each contract that is an equation fixes the whole answer: any two answers that it allows are
-- equal. (The others read: docs/EXCEPTIONS.md.)
-- Assumes nothing.
use Rattle.std.proofs.Common.{sym, ◌∙◌}
use Rattle.words.proofs.Told.{Fixed}
use Rattle.console.proofs.blocks.begin.Kinds as begin_kinds
use Rattle.console.proofs.blocks.begin.Reads as begin_reads
use Rattle.console.proofs.progress.not_begun.Kinds as not_begun_kinds
use Rattle.console.proofs.progress.not_begun.Reads as not_begun_reads
use Rattle.console.proofs.streams.room.Kinds as room_kinds
use Rattle.console.proofs.streams.room.Reads as room_reads

pub begin_determined : Fixed 0 begin_kinds.ps begin_kinds.r begin_reads.Post
begin_determined κs a r r' x x' p q = p ∙ sym q

pub not_begun_determined : Fixed 0 not_begun_kinds.ps not_begun_kinds.r not_begun_reads.Post
not_begun_determined κs a r r' x x' p q = p ∙ sym q

pub room_determined : Fixed 0 room_kinds.ps room_kinds.r room_reads.Post
room_determined κs a r r' x x' p q = p.1 ∙ sym q.1
