-- Each contract fixes its function's answer.
-- Assumes nothing.
use mathlib.Core.Path.{◌≡◌, sym, ◌∙◌}
use Rattle.state_bytes.proofs.store_bytes.Kinds as bytes_kinds
use Rattle.state_bytes.proofs.store_bytes.Reads as bytes_reads
use Rattle.state_bytes.proofs.store_in.Kinds as in_kinds
use Rattle.state_bytes.proofs.store_in.Reads as in_reads
use Rattle.state_bytes.proofs.figures.figure_at.Kinds as figure_kinds
use Rattle.state_bytes.proofs.figures.figure_at.Reads as figure_reads
use Rattle.state_bytes.proofs.figures.low8.Kinds as low8_kinds
use Rattle.state_bytes.proofs.figures.low8.Reads as low8_reads
use Rattle.state_bytes.proofs.figures.low16.Kinds as low16_kinds
use Rattle.state_bytes.proofs.figures.low16.Reads as low16_reads
use Rattle.state_bytes.proofs.figures.low32.Kinds as low32_kinds
use Rattle.state_bytes.proofs.figures.low32.Reads as low32_reads
use Rattle.state_bytes.proofs.figures.spread.Kinds as spread_kinds
use Rattle.state_bytes.proofs.figures.spread.Reads as spread_reads
use contract.Lifetimes.{Lfts}
use borrow.Fn.Kinds.{Dens, ended_of}
use denote.Triple.Clauses.{AtExit}
use Rattle.words.proofs.Told.{Fixed}

pub store_bytes_determined : Fixed 0 bytes_kinds.ps bytes_kinds.r bytes_reads.Post
store_bytes_determined κs a r r' x x' p q = p.0 ∙ sym q.0

pub store_in_determined : Fixed 1 in_kinds.ps in_kinds.r in_reads.Post
store_in_determined κs a r r' x x' p q = p ∙ sym q

pub figure_at_determined : Fixed 1 figure_kinds.ps figure_kinds.r figure_reads.Post
figure_at_determined κs a r r' x x' p q = p ∙ sym q

pub low8_determined : Fixed 0 low8_kinds.ps low8_kinds.r low8_reads.Post
low8_determined κs a r r' x x' p q = p ∙ sym q

pub low16_determined : Fixed 0 low16_kinds.ps low16_kinds.r low16_reads.Post
low16_determined κs a r r' x x' p q = p ∙ sym q

pub low32_determined : Fixed 0 low32_kinds.ps low32_kinds.r low32_reads.Post
low32_determined κs a r r' x x' p q = p ∙ sym q

-- `bytes` is the second of the arguments of `spread`.
pub spread_determined : (κs : Lfts 2) (a : Dens κs spread_kinds.ps) (x x' : AtExit (ended_of 2 spread_kinds.ps spread_kinds.r) κs)
    → spread_reads.Post κs a tt x → spread_reads.Post κs a tt x' → x.1.0.now ≡ x'.1.0.now
spread_determined κs a x x' p q = p.0 ∙ sym q.0
