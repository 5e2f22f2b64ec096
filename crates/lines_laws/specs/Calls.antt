-- What the contracts of `lines` allow: the theorems take these as their hypotheses. `Post` of a
-- function is its `ensures` line, made into a statement by the kit. A lent block is a reference
-- whose bytes are `now` of it.
-- Assumes nothing.
use Rattle.std.specs.Prelude.{ℕ, ◌≡◌, List}
use contract.Lifetimes.{Lfts}
use Rattle.std.specs.Borrow.{Bor}
use borrow.Fn.Kinds.{ended_of}
use denote.Triple.Clauses.{AtExit}
use Rattle.lines.specs.declared.Reader.{Reader}
use Rattle.lines.specs.declared.Got.{Got}
use Rattle.lines.proofs.fresh.Kinds as fresh_kinds
use Rattle.lines.proofs.fresh.Reads as fresh_reads
use Rattle.lines.proofs.begin.Kinds as begin_kinds
use Rattle.lines.proofs.begin.Reads as begin_reads
use Rattle.lines.proofs.next_line.Kinds as next_line_kinds
use Rattle.lines.proofs.next_line.Reads as next_line_reads

-- The contract of `fresh` allows the reader r.
abbrev pub Fresh : Reader → Type 0
Fresh r = (e : AtExit (ended_of 0 fresh_kinds.ps fresh_kinds.r) tt) × fresh_reads.Post tt tt r e

-- The contract of `begin` allows the answer r for this block.
abbrev pub Begin : List ℕ → ℕ → Type 0
Begin block r =
    (κs : Lfts 1) × (text : Bor (List ℕ)) × (e : AtExit (ended_of 1 begin_kinds.ps begin_kinds.r) κs)
    × (text.now ≡ block) × begin_reads.Post κs (text, tt) r e

-- The contract of `next_line` allows the answer r for this reader and block, from this place on.
abbrev pub NextLine : Reader → List ℕ → ℕ → Got → Type 0
NextLine reader block from r =
    (κs : Lfts 1) × (text : Bor (List ℕ)) × (e : AtExit (ended_of 1 next_line_kinds.ps next_line_kinds.r) κs)
    × (text.now ≡ block) × next_line_reads.Post κs (reader, (text, (from, tt))) r e
