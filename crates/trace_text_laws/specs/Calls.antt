-- What the contracts of `trace_text` allow: the theorems take these as their hypotheses. `Post` of
-- a function is its `ensures` line, made into a statement by the kit. A lent buffer is a reference
-- whose bytes are `now` of it.
-- Assumes nothing.
use denote.MutBor.{MutBor}
use Rattle.std.specs.Prelude.{ℕ, ◌≡◌, List}
use contract.Lifetimes.{Lfts}
use Rattle.std.specs.Borrow.{Bor}
use borrow.Fn.Kinds.{ended_of}
use denote.Triple.Clauses.{AtExit}
use Rattle.lines.specs.declared.TextLine.{TextLine}
use Rattle.trace_text.specs.declared.What.{What}
use Rattle.trace_text.specs.declared.Said.{Said}
use Rattle.trace_text.specs.declared.Recorded.{Recorded}
use Rattle.trace_text.proofs.read.Kinds as read_kinds
use Rattle.trace_text.proofs.read.Reads as read_reads
use Rattle.trace_text.proofs.record_of.Kinds as record_of_kinds
use Rattle.trace_text.proofs.record_of.Reads as record_of_reads
use Rattle.trace_text.proofs.thing_at.Kinds as thing_at_kinds
use Rattle.trace_text.proofs.thing_at.Reads as thing_at_reads
use Rattle.trace_text.proofs.put_record.Kinds as put_record_kinds
use Rattle.trace_text.proofs.put_record.Reads as put_record_reads

-- The contract of `read` allows the answer r for this line.
abbrev pub ReadLine : TextLine → Said → Type 0
ReadLine line r = (e : AtExit (ended_of 0 read_kinds.ps read_kinds.r) tt) × read_reads.Post tt (line, tt) r e

-- The contract of `record_of` allows the answer r for what lies at this place.
abbrev pub RecordOf : ℕ → What → Recorded → Type 0
RecordOf place what r = (e : AtExit (ended_of 0 record_of_kinds.ps record_of_kinds.r) tt) × record_of_reads.Post tt (place, (what, tt)) r e

-- The contract of `thing_at` allows the answer r for the record at this byte of the lent block.
abbrev pub ThingAt : List ℕ → ℕ → Said → Type 0
ThingAt block at r =
    (κs : Lfts 1) × (trace : Bor (List ℕ)) × (e : AtExit (ended_of 1 thing_at_kinds.ps thing_at_kinds.r) κs)
    × (trace.now ≡ block) × thing_at_reads.Post κs (trace, (at, tt)) r e

-- The contract of `put_record` allows the answer r for this number, place and thing, and that the
-- lent buffer, which held `before`, holds `after` then.
abbrev pub PutRecord : ℕ → ℕ → What → List ℕ → ℕ → ℕ → List ℕ → Type 0
PutRecord number place what before at r after =
    (κs : Lfts 1) × (buf : MutBor (List ℕ)) × (e : AtExit (ended_of 1 put_record_kinds.ps put_record_kinds.r) κs)
    × (buf.now ≡ before) × (e.1.1.1.0.now ≡ after) × put_record_reads.Post κs (number, (place, (what, (buf, (at, tt))))) r e
