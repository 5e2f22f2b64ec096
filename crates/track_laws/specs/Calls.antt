-- What the contracts of `track_text` and `track_lead` allow: the theorems take these as their
-- hypotheses. `Post` of a function is its `ensures` line, made into a statement by the kit. A lent
-- buffer is a reference whose bytes are `now` of it.
-- Assumes nothing.
use denote.MutBor.{MutBor}
use Rattle.std.specs.Prelude.{ℕ, ◌≡◌, List}
use contract.Lifetimes.{Lfts}
use Rattle.std.specs.Borrow.{Bor}
use borrow.Fn.Kinds.{ended_of}
use denote.Triple.Clauses.{AtExit}
use Rattle.lines.specs.declared.TextLine.{TextLine}
use Rattle.track_text.specs.declared.Entry.{Entry}
use Rattle.track_lead.specs.declared.Thing.{Thing}
use Rattle.track_lead.specs.declared.TrackWay.{TrackWay}
use Rattle.track_lead.specs.declared.Taken.{Taken}
use Rattle.track_lead.specs.declared.Feed.{Feed}
use Rattle.track_lead.specs.declared.Wrote.{Wrote}
use Rattle.track_text.proofs.read.Kinds as read_kinds
use Rattle.track_text.proofs.read.Reads as read_reads
use Rattle.track_lead.proofs.fresh.Kinds as fresh_kinds
use Rattle.track_lead.proofs.fresh.Reads as fresh_reads
use Rattle.track_lead.proofs.take.Kinds as take_kinds
use Rattle.track_lead.proofs.take.Reads as take_reads
use Rattle.track_lead.proofs.until.Kinds as until_kinds
use Rattle.track_lead.proofs.until.Reads as until_reads
use Rattle.track_lead.proofs.begin.Kinds as begin_kinds
use Rattle.track_lead.proofs.begin.Reads as begin_reads
use Rattle.track_lead.proofs.passes.Kinds as passes_kinds
use Rattle.track_lead.proofs.passes.Reads as passes_reads
use Rattle.track_lead.proofs.write.Kinds as write_kinds
use Rattle.track_lead.proofs.write.Reads as write_reads

-- The contract of `track_text::read` allows the answer r for this line.
abbrev pub ReadsAs : TextLine → Entry → Type 0
ReadsAs line r = (e : AtExit (ended_of 0 read_kinds.ps read_kinds.r) tt) × read_reads.Post tt (line, tt) r e

-- The contract of `fresh` allows this way, that of `take` the answer r for a line with this place
-- and thing after this way.
abbrev pub FreshWay : TrackWay → Type 0
FreshWay r = (e : AtExit (ended_of 0 fresh_kinds.ps fresh_kinds.r) tt) × fresh_reads.Post tt tt r e

abbrev pub TakeLine : TrackWay → ℕ → Thing → Taken → Type 0
TakeLine way place thing r = (e : AtExit (ended_of 0 take_kinds.ps take_kinds.r) tt) × take_reads.Post tt (way, (place, (thing, tt))) r e

-- The contract of `until` allows this end of a way, that of `begin` this feed at its beginning,
-- that of `passes` the feed r once this thing begins.
abbrev pub Until : TrackWay → ℕ → Type 0
Until way r = (e : AtExit (ended_of 0 until_kinds.ps until_kinds.r) tt) × until_reads.Post tt (way, tt) r e

abbrev pub BeginFeed : TrackWay → ℕ → ℕ → ℕ → Feed → Type 0
BeginFeed way n s t r = (e : AtExit (ended_of 0 begin_kinds.ps begin_kinds.r) tt) × begin_reads.Post tt (way, (n, (s, (t, tt)))) r e

abbrev pub Passes : Feed → Thing → Feed → Type 0
Passes feed thing r = (e : AtExit (ended_of 0 passes_kinds.ps passes_kinds.r) tt) × passes_reads.Post tt (feed, (thing, tt)) r e

-- The contract of `write` allows the answer r for this feed up to this decimetre, and that the lent
-- buffer, which held `before`, holds `after` then.
abbrev pub WriteFrames : Feed → ℕ → List ℕ → Wrote → List ℕ → Type 0
WriteFrames feed to before r after =
    (κs : Lfts 1) × (out : MutBor (List ℕ)) × (e : AtExit (ended_of 1 write_kinds.ps write_kinds.r) κs)
    × (out.now ≡ before) × (e.1.1.0.now ≡ after) × write_reads.Post κs (feed, (to, (out, tt))) r e
