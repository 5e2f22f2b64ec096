-- What the contracts of the public functions allow: the theorems take these as their hypotheses.
-- `Post` of a function is its `ensures` line, made into a statement by the kit: of what it was
-- given, its answer r, and what is lent to it as it is at the end, e. A lent buffer is a reference
-- (`Bor`, or `MutBor` where it is lent to be written) whose bytes are `now` of it, and `Lfts` says
-- how long it is lent.
-- Assumes nothing.
use denote.MutBor.{MutBor}
use Rattle.std.specs.Prelude.{ℕ, ◌≡◌, List, Option, Result, ⊤}
use contract.Lifetimes.{Lfts}
use Rattle.std.specs.Borrow.{Bor}
use borrow.Fn.Kinds.{ended_of}
use denote.Triple.Clauses.{AtExit}
use Rattle.telegram.specs.declared.NotSeven.{NotSeven}
use Rattle.telegram.specs.declared.Beyond.{Beyond}
use Rattle.telegram.specs.declared.BadWord.{BadWord}
use Rattle.telegram.specs.declared.Telegram.{Telegram}
use Rattle.telegram.specs.declared.Found.{Found}
use Rattle.telegram.specs.declared.NotFound.{NotFound}
use Rattle.telegram.specs.declared.Surveyed.{Surveyed}
use Rattle.telegram.specs.declared.NotAlike.{NotAlike}
use Rattle.balise_writer.specs.declared.Written.{Written}
use Rattle.contact.specs.declared.Search.{Search}
use Rattle.contact.specs.declared.HandedOut.{HandedOut}
use Rattle.contact.specs.declared.NextRefused.{NextRefused}
use Rattle.contact.specs.declared.Judged.{Judged}
use Rattle.words.proofs.read_short.Kinds as read_short_kinds
use Rattle.words.proofs.read_short.Reads as read_short_reads
use Rattle.words.proofs.write_short.Kinds as write_short_kinds
use Rattle.words.proofs.write_short.Reads as write_short_reads
use Rattle.words.proofs.read_long.Kinds as read_long_kinds
use Rattle.words.proofs.read_long.Reads as read_long_reads
use Rattle.words.proofs.write_long.Kinds as write_long_kinds
use Rattle.words.proofs.write_long.Reads as write_long_reads
use Rattle.words.specs.declared.NotCode.{NotCode}
use Rattle.words.specs.declared.TooLarge.{TooLarge}
use Rattle.telegram.proofs.good_pair.Kinds as good_pair_kinds
use Rattle.telegram.proofs.good_pair.Reads as good_pair_reads
use Rattle.telegram.proofs.inside.Kinds as inside_kinds
use Rattle.telegram.proofs.inside.Reads as inside_reads
use Rattle.telegram.proofs.read.Kinds as read_kinds
use Rattle.telegram.proofs.read.Reads as read_reads
use Rattle.telegram.proofs.find.Kinds as find_kinds
use Rattle.telegram.proofs.find.Reads as find_reads
use Rattle.telegram.proofs.survey.Kinds as survey_kinds
use Rattle.telegram.proofs.survey.Reads as survey_reads
use Rattle.balise_writer.proofs.write.Kinds as write_kinds
use Rattle.balise_writer.proofs.write.Reads as write_reads
use Rattle.contact.proofs.begin.Kinds as begin_kinds
use Rattle.contact.proofs.begin.Reads as begin_reads
use Rattle.contact.proofs.next_contact.Kinds as next_kinds
use Rattle.contact.proofs.next_contact.Reads as next_reads
use Rattle.contact.proofs.judge.Kinds as judge_kinds
use Rattle.contact.proofs.judge.Reads as judge_reads
pub use Rattle.demands.specs.RideContracts.{FitRow, Distance, Speed, JudgeGroup, Fresh, CheckRecord, StepOf, TreatAt, EndOf, RunOver, PutLine, PutEnd, ListInto}

-- The contract of `read_short` allows the answer r for the word w.
abbrev pub ReadShort : ℕ → Result ℕ NotCode → Type 0
ReadShort w r = (x : AtExit (ended_of 0 read_short_kinds.ps read_short_kinds.r) tt) × read_short_reads.Post tt (w, tt) r x

-- The contract of `write_short` allows the answer r for the figure x.
abbrev pub WriteShort : ℕ → Result ℕ TooLarge → Type 0
WriteShort x r = (e : AtExit (ended_of 0 write_short_kinds.ps write_short_kinds.r) tt) × write_short_reads.Post tt (x, tt) r e

-- The contract of `read_long` allows the answer r for the word w.
abbrev pub ReadLong : ℕ → Result ℕ NotCode → Type 0
ReadLong w r = (x : AtExit (ended_of 0 read_long_kinds.ps read_long_kinds.r) tt) × read_long_reads.Post tt (w, tt) r x

-- The contract of `write_long` allows the answer r for the figure x.
abbrev pub WriteLong : ℕ → Result ℕ TooLarge → Type 0
WriteLong x r = (e : AtExit (ended_of 0 write_long_kinds.ps write_long_kinds.r) tt) × write_long_reads.Post tt (x, tt) r e

-- The contract of `good_pair` allows the answer r for the sync words s and t.
abbrev pub GoodPair : ℕ → ℕ → Result ⊤ NotSeven → Type 0
GoodPair s t r = (e : AtExit (ended_of 0 good_pair_kinds.ps good_pair_kinds.r) tt) × good_pair_reads.Post tt (s, (t, tt)) r e

-- The contract of `inside` allows the answer r for this stretch of the lent buffer, which holds the
-- bytes b.
abbrev pub InsideBuffer : List ℕ → ℕ → ℕ → Result ⊤ Beyond → Type 0
InsideBuffer b start len r =
    (κs : Lfts 1) × (buf : Bor (List ℕ)) × (e : AtExit (ended_of 1 inside_kinds.ps inside_kinds.r) κs)
    × (buf.now ≡ b) × inside_reads.Post κs (buf, (start, (len, tt))) r e

-- The contract of `telegram::read` allows the answer r for the received words x, y and z.
abbrev pub ReadTelegram : ℕ → ℕ → ℕ → Result Telegram BadWord → Type 0
ReadTelegram x y z r = (e : AtExit (ended_of 0 read_kinds.ps read_kinds.r) tt) × read_reads.Post tt (x, (y, (z, tt))) r e

-- The contract of `find` allows the answer r, where the lent buffer holds the bytes b, for this
-- stretch and these sync words.
abbrev pub Find : List ℕ → ℕ → ℕ → ℕ → ℕ → Result Found NotFound → Type 0
Find b start len s t r =
    (κs : Lfts 1) × (buf : Bor (List ℕ)) × (e : AtExit (ended_of 1 find_kinds.ps find_kinds.r) κs)
    × (buf.now ≡ b) × find_reads.Post κs (buf, (start, (len, (s, (t, tt))))) r e

-- The contract of `survey` allows the answer r, likewise.
abbrev pub Survey : List ℕ → ℕ → ℕ → ℕ → ℕ → Result Surveyed NotAlike → Type 0
Survey b start len s t r =
    (κs : Lfts 1) × (buf : Bor (List ℕ)) × (e : AtExit (ended_of 1 survey_kinds.ps survey_kinds.r) κs)
    × (buf.now ≡ b) × survey_reads.Post κs (buf, (start, (len, (s, (t, tt))))) r e

-- What lies in the buffer that was lent to `write`, the last of its seven arguments, when the call
-- has ended.
abbrev pub written : (κs : Lfts 1) → AtExit (ended_of 1 write_kinds.ps write_kinds.r) κs → List ℕ
written κs e = e.1.1.1.1.1.1.0.now

-- The contract of `write` allows the answer r for these figures, sync words and this number, and
-- that the lent buffer, which held `before`, holds `after` then.
abbrev pub Write : ℕ → ℕ → ℕ → ℕ → ℕ → ℕ → List ℕ → Written → List ℕ → Type 0
Write x y z s t n before r after =
    (κs : Lfts 1) × (out : MutBor (List ℕ)) × (e : AtExit (ended_of 1 write_kinds.ps write_kinds.r) κs)
    × (out.now ≡ before) × (written κs e ≡ after) × write_reads.Post κs (x, (y, (z, (s, (t, (n, (out, tt))))))) r e

-- The contract of `begin` allows the answer r for this stretch of the buffer.
abbrev pub Begin : List ℕ → ℕ → ℕ → Result Search Beyond → Type 0
Begin b start len r =
    (κs : Lfts 1) × (buf : Bor (List ℕ)) × (e : AtExit (ended_of 1 begin_kinds.ps begin_kinds.r) κs)
    × (buf.now ≡ b) × begin_reads.Post κs (buf, (start, (len, tt))) r e

-- The contract of `next_contact` allows the answer r for this search over the buffer.
abbrev pub NextContact : List ℕ → Search → Result (Option HandedOut) NextRefused → Type 0
NextContact b search r =
    (κs : Lfts 1) × (buf : Bor (List ℕ)) × (e : AtExit (ended_of 1 next_kinds.ps next_kinds.r) κs)
    × (buf.now ≡ b) × next_reads.Post κs (search, (buf, tt)) r e

-- The contract of `contact::judge` allows the answer r for this stretch of the buffer and these
-- sync words.
abbrev pub JudgeContact : List ℕ → ℕ → ℕ → ℕ → ℕ → Judged → Type 0
JudgeContact b start len s t r =
    (κs : Lfts 1) × (buf : Bor (List ℕ)) × (e : AtExit (ended_of 1 judge_kinds.ps judge_kinds.r) κs)
    × (buf.now ≡ b) × judge_reads.Post κs (buf, (start, (len, (s, (t, tt))))) r e
