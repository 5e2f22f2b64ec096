-- What the contracts of `antenna` and `recording` allow: the theorems take these as their
-- hypotheses. `Post` of a function is its `ensures` line, made into a statement by the kit. A lent
-- buffer is a reference whose bytes are `now` of it.
-- Assumes nothing.
use Rattle.std.specs.Prelude.{ℕ, ◌≡◌, List}
use contract.Lifetimes.{Lfts}
use Rattle.std.specs.Borrow.{Bor}
use borrow.Fn.Kinds.{ended_of}
use denote.Triple.Clauses.{AtExit}
use Rattle.settings.specs.declared.Store.{Store}
use Rattle.contact.specs.declared.JudgedUnder.{JudgedUnder}
use Rattle.antenna.specs.declared.Ear.{Ear}
use Rattle.antenna.specs.declared.Until.{Until}
use Rattle.recording.specs.declared.Tape.{Tape}
use Rattle.recording.specs.declared.Taken.{Taken}
use Rattle.recording.specs.declared.Ended.{Ended}
use Rattle.contact.proofs.judge_under.Kinds as under_kinds
use Rattle.contact.proofs.judge_under.Reads as under_reads
use Rattle.antenna.proofs.fresh.Kinds as ear_kinds
use Rattle.antenna.proofs.fresh.Reads as ear_reads
use Rattle.antenna.proofs.hear_piece.Kinds as piece_kinds
use Rattle.antenna.proofs.hear_piece.Reads as piece_reads
use Rattle.recording.proofs.fresh.Kinds as tape_kinds
use Rattle.recording.proofs.fresh.Reads as tape_reads
use Rattle.recording.proofs.go_on.Kinds as go_kinds
use Rattle.recording.proofs.go_on.Reads as go_reads
use Rattle.recording.proofs.end.Kinds as end_kinds
use Rattle.recording.proofs.end.Reads as end_reads

-- The contract of `antenna::fresh` allows the ear r.
abbrev pub FreshEar : Ear → Type 0
FreshEar r = (e : AtExit (ended_of 0 ear_kinds.ps ear_kinds.r) tt) × ear_reads.Post tt tt r e

-- The contract of `hear_piece` allows the answer r for this ear, stretch of the lent buffer and
-- sync pair.
abbrev pub HearPiece : Ear → List ℕ → ℕ → ℕ → ℕ → ℕ → Until → Type 0
HearPiece ear b start len s t r =
    (κs : Lfts 1) × (buf : Bor (List ℕ)) × (e : AtExit (ended_of 1 piece_kinds.ps piece_kinds.r) κs)
    × (buf.now ≡ b) × piece_reads.Post κs (ear, (buf, (start, (len, (s, (t, tt)))))) r e

-- The contract of `judge_under` allows the answer r for this store, odometer and stretch.
abbrev pub JudgeUnder : Store → ℕ → List ℕ → ℕ → ℕ → JudgedUnder → Type 0
JudgeUnder store odometer b start len r =
    (κs : Lfts 1) × (buf : Bor (List ℕ)) × (e : AtExit (ended_of 1 under_kinds.ps under_kinds.r) κs)
    × (buf.now ≡ b) × under_reads.Post κs (store, (odometer, (buf, (start, (len, tt))))) r e

-- The contract of `recording::fresh` allows the tape r.
abbrev pub FreshTape : Tape → Type 0
FreshTape r = (e : AtExit (ended_of 0 tape_kinds.ps tape_kinds.r) tt) × tape_reads.Post tt tt r e

-- The contract of `go_on` allows the answer r for this tape, store and lent frames, from this bit
-- of this frame on.
abbrev pub GoOn : Tape → Store → List ℕ → ℕ → ℕ → Taken → Type 0
GoOn tape store frames frame bit r =
    (κs : Lfts 1) × (buf : Bor (List ℕ)) × (e : AtExit (ended_of 1 go_kinds.ps go_kinds.r) κs)
    × (buf.now ≡ frames) × go_reads.Post κs (tape, (store, (buf, (frame, (bit, tt))))) r e

-- The contract of `end` allows the answer r for this tape.
abbrev pub EndOf : Tape → Ended → Type 0
EndOf tape r = (e : AtExit (ended_of 0 end_kinds.ps end_kinds.r) tt) × end_reads.Post tt (tape, tt) r e
