-- What the contracts of `lead_text` and `ride_text` allow: the theorems take these as their
-- hypotheses. `Post` of a function is its `ensures` line, made into a statement by the kit. A lent
-- buffer is a reference whose bytes are `now` of it.
-- Assumes nothing.
use denote.MutBor.{MutBor}
use Rattle.std.specs.Prelude.{ℕ, ◌≡◌, List}
use contract.Lifetimes.{Lfts}
use Rattle.std.specs.Borrow.{Bor}
use borrow.Fn.Kinds.{ended_of}
use denote.Triple.Clauses.{AtExit}
use Rattle.settings.specs.declared.Store.{Store}
use Rattle.ride.specs.declared.Ride.{Ride}
use Rattle.ride_text.specs.Style.{with_reasons}
use Rattle.lead_text.specs.declared.Underway.{Underway}
use Rattle.lead_text.specs.declared.Written.{Written}
use Rattle.lead_text.proofs.fresh.Kinds as fresh_kinds
use Rattle.lead_text.proofs.fresh.Reads as fresh_reads
use Rattle.lead_text.proofs.list_frames.Kinds as frames_kinds
use Rattle.lead_text.proofs.list_frames.Reads as frames_reads
use Rattle.lead_text.proofs.list_end.Kinds as end_kinds
use Rattle.lead_text.proofs.list_end.Reads as end_reads
use Rattle.ride_text.proofs.put_end.Kinds as put_kinds
use Rattle.ride_text.proofs.put_end.Reads as put_reads

-- The contract of `lead_text::fresh` allows the ride r.
abbrev pub Fresh : Underway → Type 0
Fresh r = (e : AtExit (ended_of 0 fresh_kinds.ps fresh_kinds.r) tt) × fresh_reads.Post tt tt r e

-- The contract of `list_frames` allows the answer r for this ride, store and lent frames, and that
-- the lent buffer, which held `before`, holds `after` then.
abbrev pub ListFrames : Underway → Store → List ℕ → List ℕ → Written → List ℕ → Type 0
ListFrames u store frames before r after =
    (κs : Lfts 2) × (lent : Bor (List ℕ)) × (out : MutBor (List ℕ)) × (e : AtExit (ended_of 2 frames_kinds.ps frames_kinds.r) κs)
    × (lent.now ≡ frames) × (out.now ≡ before) × (e.1.1.1.0.now ≡ after)
    × frames_reads.Post κs (u, (store, (lent, (out, tt)))) r e

-- The contract of `list_end`, likewise.
abbrev pub ListEnd : Underway → Store → List ℕ → Written → List ℕ → Type 0
ListEnd u store before r after =
    (κs : Lfts 1) × (out : MutBor (List ℕ)) × (e : AtExit (ended_of 1 end_kinds.ps end_kinds.r) κs)
    × (out.now ≡ before) × (e.1.1.0.now ≡ after)
    × end_reads.Post κs (u, (store, (out, tt))) r e

-- The contract of `put_end` of `ride_text`, with reasons, allows the place n for this ride and this
-- place of the lent buffer, and that it holds `after` then.
abbrev pub PutEnd : Ride → List ℕ → ℕ → ℕ → List ℕ → Type 0
PutEnd ride before at n after =
    (κs : Lfts 1) × (buf : MutBor (List ℕ)) × (e : AtExit (ended_of 1 put_kinds.ps put_kinds.r) κs)
    × (buf.now ≡ before) × (e.1.1.0.now ≡ after)
    × put_reads.Post κs (with_reasons, (ride, (buf, (at, tt)))) n e
