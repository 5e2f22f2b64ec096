-- What the contracts of the public functions of `group_rows`, `group`, `ride` and `ride_text`
-- allow, as ByContract.antt says it. In `put_line`, `put_end` and `list` the bytes of the second,
-- third and sixth parameter at the end are taken out of e.
-- Assumes nothing.
use denote.MutBor.{MutBor}
use Rattle.std.specs.Prelude.{ℕ, ◌≡◌, List, Result}
use contract.Lifetimes.{Lfts}
use Rattle.std.specs.Borrow.{Bor}
use borrow.Fn.Kinds.{ended_of}
use denote.Triple.Clauses.{AtExit}
use Rattle.group_rows.specs.declared.Picked.{Picked}
use Rattle.group.specs.declared.Message.{Message}
use Rattle.group_rows.specs.declared.Placed.{Placed}
use Rattle.group_rows.specs.declared.NoRow.{NoRow}
use Rattle.group.specs.declared.Group.{Group}
use Rattle.group.specs.declared.NoDistance.{NoDistance}
use Rattle.group.specs.declared.Told.{Told}
use Rattle.group.specs.declared.GroupRefused.{GroupRefused}
use Rattle.settings.specs.declared.Store.{Store}
use Rattle.ride.specs.declared.Ride.{Ride}
use Rattle.ride.specs.declared.Checked.{Checked}
use Rattle.ride.specs.declared.Wrong.{Wrong}
use Rattle.ride.specs.declared.Stepped.{Stepped}
use Rattle.ride.specs.declared.trace.Treated.{Treated}
use Rattle.ride.specs.declared.Ended.{Ended}
use Rattle.ride.specs.declared.Ran.{Ran}
use Rattle.ride.specs.declared.Line.{Line}
use Rattle.ride_text.specs.Style.{Style}
use Rattle.ride_text.specs.declared.Listed.{Listed}
use Rattle.group.proofs.distance.Kinds as distance_kinds
use Rattle.group.proofs.distance.Reads as distance_reads
use Rattle.group.proofs.speed.Kinds as speed_kinds
use Rattle.group.proofs.speed.Reads as speed_reads
use Rattle.group_rows.proofs.fit.Kinds as fit_kinds
use Rattle.group_rows.proofs.fit.Reads as fit_reads
use Rattle.group.proofs.judge.Kinds as judge_group_kinds
use Rattle.group.proofs.judge.Reads as judge_group_reads
use Rattle.ride.proofs.fresh.Kinds as fresh_kinds
use Rattle.ride.proofs.fresh.Reads as fresh_reads
use Rattle.ride.proofs.check_record.Kinds as check_record_kinds
use Rattle.ride.proofs.check_record.Reads as check_record_reads
use Rattle.ride.proofs.step.Kinds as step_kinds
use Rattle.ride.proofs.step.Reads as step_reads
use Rattle.ride.proofs.treat_at.Kinds as treat_at_kinds
use Rattle.ride.proofs.treat_at.Reads as treat_at_reads
use Rattle.ride.proofs.end.Kinds as end_kinds
use Rattle.ride.proofs.end.Reads as end_reads
use Rattle.ride.proofs.run.Kinds as run_kinds
use Rattle.ride.proofs.run.Reads as run_reads
use Rattle.ride_text.proofs.put_line.Kinds as put_line_kinds
use Rattle.ride_text.proofs.put_line.Reads as put_line_reads
use Rattle.ride_text.proofs.put_end.Kinds as put_end_kinds
use Rattle.ride_text.proofs.put_end.Reads as put_end_reads
use Rattle.ride_text.proofs.list.Kinds as list_kinds
use Rattle.ride_text.proofs.list.Reads as list_reads

-- The contract of `group_rows::fit` allows the answer r for the first n of these five balises.
abbrev pub FitRow : List Placed → ℕ → Result Picked NoRow → Type 0
FitRow p n r = (e : AtExit (ended_of 0 fit_kinds.ps fit_kinds.r) tt) × fit_reads.Post tt (p, (n, tt)) r e

-- The contract of `distance` allows the answer r for column BY and this figure.
abbrev pub Distance : ℕ → ℕ → Result ℕ NoDistance → Type 0
Distance by figure r =
    (e : AtExit (ended_of 0 distance_kinds.ps distance_kinds.r) tt) × distance_reads.Post tt (by, (figure, tt)) r e

-- The contract of `speed` allows the answer r for this figure.
abbrev pub Speed : ℕ → Told → Type 0
Speed figure r = (e : AtExit (ended_of 0 speed_kinds.ps speed_kinds.r) tt) × speed_reads.Post tt (figure, tt) r e

-- The contract of `group::judge` allows the answer r for this group.
abbrev pub JudgeGroup : Group → Result Message GroupRefused → Type 0
JudgeGroup g r = (e : AtExit (ended_of 0 judge_group_kinds.ps judge_group_kinds.r) tt) × judge_group_reads.Post tt (g, tt) r e

-- The contract of `fresh` allows the ride r.
abbrev pub Fresh : Ride → Type 0
Fresh r = (e : AtExit (ended_of 0 fresh_kinds.ps fresh_kinds.r) tt) × fresh_reads.Post tt tt r e

-- The contract of `check_record` allows the answer r for these eight bytes after this ride.
abbrev pub CheckRecord : Ride → List ℕ → Result Checked Wrong → Type 0
CheckRecord ride bytes r =
    (e : AtExit (ended_of 0 check_record_kinds.ps check_record_kinds.r) tt) × check_record_reads.Post tt (ride, (bytes, tt)) r e

-- The contract of `step` allows the answer r for these eight bytes after this ride, with this gap.
abbrev pub StepOf : Ride → ℕ → List ℕ → Stepped → Type 0
StepOf ride gap bytes r =
    (e : AtExit (ended_of 0 step_kinds.ps step_kinds.r) tt) × step_reads.Post tt (ride, (gap, (bytes, tt))) r e

-- The contract of `treat_at` allows the answer r for the record at this index of the trace after
-- this ride, with this gap.
abbrev pub TreatAt : Ride → ℕ → List ℕ → ℕ → Treated → Type 0
TreatAt ride gap trace i r =
    (κs : Lfts 1) × (lent : Bor (List ℕ)) × (e : AtExit (ended_of 1 treat_at_kinds.ps treat_at_kinds.r) κs)
    × (lent.now ≡ trace) × treat_at_reads.Post κs (ride, (gap, (lent, (i, tt)))) r e

-- The contract of `end` allows the answer r for this ride.
abbrev pub EndOf : Ride → Ended → Type 0
EndOf ride r = (e : AtExit (ended_of 0 end_kinds.ps end_kinds.r) tt) × end_reads.Post tt (ride, tt) r e

-- The contract of `run` allows the answer r for this trace after this ride, under this store.
abbrev pub RunOver : Ride → Store → List ℕ → Ran → Type 0
RunOver ride store trace r =
    (κs : Lfts 1) × (lent : Bor (List ℕ)) × (e : AtExit (ended_of 1 run_kinds.ps run_kinds.r) κs)
    × (lent.now ≡ trace) × run_reads.Post κs (ride, (store, (lent, tt))) r e

-- The contract of `put_line` allows the place r for this line at this place, and that the lent
-- buffer, which held `before`, holds `after` then.
abbrev pub PutLine : Line → List ℕ → ℕ → ℕ → List ℕ → Type 0
PutLine line before at r after =
    (κs : Lfts 1) × (lent : MutBor (List ℕ)) × (e : AtExit (ended_of 1 put_line_kinds.ps put_line_kinds.r) κs)
    × (lent.now ≡ before) × (e.1.0.now ≡ after) × put_line_reads.Post κs (line, (lent, (at, tt))) r e

-- The contract of `put_end` in this style allows the place r for the end of this ride at this
-- place, likewise.
abbrev pub PutEnd : Style → Ride → List ℕ → ℕ → ℕ → List ℕ → Type 0
PutEnd style ride before at r after =
    (κs : Lfts 1) × (lent : MutBor (List ℕ)) × (e : AtExit (ended_of 1 put_end_kinds.ps put_end_kinds.r) κs)
    × (lent.now ≡ before) × (e.1.1.0.now ≡ after) × put_end_reads.Post κs (style, (ride, (lent, (at, tt)))) r e

-- The contract of `list` in this style allows the answer r for this trace, and that the lent
-- buffer, which held `before`, holds `after` then.
abbrev pub ListInto : Style → Ride → Store → ℕ → List ℕ → List ℕ → Listed → List ℕ → Type 0
ListInto style ride store number trace before r after =
    (κs : Lfts 2) × (lent : Bor (List ℕ)) × (out : MutBor (List ℕ)) × (e : AtExit (ended_of 2 list_kinds.ps list_kinds.r) κs)
    × (lent.now ≡ trace) × (out.now ≡ before) × (e.1.1.1.1.1.0.now ≡ after)
    × list_reads.Post κs (style, (ride, (store, (number, (lent, (out, tt)))))) r e
