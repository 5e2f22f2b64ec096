-- What the contracts of `acceptance` and of `acceptance_text` allow: the theorems take these as
-- their hypotheses. `Post` of a function is its `ensures` line, made into a statement by the kit:
-- of what it was given, its answer r, and e, what is lent to it as it is at the end. That of `plan`
-- stands in demands/specs/Plans.antt.
-- Assumes nothing.
use denote.MutBor.{MutBor}
use Rattle.std.specs.Prelude.{ℕ, ◌≡◌, List, Option}
use contract.Lifetimes.{Lfts}
use Rattle.std.specs.Borrow.{Bor}
use borrow.Fn.Kinds.{ended_of}
use denote.Triple.Clauses.{AtExit}
use Rattle.settings.specs.declared.Store.{Store}
use Rattle.ride.specs.declared.Line.{Line}
use Rattle.acceptance.specs.declared.Acceptance.{Acceptance}
use Rattle.acceptance.specs.declared.Entry.{Entry}
use Rattle.acceptance.specs.declared.Took.{Took}
use Rattle.acceptance.specs.declared.Sums.{Sums}
use Rattle.acceptance_text.specs.declared.Going.{Going}
use Rattle.acceptance_text.specs.declared.Advanced.{Advanced}
use Rattle.acceptance_text.specs.declared.Finished.{Finished}
use Rattle.acceptance_text.proofs.accept.Kinds as accept_kinds
use Rattle.acceptance_text.proofs.accept.Reads as accept_reads
use Rattle.acceptance_text.proofs.finish.Kinds as finish_kinds
use Rattle.acceptance_text.proofs.finish.Reads as finish_reads
use Rattle.acceptance.proofs.take.Kinds as take_kinds
use Rattle.acceptance.proofs.take.Reads as take_reads
use Rattle.acceptance.proofs.report.Kinds as report_kinds
use Rattle.acceptance.proofs.report.Reads as report_reads
use Rattle.acceptance.proofs.sum_up.Kinds as sum_up_kinds
use Rattle.acceptance.proofs.sum_up.Reads as sum_up_reads

-- The contract of `take` allows the answer r for this run and line.
abbrev pub Takes : Acceptance → Line → Took → Type 0
Takes run line r = (e : AtExit (ended_of 0 take_kinds.ps take_kinds.r) tt) × take_reads.Post tt (run, (line, tt)) r e

-- The contract of `report` allows the answer r for this run and index.
abbrev pub Reports : Acceptance → ℕ → Option Entry → Type 0
Reports run i r = (e : AtExit (ended_of 0 report_kinds.ps report_kinds.r) tt) × report_reads.Post tt (run, (i, tt)) r e

-- The contract of `sum_up` allows the answer r for this run.
abbrev pub SumsUp : Acceptance → Sums → Type 0
SumsUp run r = (e : AtExit (ended_of 0 sum_up_kinds.ps sum_up_kinds.r) tt) × sum_up_reads.Post tt (run, tt) r e

-- The contract of `accept` allows the answer r for this block of records, for a run on its way
-- under this store, and that the lent buffer, which held `before`, holds `after` then.
abbrev pub AcceptInto : Going → Store → List ℕ → List ℕ → Advanced → List ℕ → Type 0
AcceptInto going store block before r after =
    (κs : Lfts 2) × (lent : Bor (List ℕ)) × (out : MutBor (List ℕ)) × (e : AtExit (ended_of 2 accept_kinds.ps accept_kinds.r) κs)
    × (lent.now ≡ block) × (out.now ≡ before) × (e.1.1.1.0.now ≡ after)
    × accept_reads.Post κs (going, (store, (lent, (out, tt)))) r e

-- The contract of `finish` allows the answer r at the end of this run's ride, likewise.
abbrev pub FinishInto : Going → List ℕ → Finished → List ℕ → Type 0
FinishInto going before r after =
    (κs : Lfts 1) × (out : MutBor (List ℕ)) × (e : AtExit (ended_of 1 finish_kinds.ps finish_kinds.r) κs)
    × (out.now ≡ before) × (e.1.0.now ≡ after) × finish_reads.Post κs (going, (out, tt)) r e
