-- What the contracts of the functions that hear a lead for C allow. (See Calls.antt.)
-- Assumes nothing.
use denote.MutBor.{MutBor}
use Rattle.std.specs.Prelude.{ℕ, ◌≡◌, List, ℤ}
use contract.Lifetimes.{Lfts}
use Rattle.std.specs.Borrow.{Bor}
use borrow.Fn.Kinds.{ended_of}
use denote.Triple.Clauses.{AtExit}
use Rattle.abi.proofs.leads.atc2_record_begin.Kinds as begin_kinds
use Rattle.abi.proofs.leads.atc2_record_begin.Reads as begin_reads
use Rattle.abi.proofs.leads.atc2_record.Kinds as record_kinds
use Rattle.abi.proofs.leads.atc2_record.Reads as record_reads
use Rattle.abi.proofs.leads.atc2_record_end.Kinds as end_kinds
use Rattle.abi.proofs.leads.atc2_record_end.Reads as end_reads

-- `atc2_record_begin` may return r, and leave `after` in `ear`, which held `before`.
abbrev pub RecordBegin : List ℕ → ℤ → List ℕ → Type 0
RecordBegin before r after =
    (κs : Lfts 1) × (ear : MutBor (List ℕ)) × (e : AtExit (ended_of 1 begin_kinds.ps begin_kinds.r) κs)
    × (ear.now ≡ before) × (e.0.now ≡ after) × begin_reads.Post κs (ear, tt) r e

-- `atc2_record` may return r for this store and lead, and leave these in the ear, the room for
-- records and `out`, which held those.
abbrev pub Record : List ℕ → List ℕ → List ℕ → List ℕ → List ℕ → ℤ → List ℕ → List ℕ → List ℕ → Type 0
Record ear store lead room out r then records told =
    (κs : Lfts 5) × (the-ear : MutBor (List ℕ)) × (the-store : Bor (List ℕ)) × (the-lead : Bor (List ℕ)) × (the-room : MutBor (List ℕ)) × (the_out : MutBor (List ℕ))
    × (e : AtExit (ended_of 5 record_kinds.ps record_kinds.r) κs)
    × (the-ear.now ≡ ear) × (the-store.now ≡ store) × (the-lead.now ≡ lead) × (the-room.now ≡ room) × (the_out.now ≡ out)
    × (e.0.now ≡ then) × (e.1.1.1.0.now ≡ records) × (e.1.1.1.1.0.now ≡ told)
    × record_reads.Post κs (the-ear, (the-store, (the-lead, (the-room, (the_out, tt))))) r e

-- `atc2_record_end` may return r, and leave these in the ear, the room for records and `out`, which
-- held those.
abbrev pub RecordEnd : List ℕ → List ℕ → List ℕ → ℤ → List ℕ → List ℕ → List ℕ → Type 0
RecordEnd ear room out r then records told =
    (κs : Lfts 3) × (the-ear : MutBor (List ℕ)) × (the-room : MutBor (List ℕ)) × (the_out : MutBor (List ℕ))
    × (e : AtExit (ended_of 3 end_kinds.ps end_kinds.r) κs)
    × (the-ear.now ≡ ear) × (the-room.now ≡ room) × (the_out.now ≡ out)
    × (e.0.now ≡ then) × (e.1.0.now ≡ records) × (e.1.1.0.now ≡ told)
    × end_reads.Post κs (the-ear, (the-room, (the_out, tt))) r e
