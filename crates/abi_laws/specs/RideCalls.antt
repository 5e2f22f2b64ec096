-- What the contracts of the functions for C that ride allow: the number r that a call returns and,
-- for each array that it was lent to be written, what it held before and holds after. (`Post`,
-- `MutBor` and `Lfts`: see crates/demands/specs/ByContract.antt.)
-- Assumes nothing.
use denote.MutBor.{MutBor}
use Rattle.std.specs.Prelude.{ℕ, ◌+◌, ◌*◌, ◌%◌, ◌≡◌, List, [], ◌∷◌, ◌++◌, ℤ, pos, length, take, drop}
use contract.Lifetimes.{Lfts}
use Rattle.std.specs.Borrow.{Bor}
use borrow.Fn.Kinds.{ended_of}
use denote.Triple.Clauses.{AtExit}
use Rattle.abi.proofs.rides.atc2_ride_begin.Kinds as begin_kinds
use Rattle.abi.proofs.rides.atc2_ride_begin.Reads as begin_reads
use Rattle.abi.proofs.rides.atc2_ride_list.Kinds as list_kinds
use Rattle.abi.proofs.rides.atc2_ride_list.Reads as list_reads
use Rattle.abi.proofs.rides.atc2_ride_end.Kinds as end_kinds
use Rattle.abi.proofs.rides.atc2_ride_end.Reads as end_reads
use Rattle.abi.proofs.rides.atc2_ride_known.Kinds as known_kinds
use Rattle.abi.proofs.rides.atc2_ride_known.Reads as known_reads

-- `atc2_ride_begin` may return r, and leave `after` in `ride`, which held `before`.
abbrev pub RideBegin : List ℕ → ℤ → List ℕ → Type 0
RideBegin before r after =
    (κs : Lfts 1) × (ride : MutBor (List ℕ)) × (e : AtExit (ended_of 1 begin_kinds.ps begin_kinds.r) κs)
    × (ride.now ≡ before) × (e.0.now ≡ after) × begin_reads.Post κs (ride, tt) r e

-- `atc2_ride_list` may return r for these bytes of a ride, a store and a trace, this number and
-- style, and leave `moved` in `ride`, `after` in `text`, which held `before`, and `counts` in
-- `out`.
abbrev pub RideList : List ℕ → List ℕ → List ℕ → ℕ → ℕ → List ℕ → List ℕ → ℤ → List ℕ → List ℕ → List ℕ → Type 0
RideList ride store trace number style before out r moved after counts =
    (κs : Lfts 5) × (a : MutBor (List ℕ)) × (b : Bor (List ℕ)) × (c : Bor (List ℕ)) × (d : MutBor (List ℕ)) × (f : MutBor (List ℕ))
    × (e : AtExit (ended_of 5 list_kinds.ps list_kinds.r) κs)
    × (a.now ≡ ride) × (b.now ≡ store) × (c.now ≡ trace) × (d.now ≡ before) × (f.now ≡ out)
    × (e.0.now ≡ moved) × (e.1.1.1.1.1.0.now ≡ after) × (e.1.1.1.1.1.1.0.now ≡ counts)
    × list_reads.Post κs (a, (b, (c, (number, (style, (d, (f, tt))))))) r e

-- `atc2_ride_end` may return r for these bytes of a ride and this style, and leave `after` in
-- `text`, which held `before`.
abbrev pub RideEnd : List ℕ → ℕ → List ℕ → ℤ → List ℕ → Type 0
RideEnd ride style before r after =
    (κs : Lfts 2) × (a : Bor (List ℕ)) × (b : MutBor (List ℕ)) × (e : AtExit (ended_of 2 end_kinds.ps end_kinds.r) κs)
    × (a.now ≡ ride) × (b.now ≡ before) × (e.1.1.0.now ≡ after) × end_reads.Post κs (a, (style, (b, tt))) r e

-- `atc2_ride_known` may return r for these bytes of a ride, and leave `after` in `out`, which held
-- `before`.
abbrev pub RideKnown : List ℕ → List ℕ → ℤ → List ℕ → Type 0
RideKnown ride before r after =
    (κs : Lfts 2) × (a : Bor (List ℕ)) × (b : MutBor (List ℕ)) × (e : AtExit (ended_of 2 known_kinds.ps known_kinds.r) κs)
    × (a.now ≡ ride) × (b.now ≡ before) × (e.1.0.now ≡ after) × known_reads.Post κs (a, (b, tt)) r e

-- `atc2_ride_list` is called over a trace, each time with a block of whole records from the front
-- of what is left, long or short, a text of any room, the bytes of the ride as the call before left
-- them and the number after the last record taken, until nothing is left: the text written, and the
-- bytes of the ride at the end.
pub data InPieces (store : List ℕ) (style : ℕ) : List ℕ → ℕ → List ℕ → List ℕ → List ℕ → Type 0 where
  none : {ride : List ℕ} {number : ℕ} → InPieces store style ride number [] [] ride
  more : {ride moved last : List ℕ} {number : ℕ} {left text : List ℕ} (block rest before out after : List ℕ) (k n : ℕ)
      → left ≡ block ++ rest → length block % 8 ≡ 0 → RideList ride store block number style before out (pos 0) moved after (k ∷ n ∷ [])
      → InPieces store style moved (number + k) (drop (k * 8) left) text last → InPieces store style ride number left (take n after ++ text) last
