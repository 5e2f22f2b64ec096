-- Where `/WORD` of the program `view` leads: so many records forward as `viewer_text::seek` says,
-- by `viewer::forwards_at`. Over their contracts, for any answers that they allow. That it holds:
-- proofs/Seeking.antt.
-- Assumes nothing.
use Rattle.std.specs.Prelude.{ℕ, ◌+◌, ◌<◌, ◌≤◌, ◌/◌, ◌≡◌, List, Option, Some, length}
use contract.Lifetimes.{Lfts}
use Rattle.std.specs.Borrow.{Bor}
use borrow.Fn.Kinds.{ended_of}
use denote.Triple.Clauses.{AtExit}
use Rattle.settings.specs.declared.Store.{Store}
use Rattle.ride.specs.declared.Ride.{Ride}
use Rattle.viewer.specs.declared.Standing.{Standing}
use Rattle.viewer.specs.declared.Moved.{Moved}
use Rattle.viewer.specs.Going.{all}
use Rattle.viewer.specs.Says.{says_ending}
use Rattle.viewer_text.proofs.seek.Kinds as seek_kinds
use Rattle.viewer_text.proofs.seek.Reads as seek_reads
use Rattle.viewer_laws.specs.Session.{ForwardsAt}

-- The contract of `seek` allows the answer r for this trace, from where so many records lie before,
-- in this state, under this store, for this word.
abbrev pub Seeks : List ℕ → ℕ → Ride → Store → List ℕ → Option ℕ → Type 0
Seeks trace number ride store word r =
    (κs : Lfts 2) × (lent : Bor (List ℕ)) × (asked : Bor (List ℕ)) × (e : AtExit (ended_of 2 seek_kinds.ps seek_kinds.r) κs)
    × (lent.now ≡ trace) × (asked.now ≡ word) × seek_reads.Post κs (lent, (number, (ride, (store, (asked, tt))))) r e

-- Where a word is found, it is at least one record on, and so many forwards are made: none is
-- refused.
pub record Seeking : Type 0 where
  pub leads : (trace word : List ℕ) (s : Standing) (n : ℕ) (m : Moved) → Seeks trace s.number s.ride s.settings word (Some n) → ForwardsAt trace s n m
      → (0 < n) × (s.number + n ≤ length trace / 8) × (m.steps ≡ n) × (says_ending m.ending ≡ all)
