-- A session over a viewer (document 02, M-108), as the program `view` holds it: it opens a viewer,
-- goes many records forward or back at once, and opens afresh, in any order. Over the contracts of
-- `viewer::start_at`, `forwards_at` and `backs_at` and of `ride::run`, for any answers that they
-- allow. That it holds: proofs/Session.antt.
-- Assumes nothing.
use Rattle.std.specs.Prelude.{ℕ, zero, suc, ◌*◌, ◌≡◌, List, [], ◌∷◌, length, take, Ok}
use contract.Lifetimes.{Lfts}
use Rattle.std.specs.Borrow.{Bor}
use borrow.Fn.Kinds.{ended_of}
use denote.Triple.Clauses.{AtExit}
use Rattle.settings.specs.declared.Store.{Store}
use Rattle.settings.specs.At.{gap_at}
use Rattle.words.specs.Answer.{refuses}
use Rattle.ride.specs.declared.Ride.{Ride}
use Rattle.ride.specs.declared.Ran.{Ran}
use Rattle.ride.specs.State.{fresh_ride}
use Rattle.ride.proofs.run.Kinds as run_kinds
use Rattle.ride.proofs.run.Reads as run_reads
use Rattle.viewer.specs.declared.Standing.{Standing}
use Rattle.viewer.specs.declared.Opened.{Opened}
use Rattle.viewer.specs.declared.Moved.{Moved}
use Rattle.viewer.specs.Going.{refused}
use Rattle.viewer.specs.Viewing.{forward as forward_of, back as back_of}
use Rattle.viewer.specs.Says.{says_ending}
use Rattle.viewer.specs.History.{Plain, first, go_forth, go_back}
use Rattle.viewer.proofs.start_at.Kinds as start_kinds
use Rattle.viewer.proofs.start_at.Reads as start_reads
use Rattle.viewer.proofs.forwards_at.Kinds as forwards_kinds
use Rattle.viewer.proofs.forwards_at.Reads as forwards_reads
use Rattle.viewer.proofs.backs_at.Kinds as backs_kinds
use Rattle.viewer.proofs.backs_at.Reads as backs_reads

-- ---- what the contracts allow

-- The contract of `start_at` allows the answer r for this store and trace.
abbrev pub StartAt : Store → List ℕ → Opened → Type 0
StartAt store trace r =
    (κs : Lfts 1) × (lent : Bor (List ℕ)) × (e : AtExit (ended_of 1 start_kinds.ps start_kinds.r) κs)
    × (lent.now ≡ trace) × start_reads.Post κs (store, (lent, tt)) r e

-- The contract of `forwards_at` allows the answer r for this trace, from where a viewer stands, for
-- so many times.
abbrev pub ForwardsAt : List ℕ → Standing → ℕ → Moved → Type 0
ForwardsAt trace s times r =
    (κs : Lfts 1) × (lent : Bor (List ℕ)) × (e : AtExit (ended_of 1 forwards_kinds.ps forwards_kinds.r) κs)
    × (lent.now ≡ trace) × forwards_reads.Post κs (lent, (s, (times, tt))) r e

-- The contract of `backs_at` allows the answer r, from where a viewer stands, for so many times.
abbrev pub BacksAt : Standing → ℕ → Moved → Type 0
BacksAt s times r = (e : AtExit (ended_of 0 backs_kinds.ps backs_kinds.r) tt) × backs_reads.Post tt (s, (times, tt)) r e

-- The contract of `run` allows the answer r for this trace after this ride, under this store.
abbrev pub RunOver : Ride → Store → List ℕ → Ran → Type 0
RunOver ride store trace r =
    (κs : Lfts 1) × (lent : Bor (List ℕ)) × (e : AtExit (ended_of 1 run_kinds.ps run_kinds.r) κs)
    × (lent.now ≡ trace) × run_reads.Post κs (ride, (store, (lent, tt))) r e

-- ---- a session

-- What a command of `view` comes to: so many records forward or back, or a fresh viewer under the
-- settings that are held.
pub data Move : Type 0 where
  forward : ℕ → Move
  back : ℕ → Move
  afresh : Move

-- Some moves, one after the other, lead from where a viewer stands to where it stands then.
abbrev pub Lead : List ℕ → List Move → Standing → Standing → Type 0
Lead trace [] s t = s ≡ t
Lead trace (forward n ∷ ms) s t = (r : Moved) × ForwardsAt trace s n r × Lead trace ms r.stand t
Lead trace (back n ∷ ms) s t = (r : Moved) × BacksAt s n r × Lead trace ms r.stand t
Lead trace (afresh ∷ ms) s t = (r : Opened) × StartAt s.settings trace r × Lead trace ms r.stand t

-- The same by the plain definition, whose history is a list (viewer/specs/History.antt): a call so
-- many times, where one that is refused moves nothing.
abbrev pub often : ℕ → (Plain → Plain) → Plain → Plain
often zero f p = p
often (suc n) f p = often n f (f p)

abbrev pub moved : (ℕ → ℕ) → List ℕ → Move → Plain → Plain
moved gaps trace (forward n) p = often n (go_forth gaps trace) p
moved gaps trace (back n) p = often n go_back p
moved gaps trace afresh p = first

abbrev pub session : (ℕ → ℕ) → List ℕ → List Move → Plain → Plain
session gaps trace [] p = p
session gaps trace (m ∷ ms) p = session gaps trace ms (moved gaps trace m p)

-- ---- what is claimed

-- Where a viewer stands after a session under a store.
pub record Views (store : Store) (trace : List ℕ) (p : Plain) (t : Standing) : Type 0 where
  -- its number and its kept count are those of the plain definition ..
  pub number : t.number ≡ p.number
  pub kept : t.kept ≡ length p.history
  -- .. its settings are those that it was opened with ..
  pub settings : t.settings ≡ store
  -- .. and its state is the one that `run` answers of a fresh ride over "the records before its
  -- number"
  pub as_run : (r : Ran) → RunOver fresh_ride store (take (t.number * 8) trace) r → t.ride ≡ r.ride

-- After any session the viewer stands so.
pub record Sessions : Type 0 where
  pub after_any : (store : Store) (trace : List ℕ) (r : Opened) (ms : List Move) (t : Standing) → StartAt store trace r → r.begun ≡ Ok tt → Lead trace ms r.stand t
      → Views store trace (session (gap_at store) trace ms first) t

-- Where many calls stop, the next one is refused with the number that they name, and leaves the
-- viewer there.
pub record Stopping : Type 0 where
  pub forwards : (trace : List ℕ) (s : Standing) (n k : ℕ) (r : Moved) → ForwardsAt trace s n r → says_ending r.ending ≡ refused k
      → ((forward_of trace r.stand).answer ≡ refuses k) × ((forward_of trace r.stand).stand ≡ r.stand)
  pub backs : (s : Standing) (n k : ℕ) (r : Moved) → BacksAt s n r → says_ending r.ending ≡ refused k
      → ((back_of r.stand).answer ≡ refuses k) × ((back_of r.stand).stand ≡ r.stand)
