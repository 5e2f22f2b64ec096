-- What is promised of a viewer (document 02, M-108), over the contracts of `start`, `forward` and
-- `back`: "After any sequence of calls its state is the one that a fresh ride over the records
-- before its number has." That it holds: proofs/Laws.antt.
-- Assumes nothing.
use Rattle.std.specs.Prelude.{ℕ, ◌+◌, ◌/◌, ◌<◌, ◌≤◌, ◌≡◌, List, [], ◌∷◌, length, take, drop, Ok}
use Rattle.std.specs.Borrow.{Bor}
use Rattle.settings.specs.declared.Store.{Store}
use Rattle.words.specs.Answer.{gives, refuses}
use Rattle.settings.specs.Versions.{kept}
use Rattle.settings.specs.Store.{judged}
use Rattle.settings.specs.At.{gap_at}
use Rattle.ride.specs.Over.{records, Ridden, ride_over}
use Rattle.viewer.specs.declared.Standing.{Standing}
use Rattle.viewer.specs.declared.Viewer.{Viewer}
use Rattle.viewer.specs.declared.Started.{Started}
use Rattle.viewer.specs.declared.Forwarded.{Forwarded}
use Rattle.viewer.specs.declared.Backed.{Backed}
use Rattle.viewer.specs.Viewing.{done, start, forward, back as goes_back}
use Rattle.viewer.specs.Says.{holding, over, says_call_went, says_started, says_forwarded, says_backed}
use Rattle.viewer.specs.Going.{forwards, lines_passed}
use Rattle.viewer.specs.History.{Plain, first, Call, forth, back, plainly, straight}

-- What the contracts allow: `start` answers r, `forward` and `back` of a viewer answer r. The kit
-- states the contract of a function that takes or hands out a struct with a slice as a formula over
-- what is lent, and a crate's own specs/ cannot name it: so the clauses stand here again, and
-- proofs/Tied.antt shows that the contracts ensure them.
abbrev pub Starts : Store → Bor (List ℕ) → Started → Type 0
Starts store trace r = says_started r ≡ holding trace (start store trace.now)

abbrev pub Forwards : Viewer → Forwarded → Type 0
Forwards v r = says_forwarded r ≡ over v.trace (forward v.trace.now v.stand)

abbrev pub Backs : Viewer → Backed → Type 0
Backs v r = says_backed r ≡ over v.trace (goes_back v.stand)

-- Some calls, one after the other, lead from one viewer to another, refused ones too.
abbrev pub Lead : List Call → Viewer → Viewer → Type 0
Lead [] v w = v ≡ w
Lead (forth ∷ cs) v w = (r : Forwarded) × Forwards v r × Lead cs r.viewer w
Lead (back ∷ cs) v w = (r : Backed) × Backs v r × Lead cs r.viewer w

-- A viewer shows what the plain definition says: its number, its kept count and its state.
pub record Shows (w : Viewer) (p : Plain) : Type 0 where
  pub number : w.stand.number ≡ p.number
  pub kept : w.stand.kept ≡ length p.history
  pub ride : w.stand.ride ≡ p.ride

-- The promise for a viewer that was opened with a rule of the gap.
pub record Views (gaps : ℕ → ℕ) (trace : List ℕ) (cs : List Call) (w : Viewer) : Type 0 where
  -- it shows what the plain definition says ..
  pub shows : Shows w (plainly gaps trace cs first)
  -- .. and its state is the one "that a fresh ride over the records before its number has"
  pub as_straight : w.stand.ride ≡ straight gaps trace w.stand.number

pub record Viewing : Type 0 where
  -- after any calls, under one fixed store (M-111): each record with the gap in force at its own
  -- odometer
  pub after_any : (store : Store) (trace : Bor (List ℕ)) (r : Started) (cs : List Call) (w : Viewer)
      → Starts store trace r → r.begun ≡ Ok tt → Lead cs r.viewer w → Views (gap_at store) trace.now cs w

-- When a call is refused, and what that leaves: "22 for back exactly if the kept count is 0; 23 for
-- forward exactly at the end; both leave the viewer unchanged." The conditions stand here a second
-- time. A viewer whose settings are good is refused nothing else.
pub record Refusing : Type 0 where
  pub back_refused : (v : Viewer) (r : Backed) → Backs v r → v.stand.kept ≡ 0 → (says_call_went r.how ≡ refuses 22) × (r.viewer ≡ v)
  pub back_done : (v : Viewer) (r : Backed) → Backs v r → 0 < v.stand.kept → says_call_went r.how ≡ gives done
  pub forward_refused : (v : Viewer) (r : Forwarded) → Forwards v r → length v.trace.now / 8 ≤ v.stand.number
      → (says_call_went r.how ≡ refuses 23) × (r.viewer ≡ v)
  pub forward_done : (v : Viewer) (r : Forwarded) → Forwards v r → v.stand.number < length v.trace.now / 8 → judged v.stand.settings ≡ gives kept
      → says_call_went r.how ≡ gives done

-- The records that many forwards pass, as `f 20` of the program `view` asks: they give the lines of
-- a ride over them from the state before them, and the viewer has that ride's state.
pub record ManyAtOnce : Type 0 where
  pub lines : (n : ℕ) (trace : List ℕ) (s : Standing) → judged s.settings ≡ gives kept → s.number + n ≤ length trace / 8
      → ◌≡◌ {A = Ridden} (record { lines = lines_passed n trace s; ride = (forwards n trace s).stand.ride })
      (ride_over (gap_at s.settings) s.ride (s.number + 1) (take n (drop s.number (records trace))))
