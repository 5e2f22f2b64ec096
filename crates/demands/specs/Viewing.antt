-- Demand 1 for the viewer of document 02's M-108: "19, then 16 refuse it"; "22 for back exactly if
-- the kept count is 0; 23 for forward exactly at the end; both leave the viewer unchanged."
-- `start`, `forward` and `back` stand here twice: over a viewer, with what the contract allows as
-- viewer/specs/Laws.antt says it, and over a plain slice (`.._at`). Many at once (`forwards_at`,
-- `backs_at`) refuse nothing: they say how many calls were made (`Going` of
-- viewer_laws/specs/Session.antt).
-- Assumes nothing.
use Rattle.std.specs.Prelude.{ℕ, ◌≡◌, List, []}
use contract.Lifetimes.{Lfts}
use Rattle.std.specs.Borrow.{Bor}
use borrow.Fn.Kinds.{ended_of}
use denote.Triple.Clauses.{AtExit}
use Rattle.words.specs.Answer.{refuses}
use Rattle.settings.specs.declared.Store.{Store}
use Rattle.ride.specs.declared.Lines.{Lines}
use Rattle.ride.specs.State.{no_group}
use Rattle.viewer.specs.declared.Standing.{Standing}
use Rattle.viewer.specs.declared.Opened.{Opened}
use Rattle.viewer.specs.declared.Went.{Went}
use Rattle.viewer.specs.declared.Came.{Came}
use Rattle.viewer.specs.declared.Viewer.{Viewer}
use Rattle.viewer.specs.declared.Started.{Started}
use Rattle.viewer.specs.declared.Forwarded.{Forwarded}
use Rattle.viewer.specs.declared.Backed.{Backed}
use Rattle.viewer.specs.Stand.{opened}
use Rattle.viewer.specs.Viewing.{done}
use Rattle.viewer.specs.Says.{says_opening_went, says_call_went}
use Rattle.viewer.specs.Laws.{Starts, Forwards, Backs}
use Rattle.viewer.proofs.start_at.Kinds as start_kinds
use Rattle.viewer.proofs.start_at.Reads as start_reads
use Rattle.viewer.proofs.forward_at.Kinds as forward_kinds
use Rattle.viewer.proofs.forward_at.Reads as forward_reads
use Rattle.viewer.proofs.back_at.Kinds as back_kinds
use Rattle.viewer.proofs.back_at.Reads as back_reads
use Rattle.demands.specs.Rules.{Decided, Is}
use Rattle.demands.specs.Lists.{forward_rules, back_rules}
use Rattle.demands.specs.Stores.{store_rules, trace_rules}

-- ---- what the contracts allow

-- The contract of `start_at` allows the answer r for this store and trace.
abbrev pub StartAt : Store → List ℕ → Opened → Type 0
StartAt store trace r =
    (κs : Lfts 1) × (lent : Bor (List ℕ)) × (e : AtExit (ended_of 1 start_kinds.ps start_kinds.r) κs)
    × (lent.now ≡ trace) × start_reads.Post κs (store, (lent, tt)) r e

-- The contract of `forward_at` allows the answer r for this trace, from where a viewer stands.
abbrev pub ForwardAt : List ℕ → Standing → Went → Type 0
ForwardAt trace s r =
    (κs : Lfts 1) × (lent : Bor (List ℕ)) × (e : AtExit (ended_of 1 forward_kinds.ps forward_kinds.r) κs)
    × (lent.now ≡ trace) × forward_reads.Post κs (lent, (s, tt)) r e

-- The contract of `back_at` allows the answer r, from where a viewer stands.
abbrev pub BackAt : Standing → Came → Type 0
BackAt s r = (e : AtExit (ended_of 0 back_kinds.ps back_kinds.r) tt) × back_reads.Post tt (s, tt) r e

-- ---- demand 1

-- Opening: the settings' own refusals (of a gap, 19), then 16. Back: 22. Forward: 23; a viewer that
-- no call made may hold settings that are refused, and then forward at a record is refused with
-- their number.
pub record ViewersDecided : Type 0 where
  pub start : (store : Store) (trace : Bor (List ℕ)) (r : Started) → Starts store trace r
      → Decided (Is done) (trace_rules store trace.now) (says_opening_went r.begun)
  pub forward : (v : Viewer) (r : Forwarded) → Forwards v r
      → Decided (Is done) (forward_rules v.trace.now v.stand.number (store_rules v.stand.settings [])) (says_call_went r.how)
  pub back : (v : Viewer) (r : Backed) → Backs v r → Decided (Is done) (back_rules v.stand.kept) (says_call_went r.how)
  pub start_at : (store : Store) (trace : List ℕ) (r : Opened) → StartAt store trace r
      → Decided (Is done) (trace_rules store trace) (says_opening_went r.begun)
  pub forward_at : (trace : List ℕ) (s : Standing) (r : Went) → ForwardAt trace s r
      → Decided (Is done) (forward_rules trace s.number (store_rules s.settings [])) (says_call_went r.how)
  pub back_at : (s : Standing) (r : Came) → BackAt s r → Decided (Is done) (back_rules s.kept) (says_call_went r.how)

-- What a refusal leaves: "both leave the viewer unchanged", and a refused forward gives no line and
-- closes no group. A refused opening answers a viewer over an empty slice that stands as any viewer
-- opens (`opened`): number 0, nothing kept, a fresh ride, a history of fresh rides, and the
-- settings that were given. So it hands out neither a ride nor a history; forward is 23 there, and
-- back 22.
pub record ViewersUntouched : Type 0 where
  pub start : (store : Store) (trace : Bor (List ℕ)) (r : Started) (n : ℕ) → Starts store trace r → says_opening_went r.begun ≡ refuses n
      → (r.viewer.trace.now ≡ []) × (r.viewer.stand ≡ opened store)
  pub forward : (v : Viewer) (r : Forwarded) (n : ℕ) → Forwards v r → says_call_went r.how ≡ refuses n
      → (r.viewer ≡ v) × (r.lines ≡ Lines.None) × (r.closed ≡ no_group)
  pub back : (v : Viewer) (r : Backed) (n : ℕ) → Backs v r → says_call_went r.how ≡ refuses n → r.viewer ≡ v
  pub start_at : (store : Store) (trace : List ℕ) (r : Opened) (n : ℕ) → StartAt store trace r → says_opening_went r.begun ≡ refuses n
      → r.stand ≡ opened store
  pub forward_at : (trace : List ℕ) (s : Standing) (r : Went) (n : ℕ) → ForwardAt trace s r → says_call_went r.how ≡ refuses n
      → (r.stand ≡ s) × (r.lines ≡ Lines.None) × (r.closed ≡ no_group)
  pub back_at : (s : Standing) (r : Came) (n : ℕ) → BackAt s r → says_call_went r.how ≡ refuses n → r.stand ≡ s
