-- Demand 1 for the functions of document 02's M-111 that make a store of settings or take one: each
-- refuses with the first number of its list whose condition holds, and a refusal leaves what it was
-- given as it was. (`allowed`, `leaves`, `ride::held_at` and `ride::odometer_at` give no number:
-- they always answer.)
-- Assumes nothing.
use Rattle.std.specs.Prelude.{ℕ, Result, ◌≡◌, true, List, [], ◌∷◌, ◌++◌, take}
use contract.Lifetimes.{Lfts}
use Rattle.std.specs.Borrow.{Bor}
use borrow.Fn.Kinds.{ended_of}
use denote.Triple.Clauses.{AtExit}
use Rattle.words.specs.Answer.{Outcome, gives, refuses}
use Rattle.settings.specs.declared.Version.{Version}
use Rattle.settings.specs.declared.Store.{Store}
use Rattle.settings.specs.declared.Begun.{Begun}
use Rattle.settings.specs.declared.Added.{Added}
use Rattle.settings.specs.declared.Bad.{Bad}
use Rattle.settings.specs.declared.Held.{Held}
use Rattle.settings.specs.Versions.{kept}
use Rattle.settings.specs.Store.{no_store_meant, judged, last_place}
use Rattle.settings.specs.At.{held_at}
use Rattle.settings.specs.Says.{says_verdict, says_asked}
use Rattle.contact.specs.Says.{says_judged_under}
use Rattle.contact.specs.declared.JudgedUnder.{JudgedUnder}
use Rattle.settings.proofs.begin.Kinds as begin_kinds
use Rattle.settings.proofs.begin.Reads as begin_reads
use Rattle.settings.proofs.add.Kinds as add_kinds
use Rattle.settings.proofs.add.Reads as add_reads
use Rattle.settings.proofs.at.Kinds as at_kinds
use Rattle.settings.proofs.at.Reads as at_reads
use Rattle.contact.proofs.judge_under.Kinds as judge_kinds
use Rattle.contact.proofs.judge_under.Reads as judge_reads
use Rattle.demands.specs.Table.{not_seven, bad_length, bad_gap}
use Rattle.demands.specs.Table02.{too_high, not_above, starts_late, full, overfull}
use Rattle.demands.specs.Rules.{Rule, row, Decided, Is}
use Rattle.demands.specs.Lists.{judge_rules, JudgeReads}

-- ---- what the contracts allow

-- The contract of `settings::begin` allows the answer r for these settings.
abbrev pub BeginStore : ℕ → ℕ → ℕ → Begun → Type 0
BeginStore gap s t r = (e : AtExit (ended_of 0 begin_kinds.ps begin_kinds.r) tt) × begin_reads.Post tt (gap, (s, (t, tt))) r e

-- The contract of `add` allows the answer r for this store and this version.
abbrev pub AddVersion : Store → Version → Added → Type 0
AddVersion store v r = (e : AtExit (ended_of 0 add_kinds.ps add_kinds.r) tt) × add_reads.Post tt (store, (v.place, (v.gap, (v.s, (v.t, tt))))) r e

-- The contract of `at` allows the answer r for this place of this store.
abbrev pub AskAt : Store → ℕ → Result Held Bad → Type 0
AskAt store place r = (e : AtExit (ended_of 0 at_kinds.ps at_kinds.r) tt) × at_reads.Post tt (store, (place, tt)) r e

-- The contract of `judge_under` allows the answer r for this stretch of the buffer at this
-- odometer.
abbrev pub JudgeUnder : Store → ℕ → List ℕ → ℕ → ℕ → JudgedUnder → Type 0
JudgeUnder store odometer b start len r =
    (κs : Lfts 1) × (buf : Bor (List ℕ)) × (e : AtExit (ended_of 1 judge_kinds.ps judge_kinds.r) κs)
    × (buf.now ≡ b) × judge_reads.Post κs (store, (odometer, (buf, (start, (len, tt))))) r e

-- A store that is judged good, as every one that `begin` and `add` made is.
abbrev pub Good : Store → Type 0
Good store = judged store ≡ gives kept

-- ---- the lists

-- "4 and 19 for the settings"
abbrev pub settings_rules : {A : Type 0} → Version → List (Rule (Outcome A)) → List (Rule (Outcome A))
settings_rules v rules = row 4 (not_seven v.s v.t) ∷ row 19 (bad_gap v.gap) ∷ rules

-- "then 18 for a place above 4,000,000,000", "then 24 for an added place not above the last"
abbrev pub version_rules : {A : Type 0} → ℕ → Version → List (Rule (Outcome A)) → List (Rule (Outcome A))
version_rules last v rules = settings_rules v (row 18 (too_high v.place) ∷ row 24 (not_above last v.place) ∷ rules)

-- The versions after one at the place `last`, one by one.
abbrev pub later_rules : {A : Type 0} → ℕ → List Version → List (Rule (Outcome A)) → List (Rule (Outcome A))
later_rules last [] rules = rules
later_rules last (v ∷ vs) rules = version_rules last v (later_rules v.place vs rules)

-- The versions of a lent store: 19 where there is none, 24 for the first place, then each in its
-- turn.
abbrev pub order_rules : {A : Type 0} → List Version → List (Rule (Outcome A)) → List (Rule (Outcome A))
order_rules [] rules = row 19 true ∷ []
order_rules (v ∷ vs) rules = row 24 (starts_late v.place) ∷ settings_rules v (later_rules 0 vs rules)

-- A lent store, judged first: 25 for a count above 32, then its versions in turn; then the
-- function's own rules.
abbrev pub store_rules : {A : Type 0} → Store → List (Rule (Outcome A)) → List (Rule (Outcome A))
store_rules store rules = row 25 (overfull store.count) ∷ order_rules (take store.count store.versions) rules

-- Who rides a trace under a store: the store's own refusals, then 16.
abbrev pub trace_rules : {A : Type 0} → Store → List ℕ → List (Rule (Outcome A))
trace_rules store trace = store_rules store (row 16 (bad_length trace) ∷ [])

-- ---- demand 1

pub record StoresDecided : Type 0 where
  pub begin : (gap s t : ℕ) (r : Begun) → BeginStore gap s t r
      → Decided (Is kept) (settings_rules (record { place = 0; gap = gap; s = s; t = t }) []) (says_verdict r.verdict)
  pub add : (store : Store) (v : Version) (r : Added) → AddVersion store v r
      → Decided (Is kept) (store_rules store (version_rules (last_place store) v (row 25 (full store.count) ∷ []))) (says_verdict r.verdict)
  pub at : (store : Store) (place : ℕ) (r : Result Held Bad) → AskAt store place r
      → Decided (Is (held_at store place)) (store_rules store (row 18 (too_high place) ∷ [])) (says_asked r)
  -- the pair in force is good, so after the store's own refusals and 18 come 5, 7 and 8
  pub judge_under_law : (store : Store) (odometer : ℕ) (b : List ℕ) (start len : ℕ) (r : JudgedUnder) → JudgeUnder store odometer b start len r
      → Decided (JudgeReads b start len (held_at store odometer).s (held_at store odometer).t)
      (store_rules store (row 18 (too_high odometer) ∷ judge_rules b start len (held_at store odometer).s (held_at store odometer).t))
      (says_judged_under r)

-- "the store is unchanged"; where none is opened there is none: `no_store_meant`, whose count is 0,
-- whatever was asked.
pub record StoresUntouched : Type 0 where
  pub begin : (gap s t : ℕ) (r : Begun) (n : ℕ) → BeginStore gap s t r → says_verdict r.verdict ≡ refuses n → r.store ≡ no_store_meant
  pub add : (store : Store) (v : Version) (r : Added) (n : ℕ) → AddVersion store v r → says_verdict r.verdict ≡ refuses n → r.store ≡ store
