-- What a compaction that was not refused has made, for any rule of the gap.
-- Assumes nothing.
use Prim.Native.Nat.{ℕ, suc, ◌%◌, ◌≤◌}
use native.Mathlib.Omega.{arith}
use mathlib.Core.Path.{◌≡◌, refl, sym, ap, ap₂, subst, ◌∙◌}
use mathlib.Core.Bool.{Bool, true, false}
use mathlib.Core.List.{List, [], ◌∷◌, ◌++◌}
use lib.Dec.{eqb}
use lib.ListN.{length, take, drop}
use lib.Seq.{take_at}
use borrow.Author.Tests.{eqb-true}
use Rattle.words.specs.Answer.{Outcome, gives, refuses, pick}
use Rattle.settings.specs.declared.Store.{Store}
use Rattle.settings.specs.Versions.{Kept, kept}
use Rattle.settings.specs.Store.{judged}
use Rattle.settings.specs.At.{gap_at}
use Rattle.settings.proofs.Holding.{holding_at}
use Rattle.settings.proofs.Following.{same}
use Rattle.ride.specs.declared.Ride.{Ride}
use Rattle.ride.specs.declared.Stepped.{Stepped}
use Rattle.ride.specs.declared.Line.{Line}
use Rattle.ride.specs.Record.{odometer_of}
use Rattle.ride.specs.Joining.{allowed}
use Rattle.ride.specs.Step.{Step, treat}
use Rattle.ride.specs.Over.{records, lines_for, ride_over}
use Rattle.ride.specs.Says.{says_stepped}
use Rattle.ride.proofs.Steps.{step_allowed}
use Rattle.compaction.specs.Dropped.{compact_over}
use Rattle.compaction.specs.Compact.{bytes_of, onto, Compaction, untouched, smaller_trace, judged_first, compact}
use Rattle.compaction.proofs.Walk.{beyond}
use Rattle.compaction.proofs.Trace.{new_records}
use Rattle.compaction.proofs.Smaller.{smaller}
use Rattle.demands.specs.Sections.{ByStep, lines_from, after_steps}
use Rattle.compaction_laws.specs.Trace.{SameLines}
use Rattle.words.proofs.Never.{cannot_be}

-- ---- which conditions held

never : {A : Type 0} {n m : ℕ} → ◌≡◌ {A = Outcome ℕ} (refuses m) (gives n) → A
never e = cannot_be cc

-- A compaction with this rule was made of this trace of whole records.
pub record Was (gaps : ℕ → ℕ) (ride : Ride) (trace : List ℕ) (made : Compaction) : Type 0 where
  pub good : (o : ℕ) → allowed (gaps o) ≡ true
  pub whole : length trace % 8 ≡ 0
  pub is : made ≡ smaller_trace gaps ride trace

gap_good : (store : Store) → judged store ≡ gives kept → (o : ℕ) → allowed (gap_at store o) ≡ true
unfolding gap_at
gap_good store h o = (holding_at store o h).gap

pub was_made : (ride : Ride) (store : Store) (trace : List ℕ) (n : ℕ) → (compact ride store trace).answer ≡ gives n
    → Was (gap_at store) ride trace (compact ride store trace) × (judged store ≡ gives kept)
unfolding compact
was_made ride store trace n e = go (judged store) (eqb (length trace % 8) 0) refl refl e
  where
    go : (o : Outcome Kept) (w : Bool) → judged store ≡ o → eqb (length trace % 8) 0 ≡ w
        → (judged_first ride trace o (pick w (smaller_trace (gap_at store) ride trace) (untouched ride trace 16))).answer ≡ gives n
        → Was (gap_at store) ride trace (judged_first ride trace o (pick w (smaller_trace (gap_at store) ride trace) (untouched ride trace 16))) × (judged store ≡ gives kept)
    go (gives k) true o w h =
        let j : judged store ≡ gives kept = o ∙ ap gives (same k) in
        (record { good = gap_good store j; whole = eqb-true (length trace % 8) 0 w; is = refl }, j)
    go (gives k) false o w h = never h
    go (refuses m) w o w' h = never h

-- ---- what was made

pub record Made (gaps : ℕ → ℕ) (ride : Ride) (trace : List ℕ) (n : ℕ) (end : Ride) (after : List ℕ) : Type 0 where
  pub long : n ≡ length (bytes_of (compact_over gaps ride (records trace)))
  pub small : take n after ≡ bytes_of (compact_over gaps ride (records trace))
  pub records_are : records (take n after) ≡ compact_over gaps ride (records trace)
  pub state : end ≡ (ride_over gaps ride 1 (records trace)).ride
  pub rest : drop n after ≡ drop n trace

pub made_so : (gaps : ℕ → ℕ) (ride : Ride) (trace : List ℕ) (n : ℕ) (end : Ride) (after : List ℕ)
    → record { answer = gives n; ride = end; buffer = after } ≡ smaller_trace gaps ride trace → Made gaps ride trace n end after
unfolding smaller_trace
made_so gaps ride trace n end after e =
    let bytes : List ℕ = bytes_of (compact_over gaps ride (records trace)) in
    let answers : gives n ≡ gives (length bytes) = ap (λ (c : Compaction). c.answer) e in
    let long : n ≡ length bytes = cc in
    let buffer : after ≡ onto bytes trace = ap (λ (c : Compaction). c.buffer) e in
    let small : take n after ≡ bytes = ap (take n) buffer ∙ take_at bytes (drop (length bytes) trace) n (sym long) in
    let low : length bytes ≤ n = omega arith in
    record {
      long = long;
      small = small;
      records_are = ap records small ∙ new_records gaps ride trace;
      state = ap (λ (c : Compaction). c.ride) e;
      rest = ap (drop n) buffer ∙ beyond bytes trace n low;
    }

-- ---- by `step`

-- answers of `step` are the ride
pub stepped : (gaps : ℕ → ℕ) → ((o : ℕ) → allowed (gaps o) ≡ true) → (ride : Ride) (k : ℕ) (rs : List (List ℕ)) (ss : List Stepped) → ByStep gaps ride rs ss
    → (lines_from k ss ≡ (ride_over gaps ride k rs).lines) × (after_steps ride ss ≡ (ride_over gaps ride k rs).ride)
unfolding ride_over
stepped gaps good ride k [] [] p = (refl, refl)
stepped gaps good ride k [] (s ∷ ss) p = absurd p
stepped gaps good ride k (r ∷ rs) [] p = absurd p
stepped gaps good ride k (r ∷ rs) (s ∷ ss) p =
    let gap : ℕ = gaps (odometer_of r) in
    let is : says_stepped s ≡ treat ride gap r = p.0.1 ∙ step_allowed ride gap r (good (odometer_of r)) in
    let on = stepped gaps good s.ride (suc k) rs ss p.1 in
    let ride_is : s.ride ≡ (treat ride gap r).ride = ap (λ (x : Step). x.ride) is in (
      ap₂ (λ (x : Step) (ls : List Line). lines_for k x.lines ++ ls) is (on.0 ∙ ap (λ (x : Ride). (ride_over gaps x (suc k) rs).lines) ride_is),
      on.1 ∙ ap (λ (x : Ride). (ride_over gaps x (suc k) rs).ride) ride_is,
    )

pub same_lines : (gaps : ℕ → ℕ) → ((o : ℕ) → allowed (gaps o) ≡ true) → (ride : Ride) (trace : List ℕ) (n : ℕ) (end : Ride) (after : List ℕ) → Made gaps ride trace n end after
    → (k m : ℕ) (all small : List Stepped) → ByStep gaps ride (records trace) all → ByStep gaps ride (records (take n after)) small
    → SameLines ride k m small all × (end ≡ after_steps ride all)
same_lines gaps good ride trace n end after made k m all small p q =
    let rs = records trace in
    let a = stepped gaps good ride m rs all p in
    let first = stepped gaps good ride 1 rs all p in
    let b = stepped gaps good ride k (compact_over gaps ride rs) small (subst (λ (x : List (List ℕ)). ByStep gaps ride x small) made.records_are q) in
    let lines-small = b.0 in
    let lines-all = a.0 in (
      record {
        lines = rw (lines-small, lines-all) (smaller.lines gaps ride k m rs);
        group_and_missed = rw (lines-small, lines-all) (smaller.group_and_missed gaps ride k m rs);
        refused_lines = rw (lines-small, lines-all) (smaller.refused_lines gaps ride k m rs);
        end_state = b.1 ∙ smaller.end_state gaps ride k m rs ∙ sym a.1;
      },
      made.state ∙ sym first.1,
    )
