-- What `compact` answers: a length that is not above the trace's, or, under the store of a plain
-- gap, 19 or 16.
-- Assumes nothing.
use Prim.Native.Nat.{ℕ, ◌%◌, ◌≤◌}
use native.Mathlib.Omega.{arith}
use mathlib.Core.Path.{◌≡◌, refl, ap, ◌∙◌}
use mathlib.Core.Bool.{Bool, true, false}
use mathlib.Core.List.{List}
use lib.Dec.{eqb}
use lib.ListN.{length}
use Rattle.words.specs.Answer.{Outcome, gives, refuses, pick}
use Rattle.settings.specs.declared.Bad.{Bad}
use Rattle.settings.specs.declared.Store.{Store}
use Rattle.settings.specs.Versions.{allowed, Kept, kept}
use Rattle.settings.specs.Store.{plain, judged}
use Rattle.settings.specs.At.{gap_at}
use Rattle.settings.specs.Says.{says_bad}
use Rattle.settings.proofs.Plain.{plain_good, plain_bad}
use Rattle.ride.specs.declared.Ride.{Ride}
use Rattle.ride.specs.Over.{records}
use Rattle.compaction.specs.Dropped.{compact_over}
use Rattle.compaction.specs.Compact.{bytes_of, untouched, smaller_trace, judged_first, compact}
use Rattle.compaction.proofs.Trace.{not_longer}
use Rattle.words.proofs.Never.{cannot_be}

few_by : (o : Outcome Kept) (w : Bool) (ride : Ride) (store : Store) (trace : List ℕ) (n : ℕ)
    → gives n ≡ (judged_first ride trace o (pick w (smaller_trace (gap_at store) ride trace) (untouched ride trace 16))).answer → n ≤ length trace
unfolding smaller_trace
few_by (gives k) true ride store trace n e =
    let is : n ≡ length (bytes_of (compact_over (gap_at store) ride (records trace))) = cc in
    omega (arith, not_longer (gap_at store) ride trace)
few_by (gives k) false ride store trace n e = cannot_be cc
few_by (refuses m) w ride store trace n e = cannot_be cc

pub few_bytes : (ride : Ride) (store : Store) (trace : List ℕ) (n : ℕ) → gives n ≡ (compact ride store trace).answer → n ≤ length trace
unfolding compact
few_bytes ride store trace n e = few_by (judged store) (eqb (length trace % 8) 0) ride store trace n e

never_16 : (bad : Bad) → says_bad bad ≡ 16 → says_bad bad ≡ 19
never_16 Bad.Pair e = absurd (omega arith)
never_16 Bad.Gap e = refl
never_16 Bad.TooHigh e = absurd (omega arith)
never_16 Bad.NotAbove e = absurd (omega arith)
never_16 Bad.Full e = absurd (omega arith)

refused_by : (k w : Bool) (ride : Ride) (store : Store) (trace : List ℕ) (bad : Bad)
    → refuses (says_bad bad) ≡ (judged_first ride trace (pick k (gives kept) (refuses 19)) (pick w (smaller_trace (gap_at store) ride trace) (untouched ride trace 16))).answer
    → says_bad bad ≡ 19
unfolding smaller_trace
refused_by true true ride store trace bad e = cannot_be cc
refused_by true false ride store trace bad e = never_16 bad (cc)
refused_by false w ride store trace bad e = cc

judged_plain : (k : Bool) (gap : ℕ) → allowed gap ≡ k → judged (plain gap) ≡ pick k (gives kept) (refuses 19)
judged_plain true gap e = plain_good gap e
judged_plain false gap e = plain_bad gap e

pub only_19 : (ride : Ride) (gap : ℕ) (trace : List ℕ) (bad : Bad) → refuses (says_bad bad) ≡ (compact ride (plain gap) trace).answer → says_bad bad ≡ 19
unfolding compact
only_19 ride gap trace bad e =
    refused_by (allowed gap) (eqb (length trace % 8) 0) ride (plain gap) trace bad
    (e ∙ ap (λ (o : Outcome Kept). (judged_first ride trace o (pick (eqb (length trace % 8) 0) (smaller_trace (gap_at (plain gap)) ride trace) (untouched ride trace 16))).answer) (judged_plain (allowed gap) gap refl))
