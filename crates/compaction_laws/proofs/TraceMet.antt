-- The hypotheses of the promises are met, computed: a trace under a store of two versions, from
-- which positions are dropped; it has lines and a refused record, which was the fifth and is the
-- fourth.
-- Assumes nothing.
use Prim.Native.Nat.{ℕ, ◌/◌, ◌%◌}
use mathlib.Core.Path.{◌≡◌, refl}
use mathlib.Core.List.{List, [], ◌∷◌}
use lib.ListN.{take}
use Rattle.telegram.specs.Sync.{differing, is_good, good_pair}
use Rattle.settings.specs.declared.Store.{Store}
use Rattle.settings.specs.Versions.{settings_of, follows}
use Rattle.settings.specs.Store.{no_store_meant, versions_of, opened, begin, all_follow, in_order_meant as versions_in_order, judged, with_one, may_add, add}
use Rattle.settings.specs.At.{held_from, held_at, gap_at}
use Rattle.group.specs.Balise.{balises, read_all}
use Rattle.group.specs.Judge.{judge_read, judge}
use Rattle.ride.specs.declared.Line.{Line}
use Rattle.ride.specs.declared.Ride.{Ride}
use Rattle.ride.specs.declared.Stepped.{Stepped}
use Rattle.ride.specs.State.{no_group, nothing_known, fresh_ride}
use Rattle.ride.specs.Record.{odometer_of, passed_of, in_order_meant, check_record}
use Rattle.ride.specs.Joining.{join, take_up}
use Rattle.ride.specs.Closing.{close, leave}
use Rattle.ride.specs.Step.{close_behind, missed_lines, after_missed, go_on, treat, step}
use Rattle.ride.specs.Over.{first_records, records, ride_over, run}
use Rattle.ride.specs.Says.{says_stepped}
use Rattle.ride.proofs.Determined as ride_is
use Rattle.compaction.specs.Dropped.{is_dropped, compact_over}
use Rattle.compaction.specs.Compact.{bytes_of, smaller_trace, compact}
use Rattle.ride.specs.declared.TraceRefused.{TraceRefused}
use Rattle.std.specs.Prelude.{Result, Ok, Err}
use Rattle.compaction.specs.declared.Compacted.{Compacted}
use Rattle.compaction.proofs.Determined as compaction_is
use Rattle.demands.specs.ByContract.{RunOver}
use Rattle.demands.specs.Compacting.{CompactIn}
use Rattle.demands.specs.Sections.{ByStep, lines_from}
use Rattle.demands.proofs.Witness.CallsMet.{lent, lent_out}

-- A position record, and a marker, below 65,536 dm.
abbrev pub at : ℕ → List ℕ
at o = 0 ∷ 0 ∷ o / 256 ∷ o % 256 ∷ 3 ∷ 0 ∷ 0 ∷ 0 ∷ []

abbrev pub marker : ℕ → List ℕ
marker o = 0 ∷ 0 ∷ o / 256 ∷ o % 256 ∷ 1 ∷ 0 ∷ 0 ∷ 0 ∷ []

-- ---- by `step`: what the contract's own right side says, record after record

abbrev steps : (ℕ → ℕ) → Ride → List (List ℕ) → List Stepped
steps gaps ride [] = []
steps gaps ride (r ∷ rs) =
    let s : Stepped = ride_is.stepped_of (step ride (gaps (odometer_of r)) r) in
    s ∷ steps gaps s.ride rs

-- an answer says it, for each record
abbrev Said : (ℕ → ℕ) → Ride → List (List ℕ) → Type 0
Said gaps ride [] = Unit {0}
Said gaps ride (r ∷ rs) =
    (says_stepped (ride_is.stepped_of (step ride (gaps (odometer_of r)) r)) ≡ step ride (gaps (odometer_of r)) r)
    × Said gaps (ride_is.stepped_of (step ride (gaps (odometer_of r)) r)).ride rs

by_step : (gaps : ℕ → ℕ) (ride : Ride) (rs : List (List ℕ)) → Said gaps ride rs → ByStep gaps ride rs (steps gaps ride rs)
by_step gaps ride [] p = tt
by_step gaps ride (r ∷ rs) p =
    (((ride, (gaps (odometer_of r), (r, tt))), p.0), by_step gaps (ride_is.stepped_of (step ride (gaps (odometer_of r)) r)).ride rs p.1)

-- ---- the gap is 40, and 100 from 2000 on. The position at 1041 closes a group, and so does that
-- at 2101; 2041 is within the gap; that at 1040 is refused, so the one before it is kept; the last
-- is kept

abbrev pub two : Store
two = (add (begin 40 0x72 0x0D).store (record { place = 2000; gap = 100; s = 0x72; t = 0x0D })).store

abbrev pub all : List (List ℕ)
all = marker 1000 ∷ at 1010 ∷ at 1041 ∷ at 1042 ∷ at 1040 ∷ marker 2000 ∷ at 2041 ∷ at 2101 ∷ at 2102 ∷ at 2103 ∷ []

abbrev small : List (List ℕ)
small = marker 1000 ∷ at 1041 ∷ at 1042 ∷ at 1040 ∷ marker 2000 ∷ at 2101 ∷ at 2103 ∷ []

abbrev pub answered : Compacted
answered = compaction_is.compacted_of (compact fresh_ride two (bytes_of all))

abbrev pub after : List ℕ
after = (compact fresh_ride two (bytes_of all)).buffer

pub compact_met : CompactIn fresh_ride two (bytes_of all) answered after × (answered.size ≡ Ok 56) × (take 56 after ≡ bytes_of small)
unfolding differing is_good good_pair settings_of follows no_store_meant versions_of opened begin all_follow versions_in_order judged with_one may_add add held_from held_at gap_at balises read_all judge_read judge no_group nothing_known fresh_ride odometer_of passed_of in_order_meant check_record join take_up close leave close_behind missed_lines after_missed go_on treat first_records ride_over is_dropped compact_over smaller_trace compact
compact_met = ((([], tt), lent_out (bytes_of all), (fresh_ride, (two, (lent_out after, tt))), refl, refl, refl), refl, refl)

again_met : CompactIn fresh_ride two (bytes_of small) answered (bytes_of small)
unfolding differing is_good good_pair settings_of follows no_store_meant versions_of opened begin all_follow versions_in_order judged with_one may_add add held_from held_at gap_at balises read_all judge_read judge no_group nothing_known fresh_ride odometer_of passed_of in_order_meant check_record join take_up close leave close_behind missed_lines after_missed go_on treat first_records ride_over is_dropped compact_over smaller_trace compact
again_met = (([], tt), lent_out (bytes_of small), (fresh_ride, (two, (lent_out (bytes_of small), tt))), refl, refl, refl)

run_met : RunOver fresh_ride two (bytes_of all) (ride_is.ran_of (run fresh_ride two (bytes_of all)))
    × RunOver fresh_ride two (bytes_of small) (ride_is.ran_of (run fresh_ride two (bytes_of small)))
unfolding differing is_good good_pair settings_of follows no_store_meant versions_of opened begin all_follow versions_in_order judged with_one may_add add held_from held_at gap_at run
run_met = (
  (([], tt), lent (bytes_of all), (fresh_ride, (two, (lent (bytes_of all), tt))), refl, refl),
  (([], tt), lent (bytes_of small), (fresh_ride, (two, (lent (bytes_of small), tt))), refl, refl),
)

steps_met : ByStep (gap_at two) fresh_ride (records (bytes_of all)) (steps (gap_at two) fresh_ride all)
    × ByStep (gap_at two) fresh_ride (records (bytes_of small)) (steps (gap_at two) fresh_ride small)
unfolding differing is_good good_pair settings_of follows no_store_meant versions_of opened begin all_follow versions_in_order judged with_one may_add add held_from held_at gap_at balises read_all judge_read judge no_group nothing_known fresh_ride odometer_of passed_of in_order_meant check_record join take_up close leave close_behind missed_lines after_missed go_on treat first_records step
steps_met = (
  by_step (gap_at two) fresh_ride all (refl, (refl, (refl, (refl, (refl, (refl, (refl, (refl, (refl, (refl, tt)))))))))),
  by_step (gap_at two) fresh_ride small (refl, (refl, (refl, (refl, (refl, (refl, (refl, tt))))))),
)

lines_met : (lines_from 1 (steps (gap_at two) fresh_ride all) ≡ Line.Fault 1000 10 ∷ Line.Record 5 17 ∷ Line.Fault 2000 10 ∷ [])
    × (lines_from 1 (steps (gap_at two) fresh_ride small) ≡ Line.Fault 1000 10 ∷ Line.Record 4 17 ∷ Line.Fault 2000 10 ∷ [])
unfolding differing is_good good_pair settings_of follows no_store_meant versions_of opened begin all_follow versions_in_order judged with_one may_add add held_from held_at gap_at balises read_all judge_read judge no_group nothing_known fresh_ride odometer_of passed_of in_order_meant check_record join take_up close leave close_behind missed_lines after_missed go_on treat first_records step
lines_met = (refl, refl)
