-- The state after a compaction has the number of the last present signal (M-110), computed: of a
-- ride with a signal of number 1612 three positions are dropped.
-- Assumes nothing.
use Prim.Native.Nat.{ℕ, ◌/◌, ◌%◌}
use mathlib.Core.Path.{◌≡◌, refl}
use mathlib.Core.List.{List, [], ◌∷◌}
use lib.ListN.{take}
use Rattle.words.specs.Bits.{word}
use Rattle.words.specs.Plain.{is_check, covers, count, even, is_code, onwards, figure}
use Rattle.words.specs.Code.{other, exchanged, read_word}
use Rattle.telegram.specs.Sync.{differing, is_good, good_pair}
use Rattle.telegram.specs.Telegram.{short_word, long_word, telegram}
use Rattle.settings.specs.Versions.{settings_of, follows}
use Rattle.settings.specs.Store.{no_store_meant, versions_of, opened, begin, all_follow, in_order_meant as versions_in_order, judged, with_one, may_add, add}
use Rattle.settings.specs.At.{held_from, held_at, gap_at}
use Rattle.group_rows.specs.Row.{fits, first, fit_row_meant, fit_rows}
use Rattle.group_rows.specs.Rows.{how_many, fit_in}
use Rattle.group_rows.specs.Fitting.{route_speed, fitting}
use Rattle.group.specs.Balise.{balises, read_all}
use Rattle.group.specs.Distance.{distance}
use Rattle.group.specs.Speed.{signal_speed, target_figure}
use Rattle.group.specs.Numbers.{number_of}
use Rattle.group.specs.Judge.{distance_of, signal_distance, judge_read, judge}
use Rattle.group.specs.declared.Number.{Number}
use Rattle.ride.specs.State.{no_group, nothing_known, fresh_ride}
use Rattle.ride.specs.Record.{odometer_of, passed_of, in_order_meant, check_record}
use Rattle.ride.specs.Joining.{join, take_up}
use Rattle.ride.specs.Linking.{mark_at}
use Rattle.ride.specs.Closing.{close, leave}
use Rattle.ride.specs.Step.{close_behind, missed_lines, after_missed, go_on, treat}
use Rattle.ride.specs.Over.{first_records, ride_over}
use Rattle.compaction.specs.Dropped.{is_dropped, compact_over}
use Rattle.compaction.specs.Compact.{bytes_of, smaller_trace, compact}
use Rattle.ride.specs.declared.TraceRefused.{TraceRefused}
use Rattle.std.specs.Prelude.{Result, Ok, Err}
use Rattle.compaction.specs.declared.Compacted.{Compacted}
use Rattle.compaction.proofs.Determined as compaction_is
use Rattle.demands.specs.Compacting.{CompactIn}
use Rattle.demands.proofs.Witness.CallsMet.{lent, lent_out}
use Rattle.compaction_laws.proofs.TraceMet.{at, two}

-- Received words at a place below 65,536 dm.
abbrev heard : ℕ → ℕ → ℕ → ℕ → List ℕ
heard o x y z = 0 ∷ 0 ∷ o / 256 ∷ o % 256 ∷ 0 ∷ x ∷ y ∷ z ∷ []

-- `1 8 5`, `9 2 4` and `12 1612`, with positions between and after them: that at 1101 closes the
-- group, the last is kept.
abbrev all : List (List ℕ)
all = heard 1000 0x17 0x8E 0x5A ∷ at 1010 ∷ heard 1030 0x99 0x2B 0x4D ∷ heard 1060 0xC3 0xD1 0xC6 ∷ at 1090 ∷ at 1101 ∷ at 1110 ∷ at 1120 ∷ []

abbrev small : List (List ℕ)
small = heard 1000 0x17 0x8E 0x5A ∷ heard 1030 0x99 0x2B 0x4D ∷ heard 1060 0xC3 0xD1 0xC6 ∷ at 1101 ∷ at 1120 ∷ []

abbrev answered : Compacted
answered = compaction_is.compacted_of (compact fresh_ride two (bytes_of all))

abbrev after : List ℕ
after = (compact fresh_ride two (bytes_of all)).buffer

pub number_compacted : CompactIn fresh_ride two (bytes_of all) answered after × (answered.size ≡ Ok 40) × (take 40 after ≡ bytes_of small)
    × (answered.ride.known.number ≡ Number.Figure 1612)
unfolding read_word is_code even count covers figure onwards is_check exchanged other word short_word long_word telegram fits first fit_row_meant fit_rows how_many fit_in fitting distance signal_speed target_figure route_speed distance_of signal_distance number_of mark_at differing is_good good_pair settings_of follows no_store_meant versions_of opened begin all_follow versions_in_order judged with_one may_add add held_from held_at gap_at balises read_all judge_read judge no_group nothing_known fresh_ride odometer_of passed_of in_order_meant check_record join take_up close leave close_behind missed_lines after_missed go_on treat first_records ride_over is_dropped compact_over smaller_trace compact
number_compacted = ((([], tt), lent_out (bytes_of all), (fresh_ride, (two, (lent_out after, tt))), refl, refl, refl), refl, refl, refl)
