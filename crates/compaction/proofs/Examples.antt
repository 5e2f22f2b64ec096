-- Small traces compacted, computed: each reason for which a record is kept.
-- Assumes nothing.
use Prim.Native.Nat.{ℕ, ◌/◌, ◌%◌}
use mathlib.Core.Path.{◌≡◌, refl}
use mathlib.Core.List.{List, [], ◌∷◌}
use Rattle.words.specs.Bits.{word}
use Rattle.words.specs.Plain.{is_check, covers, count, even, is_code, onwards, figure}
use Rattle.words.specs.Code.{other, exchanged, read_word}
use Rattle.telegram.specs.Telegram.{short_word, long_word, telegram}
use Rattle.group.specs.Balise.{balises, read_all}
use Rattle.group_rows.specs.Row.{fits, first, fit_row_meant, fit_rows}
use Rattle.group_rows.specs.Rows.{how_many, fit_in}
use Rattle.group_rows.specs.Fitting.{fitting}
use Rattle.group.specs.Distance.{distance}
use Rattle.group.specs.Speed.{signal_speed, target_figure}
use Rattle.group.specs.Numbers.{number_of}
use Rattle.group.specs.Judge.{distance_of, signal_distance, judge_read, judge}
use Rattle.ride.specs.State.{no_group, nothing_known, fresh_ride}
use Rattle.ride.specs.Record.{odometer_of, passed_of, in_order_meant, check_record}
use Rattle.ride.specs.Joining.{join, take_up}
use Rattle.ride.specs.Closing.{close, leave}
use Rattle.ride.specs.Step.{close_behind, missed_lines, after_missed, go_on, treat}
use Rattle.compaction.specs.Dropped.{is_dropped, compact_over}

-- A position record below 65,536 dm.
abbrev at : ℕ → List ℕ
at o = 0 ∷ 0 ∷ o / 256 ∷ o % 256 ∷ 3 ∷ 0 ∷ 0 ∷ 0 ∷ []

-- A record with a telegram.
abbrev heard : ℕ → ℕ → ℕ → ℕ → List ℕ
heard o x y z = 0 ∷ 0 ∷ o / 256 ∷ o % 256 ∷ 0 ∷ x ∷ y ∷ z ∷ []

-- the last record is kept, all others are dropped
pub last_kept : compact_over (λ odometer. 40) fresh_ride (at 5 ∷ at 6 ∷ at 7 ∷ []) ≡ at 7 ∷ []
unfolding no_group nothing_known fresh_ride odometer_of passed_of in_order_meant check_record take_up close leave close_behind missed_lines after_missed go_on treat is_dropped compact_over
last_kept = refl

-- a record before a refused one is kept, and so is the refused one: 5 after 6 is "below the last
-- accepted one"
pub before_refused : compact_over (λ odometer. 40) fresh_ride (at 5 ∷ at 6 ∷ at 5 ∷ at 7 ∷ at 7 ∷ []) ≡ at 6 ∷ at 5 ∷ at 7 ∷ []
unfolding no_group nothing_known fresh_ride odometer_of passed_of in_order_meant check_record take_up close leave close_behind missed_lines after_missed go_on treat is_dropped compact_over
before_refused = refl

-- document 01's ride with positions between its records: a balise is kept, and so is the position
-- at which the group's line and *missed* come
pub with_lines : compact_over (λ odometer. 40) fresh_ride
    (heard 1000 0x17 0x8E 0x5A ∷ at 1010 ∷ heard 1030 0x99 0x2B 0x4D ∷ at 1060 ∷ at 6000 ∷ at 6001 ∷ at 6002 ∷ [])
    ≡ heard 1000 0x17 0x8E 0x5A ∷ heard 1030 0x99 0x2B 0x4D ∷ at 6000 ∷ at 6002 ∷ []
unfolding word is_check covers count even is_code onwards figure other exchanged read_word short_word long_word telegram balises read_all fits first fit_row_meant fit_rows how_many fit_in fitting distance signal_speed target_figure distance_of signal_distance number_of judge_read judge no_group nothing_known fresh_ride odometer_of passed_of in_order_meant check_record join take_up close leave close_behind missed_lines after_missed go_on treat is_dropped compact_over
with_lines = refl
