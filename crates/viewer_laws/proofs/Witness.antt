-- The viewer's states have the number of the last present signal (M-110), computed: after a signal
-- with the number 1612, four records forward.
-- Assumes nothing.
use Prim.Native.Nat.{ℕ}
use mathlib.Core.Path.{◌≡◌, refl}
use mathlib.Core.List.{List, [], ◌∷◌}
use Rattle.words.specs.Bits.{word}
use Rattle.words.specs.Plain.{is_check, covers, count, even, is_code, onwards, figure}
use Rattle.words.specs.Code.{other, exchanged, read_word}
use Rattle.telegram.specs.Telegram.{short_word, long_word, telegram}
use Rattle.group_rows.specs.Row.{fits, first, fit_row_meant, fit_rows}
use Rattle.group_rows.specs.Rows.{how_many, fit_in}
use Rattle.group_rows.specs.Fitting.{fitting}
use Rattle.group.specs.Balise.{balises, read_all}
use Rattle.group.specs.Distance.{distance}
use Rattle.group.specs.Speed.{signal_speed, target_figure}
use Rattle.group.specs.Numbers.{number_of}
use Rattle.group.specs.Judge.{distance_of, signal_distance, judge_read, judge}
use Rattle.group.specs.declared.Number.{Number}
use Rattle.ride.specs.State.{no_group, nothing_known, fresh_ride}
use Rattle.ride.specs.Record.{odometer_of, passed_of, in_order_meant, check_record}
use Rattle.ride.specs.Joining.{join, take_up}
use Rattle.ride.specs.Closing.{close, leave}
use Rattle.ride.specs.Step.{close_behind, missed_lines, after_missed, go_on, treat}
use Rattle.ride.specs.Over.{ride_over, first_records}
use Rattle.viewer.specs.History.{straight}

-- `1000 1 8 5`, `1030 9 2 4`, `1060 12 1612`, `6000 position`.
abbrev pub bytes : List ℕ
bytes =
    0x00 ∷ 0x00 ∷ 0x03 ∷ 0xE8 ∷ 0x00 ∷ 0x17 ∷ 0x8E ∷ 0x5A ∷ 0x00 ∷ 0x00 ∷ 0x04 ∷ 0x06 ∷ 0x00 ∷ 0x99 ∷ 0x2B ∷ 0x4D
    ∷ 0x00 ∷ 0x00 ∷ 0x04 ∷ 0x24 ∷ 0x00 ∷ 0xC3 ∷ 0xD1 ∷ 0xC6 ∷ 0x00 ∷ 0x00 ∷ 0x17 ∷ 0x70 ∷ 0x03 ∷ 0x00 ∷ 0x00 ∷ 0x00 ∷ []

pub number_kept : (straight (λ _. 40) bytes 4).known.number ≡ Number.Figure 1612
unfolding ride_over first_records fresh_ride no_group nothing_known odometer_of passed_of in_order_meant check_record join take_up close leave close_behind missed_lines after_missed go_on treat read_word is_code even count covers figure onwards is_check exchanged other word short_word long_word telegram balises read_all fits first fit_row_meant fit_rows how_many fit_in fitting distance signal_speed target_figure distance_of signal_distance number_of judge_read judge
number_kept = refl
