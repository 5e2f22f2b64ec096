-- Document 01's ride in full, computed: its lines, and the state after it.
-- Assumes nothing.
use Prim.Native.Nat.{ℕ}
use mathlib.Core.Path.{◌≡◌, refl}
use mathlib.Core.List.{List, [], ◌∷◌}
use Rattle.words.specs.Bits.{word}
use Rattle.words.specs.Plain.{is_check, covers, count, even, is_code, onwards, figure}
use Rattle.words.specs.Code.{other, exchanged, read_word}
use Rattle.telegram.specs.Telegram.{short_word, long_word, telegram}
use Rattle.group_rows.specs.declared.Direction.{Direction}
use Rattle.group_rows.specs.declared.Kind.{Kind}
use Rattle.group.specs.declared.Number.{Number}
use Rattle.group.specs.declared.Told.{Told}
use Rattle.group.specs.Balise.{balises, read_all}
use Rattle.group_rows.specs.Row.{fits, first, fit_row_meant, fit_rows}
use Rattle.group_rows.specs.Rows.{how_many, fit_in}
use Rattle.group_rows.specs.Fitting.{fitting}
use Rattle.group.specs.Distance.{distance}
use Rattle.group.specs.Speed.{signal_speed, target_figure}
use Rattle.group.specs.Numbers.{number_of}
use Rattle.group.specs.Judge.{distance_of, signal_distance, judge_read, judge}
use Rattle.ride.specs.declared.Linking.{Linking}
use Rattle.ride.specs.declared.Mark.{Mark}
use Rattle.ride.specs.declared.Line.{Line}
use Rattle.ride.specs.declared.Ride.{Ride}
use Rattle.ride.specs.State.{no_group, nothing_known, fresh_ride}
use Rattle.ride.specs.Record.{odometer_of, passed_of, in_order_meant, check_record}
use Rattle.ride.specs.Joining.{join, take_up}
use Rattle.ride.specs.Closing.{close, leave}
use Rattle.ride.specs.Step.{close_behind, missed_lines, after_missed, go_on, treat, end}
use Rattle.ride.specs.Over.{first_records, records, ride_over}

-- "Gap 40. Records: 000003E8 00 17 8E 5A / 00000406 00 99 2B 4D / 00001770 03 00 00 00."
abbrev trace : List ℕ
trace =
    0x00 ∷ 0x00 ∷ 0x03 ∷ 0xE8 ∷ 0x00 ∷ 0x17 ∷ 0x8E ∷ 0x5A
    ∷ 0x00 ∷ 0x00 ∷ 0x04 ∷ 0x06 ∷ 0x00 ∷ 0x99 ∷ 0x2B ∷ 0x4D
    ∷ 0x00 ∷ 0x00 ∷ 0x17 ∷ 0x70 ∷ 0x03 ∷ 0x00 ∷ 0x00 ∷ 0x00
    ∷ []

-- "Main speed 130, target 80." The signal has no number.
abbrev after : Ride
after = record { odometer = 6000; group = no_group; known = record { linking = Linking.Unset; main = Told.Kmh 130; target = Told.Kmh 80; number = Number.None } }

-- "1000 present signal first", "5800 missed"
pub in_full : ride_over (λ odometer. 40) fresh_ride 1 (records trace)
    ≡ record {
      lines = Line.Group (record { place = 1000; direction = Direction.Present; kind = Kind.Signal; mark = Mark.First; number = Number.None }) ∷ Line.Missed 5800 ∷ [];
      ride = after;
    }
unfolding word is_check covers count even is_code onwards figure other exchanged read_word short_word long_word telegram balises read_all fits first fit_row_meant fit_rows how_many fit_in fitting distance signal_speed target_figure distance_of signal_distance number_of judge_read judge no_group nothing_known fresh_ride odometer_of passed_of in_order_meant check_record join take_up close leave close_behind missed_lines after_missed go_on treat first_records ride_over
in_full = refl

-- its end closes no group, gives no line, and leaves the state
pub in_full_ended : end after ≡ record { lines = []; closed = no_group; ride = after }
unfolding no_group leave end
in_full_ended = refl
