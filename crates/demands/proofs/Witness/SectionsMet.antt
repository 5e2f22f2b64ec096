-- The hypotheses of the laws on rides in sections are met, by `step`: document 01's ride, cut after
-- its first record, is ridden card by card; so is a ride with a number, cut before its number
-- balise. (By `list`: ListsMet.antt; by `run`: StoresMet.antt.)
-- Assumes nothing.
use Prim.Native.Nat.{ℕ}
use mathlib.Core.Path.{◌≡◌, refl}
use mathlib.Core.List.{List, [], ◌∷◌}
use lib.ListN.{take, drop}
use Rattle.words.specs.Bits.{word}
use Rattle.words.specs.Plain.{is_check, covers, count, even, is_code, onwards, figure}
use Rattle.words.specs.Code.{other, exchanged, read_word}
use Rattle.telegram.specs.Telegram.{short_word, long_word, telegram}
use Rattle.group.specs.Balise.{balises, read_all}
use Rattle.group_rows.specs.declared.Direction.{Direction}
use Rattle.group_rows.specs.declared.Kind.{Kind}
use Rattle.group_rows.specs.Row.{fits, first, fit_row_meant, fit_rows}
use Rattle.group_rows.specs.Rows.{how_many, fit_in}
use Rattle.group.specs.declared.Number.{Number}
use Rattle.group.specs.Distance.{distance}
use Rattle.group.specs.Speed.{signal_speed, target_figure}
use Rattle.group_rows.specs.Fitting.{route_speed, fitting}
use Rattle.group.specs.Numbers.{number_of}
use Rattle.group.specs.Judge.{distance_of, signal_distance, judge_read, judge}
use Rattle.ride.specs.Record.{odometer_of, passed_of, in_order_meant, check_record}
use Rattle.ride.specs.State.{no_group, nothing_known, fresh_ride}
use Rattle.ride.specs.Linking.{mark_at}
use Rattle.ride.specs.Closing.{close, leave}
use Rattle.ride.specs.Step.{close_behind, missed_lines, after_missed, go_on, treat, step}
use Rattle.ride.specs.Joining.{join, take_up}
use Rattle.ride.specs.Over.{records, ride_over, first_records}
use Rattle.ride.specs.declared.Stepped.{Stepped}
use Rattle.ride.specs.declared.Line.{Line}
use Rattle.ride.specs.declared.Mark.{Mark}
use Rattle.ride.specs.declared.Ride.{Ride}
use Rattle.ride.proofs.Determined as ride_is
use Rattle.demands.specs.Table.{bad_length}
use Rattle.demands.specs.Output.{ridden, one_ride}
use Rattle.demands.specs.Sections.{Whole, ByStep, lines_from}

-- ---- by `step`

-- document 01's ride on two cards: its first record, and the other two
abbrev pub first_card : List ℕ
first_card = take 8 one_ride

abbrev pub second_card : List ℕ
second_card = drop 8 one_ride

-- what the contracts' own right sides say
abbrev stepped : Ride → List ℕ → Stepped
stepped ride bytes = ride_is.stepped_of (step ride 40 bytes)

abbrev one : Stepped
one = stepped fresh_ride first_card

abbrev two : Stepped
two = stepped one.ride (take 8 second_card)

abbrev three : Stepped
three = stepped two.ride (drop 8 second_card)

stepped_met : ByStep (λ odometer. 40) fresh_ride (records first_card) (one ∷ []) × ByStep (λ odometer. 40) one.ride (records second_card) (two ∷ three ∷ [])
unfolding read_word is_code even count covers figure onwards is_check exchanged other word short_word long_word telegram balises read_all fits first fit_row_meant fit_rows how_many fit_in fitting distance signal_speed target_figure route_speed distance_of signal_distance number_of judge_read judge odometer_of passed_of in_order_meant check_record no_group nothing_known fresh_ride join take_up mark_at close leave close_behind missed_lines after_missed go_on treat first_records ride_over step
stepped_met = (
  (((fresh_ride, (40, (first_card, tt))), refl), tt),
  (((one.ride, (40, (take 8 second_card, tt))), refl), (((two.ride, (40, (drop 8 second_card, tt))), refl), tt)),
)

-- its lines: none on the first card, both on the second
lines_met : (lines_from 1 (one ∷ []) ≡ []) × (lines_from 2 (two ∷ three ∷ []) ≡ (ridden one_ride).lines)
unfolding read_word is_code even count covers figure onwards is_check exchanged other word short_word long_word telegram balises read_all fits first fit_row_meant fit_rows how_many fit_in fitting distance signal_speed target_figure route_speed distance_of signal_distance number_of judge_read judge odometer_of passed_of in_order_meant check_record no_group nothing_known fresh_ride join take_up mark_at close leave close_behind missed_lines after_missed go_on treat first_records ride_over step
lines_met = (refl, refl)

pub whole_met : Whole first_card × Whole second_card
unfolding bad_length
whole_met = (refl, refl)

-- ---- with a number: `1000 1 8 5` and `1030 9 2 4` on the first card, `1060 12 1612` and `6000
-- position` on the second

abbrev pub before_number : List ℕ
before_number = 0x00 ∷ 0x00 ∷ 0x03 ∷ 0xE8 ∷ 0x00 ∷ 0x17 ∷ 0x8E ∷ 0x5A ∷ 0x00 ∷ 0x00 ∷ 0x04 ∷ 0x06 ∷ 0x00 ∷ 0x99 ∷ 0x2B ∷ 0x4D ∷ []

abbrev pub with_number : List ℕ
with_number = 0x00 ∷ 0x00 ∷ 0x04 ∷ 0x24 ∷ 0x00 ∷ 0xC3 ∷ 0xD1 ∷ 0xC6 ∷ 0x00 ∷ 0x00 ∷ 0x17 ∷ 0x70 ∷ 0x03 ∷ 0x00 ∷ 0x00 ∷ 0x00 ∷ []

abbrev first_of : Stepped
first_of = stepped fresh_ride (take 8 before_number)

abbrev second_of : Stepped
second_of = stepped first_of.ride (drop 8 before_number)

abbrev third_of : Stepped
third_of = stepped second_of.ride (take 8 with_number)

abbrev fourth_of : Stepped
fourth_of = stepped third_of.ride (drop 8 with_number)

number_steps_met : ByStep (λ odometer. 40) fresh_ride (records before_number) (first_of ∷ second_of ∷ [])
    × ByStep (λ odometer. 40) second_of.ride (records with_number) (third_of ∷ fourth_of ∷ [])
unfolding read_word is_code even count covers figure onwards is_check exchanged other word short_word long_word telegram balises read_all fits first fit_row_meant fit_rows how_many fit_in fitting distance signal_speed target_figure route_speed distance_of signal_distance number_of judge_read judge odometer_of passed_of in_order_meant check_record no_group nothing_known fresh_ride join take_up mark_at close leave close_behind missed_lines after_missed go_on treat first_records ride_over step
number_steps_met = (
  (((fresh_ride, (40, (take 8 before_number, tt))), refl), (((first_of.ride, (40, (drop 8 before_number, tt))), refl), tt)),
  (((second_of.ride, (40, (take 8 with_number, tt))), refl), (((third_of.ride, (40, (drop 8 with_number, tt))), refl), tt)),
)

-- the line has the number, and so has the state after it
pub number_met : (lines_from 3 (third_of ∷ fourth_of ∷ []) ≡ Line.Group (record { place = 1000; direction = Direction.Present; kind = Kind.Signal; mark = Mark.First; number = Number.Figure 1612 }) ∷ Line.Missed 5800 ∷ [])
    × (fourth_of.ride.known.number ≡ Number.Figure 1612)
unfolding read_word is_code even count covers figure onwards is_check exchanged other word short_word long_word telegram balises read_all fits first fit_row_meant fit_rows how_many fit_in fitting distance signal_speed target_figure route_speed distance_of signal_distance number_of judge_read judge odometer_of passed_of in_order_meant check_record no_group nothing_known fresh_ride join take_up mark_at close leave close_behind missed_lines after_missed go_on treat first_records ride_over step
number_met = (refl, refl)
