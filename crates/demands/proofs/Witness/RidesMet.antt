-- The hypotheses of the other theorems on rides are met: a record that finds no group open, one
-- that leaves a group of one balise behind, one that joins an open group, the end of a ride, and a
-- group in the opposite direction.
-- Assumes nothing.
use Prim.Native.Nat.{ℕ}
use native.Mathlib.Omega.{arith}
use mathlib.Core.Path.{refl}
use mathlib.Core.List.{List, [], ◌∷◌}
use Rattle.std.specs.Prelude.{Ok, Err}
use Rattle.words.specs.Bits.{word}
use Rattle.words.specs.Plain.{is_check, covers, count, even, is_code, onwards, figure}
use Rattle.words.specs.Code.{other, exchanged, read_word}
use Rattle.telegram.specs.Telegram.{short_word, long_word, telegram}
use Rattle.group.specs.Balise.{balises, read_all}
use Rattle.group_rows.specs.Row.{fits, first, fit_row_meant, fit_rows}
use Rattle.group_rows.specs.Rows.{how_many, fit_in}
use Rattle.group.specs.Distance.{distance}
use Rattle.group.specs.Speed.{signal_speed, target_figure}
use Rattle.group_rows.specs.Fitting.{route_speed, fitting}
use Rattle.group.specs.Numbers.{number_of}
use Rattle.group.specs.Judge.{distance_of, signal_distance, judge_read, judge}
use Rattle.group.specs.declared.Content.{Content}
use Rattle.group_rows.specs.declared.Direction.{Direction}
use Rattle.group.specs.declared.Group.{Group}
use Rattle.group.specs.declared.Heard.{Heard}
use Rattle.group.specs.declared.GroupRefused.{GroupRefused}
use Rattle.group_rows.specs.declared.Kind.{Kind}
use Rattle.group.specs.declared.Message.{Message}
use Rattle.group.specs.declared.Number.{Number}
use Rattle.group.specs.declared.Told.{Told}
use Rattle.ride.specs.Record.{odometer_of, passed_of, in_order_meant, check_record}
use Rattle.ride.specs.State.{no_balise, no_group, nothing_known, fresh_ride}
use Rattle.ride.specs.Joining.{join, take_up}
use Rattle.ride.specs.Linking.{mark_at}
use Rattle.ride.specs.Closing.{close, leave}
use Rattle.ride.specs.Step.{close_behind, missed_lines, after_missed, go_on, treat, step}
use Rattle.ride.specs.declared.Line.{Line}
use Rattle.ride.specs.declared.Lines.{Lines}
use Rattle.ride.specs.declared.Linking.{Linking}
use Rattle.ride.specs.declared.Mark.{Mark}
use Rattle.ride.specs.declared.Passed.{Passed}
use Rattle.std.specs.Prelude.{Ok}
use Rattle.ride.specs.declared.Ride.{Ride}
use Rattle.demands.specs.Table.{bad_gap}
use Rattle.demands.specs.ByContract.{JudgeGroup}
use Rattle.demands.specs.Steps.{OneStep, LeavesBehind, NoneOpen}
use Rattle.demands.specs.Ride.{IsMarked}
use Rattle.ride.specs.Step.{end}
use Rattle.ride.specs.declared.Ended.{Ended}
use Rattle.ride.specs.declared.Known.{Known}
use Rattle.demands.specs.ByContract.{EndOf}
use Rattle.demands.specs.Steps.{StaysOpen}
use Rattle.demands.specs.Ride.{unmarked}
use Rattle.demands.proofs.Witness.MarksMet.{its_group}
use Rattle.words.proofs.Never.{cannot_be}

-- ---- no group is open, and the signal announced 4000 dm from 1000 on is missed at 5801 dm

-- the record at 5801 dm
abbrev far : List ℕ
far = 0x00 ∷ 0x00 ∷ 0x16 ∷ 0xA9 ∷ 0x03 ∷ 0x00 ∷ 0x00 ∷ 0x00 ∷ []

-- its step
abbrev missed_step : OneStep
missed_step =
    record {
      ride = record { odometer = 5800; group = no_group; known = record { linking = Linking.Set 4000 1000; main = Told.Kmh 130; target = Told.Kmh 80; number = Number.None } };
      gap = 40;
      bytes = far;
      odometer = 5801;
      passed = Passed.Position;
      answer =
          record {
            ride = record { odometer = 5801; group = no_group; known = record { linking = Linking.Unset; main = Told.Kmh 130; target = Told.Kmh 80; number = Number.None } };
            closed = no_group;
            report = Ok (Lines.One (Line.Missed 5800));
          };
    }

missed_met : NoneOpen missed_step
unfolding odometer_of passed_of in_order_meant check_record no_group leave close_behind missed_lines after_missed go_on treat step take_up bad_gap
missed_met =
    record {
      accepts = record { called = ((missed_step.ride, (40, (far, tt))), refl); good_gap = refl; accepted = ((missed_step.ride, (far, tt)), refl) };
      none = refl;
    }

-- ---- a group of one balise is left behind and refused

-- the group
abbrev alone : Group
alone = record { kept = record { place = 1000; heard = Heard.Marker } ∷ no_balise ∷ no_balise ∷ no_balise ∷ no_balise ∷ []; count = 1; last = 1000 }

-- the step that leaves it behind
abbrev alone_step : OneStep
alone_step =
    record {
      ride = record { odometer = 1000; group = alone; known = nothing_known };
      gap = 40;
      bytes = far;
      odometer = 5801;
      passed = Passed.Position;
      answer =
          record {
            ride = record { odometer = 5801; group = no_group; known = nothing_known };
            closed = alone;
            report = Ok (Lines.One (Line.Fault 1000 10));
          };
    }

alone_met : LeavesBehind alone_step × JudgeGroup alone (Err GroupRefused.One)
unfolding odometer_of passed_of in_order_meant check_record no_group nothing_known close close_behind missed_lines after_missed go_on treat step take_up judge bad_gap
alone_met = (
  record {
    accepts = record { called = ((alone_step.ride, (40, (far, tt))), refl); good_gap = refl; accepted = ((alone_step.ride, (far, tt)), refl) };
    is_open = refl;
    exceeds = omega arith;
  },
  ((alone, tt), refl),
)

-- ---- the second record of document 01's ride: the group stays open, and the balise joins it

-- "00000406 00 99 2B 4D"
abbrev pub second : List ℕ
second = 0x00 ∷ 0x00 ∷ 0x04 ∷ 0x06 ∷ 0x00 ∷ 0x99 ∷ 0x2B ∷ 0x4D ∷ []

-- its step
abbrev pub joins_step : OneStep
joins_step =
    record {
      ride =
          record {
            odometer = 1000;
            group = record { kept = record { place = 1000; heard = Heard.Words 0x17 0x8E 0x5A } ∷ no_balise ∷ no_balise ∷ no_balise ∷ no_balise ∷ []; count = 1; last = 1000 };
            known = nothing_known;
          };
      gap = 40;
      bytes = second;
      odometer = 1030;
      passed = Passed.Balise (Heard.Words 0x99 0x2B 0x4D);
      answer = record { ride = record { odometer = 1030; group = its_group; known = nothing_known }; closed = no_group; report = Ok Lines.None };
    }

pub joins_met : StaysOpen joins_step
unfolding odometer_of passed_of in_order_meant check_record no_group nothing_known leave close_behind missed_lines after_missed go_on treat step join take_up bad_gap
joins_met =
    record {
      accepts = record { called = ((joins_step.ride, (40, (second, tt))), refl); good_gap = refl; accepted = ((joins_step.ride, (second, tt)), refl) };
      is_open = refl;
      within = omega arith;
    }

-- ---- the end: an accepted group closes, a refused one does, and with none open nothing is said

-- the ride with this group open, and what its end answers with this line and what is known then
abbrev open_ride : Group → Ride
open_ride g = record { odometer = 1030; group = g; known = nothing_known }

abbrev ended_with : Group → Line → Known → Ended
ended_with g line known = record { ride = record { odometer = 1030; group = no_group; known = known }; closed = g; lines = Lines.One line }

ends_met : EndOf (open_ride its_group)
    (ended_with its_group (Line.Group (record { place = 1000; direction = Direction.Present; kind = Kind.Signal; mark = Mark.First; number = Number.None }))
    (record { linking = Linking.Set 4000 1000; main = Told.Kmh 130; target = Told.Kmh 80; number = Number.None }))
unfolding read_word is_code even count covers figure onwards is_check exchanged other word short_word long_word telegram balises read_all fits first fit_row_meant fit_rows how_many fit_in fitting distance signal_speed target_figure route_speed distance_of signal_distance number_of judge_read judge odometer_of passed_of in_order_meant check_record no_group nothing_known fresh_ride join take_up mark_at close leave close_behind missed_lines after_missed go_on treat step bad_gap end
ends_met = ((open_ride its_group, tt), refl)

ends_alone_met : EndOf (open_ride alone) (ended_with alone (Line.Fault 1000 10) nothing_known)
unfolding no_group nothing_known close judge end
ends_alone_met = ((open_ride alone, tt), refl)

ends_none_met : EndOf (open_ride no_group) (record { ride = open_ride no_group; closed = no_group; lines = Lines.None })
unfolding no_group leave end
ends_none_met = ((open_ride no_group, tt), refl)

-- ---- a group in the opposite direction: all other groups leave what is known as it was

-- 9 before 1
abbrev backwards : Group
backwards =
    record {
      kept =
          record { place = 1000; heard = Heard.Words 0x99 0x2B 0x4D }
          ∷ record { place = 1030; heard = Heard.Words 0x17 0x8E 0x5A }
          ∷ no_balise ∷ no_balise ∷ no_balise ∷ [];
      count = 2;
      last = 1030;
    }

-- what it says
abbrev its_other : Message
its_other = record { direction = Direction.Opposite; kind = Kind.Signal; place = 1030; ay = 8; az = 5; number = Number.None; content = Content.Nothing }

other_met : JudgeGroup backwards (Ok its_other) × IsMarked Linking.Unset its_other Mark.Unmarked
unfolding read_word is_code even count covers figure onwards is_check exchanged other word short_word long_word telegram balises read_all fits first fit_row_meant fit_rows how_many fit_in fitting distance signal_speed target_figure route_speed distance_of signal_distance number_of judge_read judge odometer_of passed_of in_order_meant check_record no_group nothing_known fresh_ride join take_up mark_at close leave close_behind missed_lines after_missed go_on treat step bad_gap end
other_met = (((backwards, tt), refl), unmarked (λ s. let e = s.0 in cannot_be cc))
