-- The hypotheses of the theorem on marks are met by the last record of document 01's ride, with no
-- linking and with linking that makes it early, good or late by one decimetre.
-- Assumes nothing.
use Prim.Native.Nat.{ℕ}
use native.Mathlib.Omega.{arith}
use mathlib.Core.Path.{refl}
use mathlib.Core.Bool.{false}
use mathlib.Core.List.{List, [], ◌∷◌}
use Rattle.std.specs.Prelude.{Ok}
use Rattle.words.specs.Bits.{word}
use Rattle.words.specs.Plain.{is_check, covers, count, even, is_code, onwards, figure}
use Rattle.words.specs.Code.{other, exchanged, read_word}
use Rattle.telegram.specs.Telegram.{short_word, long_word, telegram}
use Rattle.group.specs.Balise.{balises, read_all}
use Rattle.group_rows.specs.Row.{fits, first, fit_row_meant, fit_rows}
use Rattle.group_rows.specs.Rows.{how_many, fit_in}
use Rattle.group.specs.Distance.{distance}
use Rattle.group.specs.Speed.{signal_speed, target_figure}
use Rattle.group_rows.specs.Fitting.{route_speed, fitting}
use Rattle.group.specs.Numbers.{number_of}
use Rattle.group.specs.Judge.{distance_of, signal_distance, judge_read, judge}
use Rattle.group.specs.declared.Content.{Content}
use Rattle.group_rows.specs.declared.Direction.{Direction}
use Rattle.group.specs.declared.Group.{Group}
use Rattle.group.specs.declared.Heard.{Heard}
use Rattle.group_rows.specs.declared.Kind.{Kind}
use Rattle.group.specs.declared.Message.{Message}
use Rattle.group.specs.declared.Number.{Number}
use Rattle.group.specs.declared.Told.{Told}
use Rattle.ride.specs.Record.{odometer_of, passed_of, in_order_meant, check_record}
use Rattle.ride.specs.State.{no_balise, no_group, nothing_known, fresh_ride}
use Rattle.ride.specs.Joining.{join, take_up}
use Rattle.ride.specs.Linking.{mark_at}
use Rattle.ride.specs.Closing.{close, leave}
use Rattle.ride.specs.Step.{close_behind, missed_lines, after_missed, go_on, treat, step}
use Rattle.ride.specs.declared.Line.{Line}
use Rattle.ride.specs.declared.Lines.{Lines}
use Rattle.ride.specs.declared.Linking.{Linking}
use Rattle.ride.specs.declared.Mark.{Mark}
use Rattle.ride.specs.declared.Passed.{Passed}
use Rattle.std.specs.Prelude.{Ok}
use Rattle.ride.specs.declared.Ride.{Ride}
use Rattle.demands.specs.Table.{bad_gap}
use Rattle.demands.specs.ByContract.{StepOf, JudgeGroup}
use Rattle.demands.specs.Steps.{OneStep, LeavesBehind}
use Rattle.demands.specs.Ride.{IsMarked, first as marked_first, early, good, late}

-- The signal of document 01's ride as it stands open after two records.
abbrev pub its_group : Group
its_group =
    record {
      kept =
          record { place = 1000; heard = Heard.Words 0x17 0x8E 0x5A }
          ∷ record { place = 1030; heard = Heard.Words 0x99 0x2B 0x4D }
          ∷ no_balise ∷ no_balise ∷ no_balise ∷ [];
      count = 2;
      last = 1030;
    }

-- "00001770 03 00 00 00"
abbrev last : List ℕ
last = 0x00 ∷ 0x00 ∷ 0x17 ∷ 0x70 ∷ 0x03 ∷ 0x00 ∷ 0x00 ∷ 0x00 ∷ []

-- The record's step, from this linking on, with this mark: the signal's line, and that the next one
-- is missed.
abbrev last_step : Linking → Mark → OneStep
last_step linking mark =
    record {
      ride = record { odometer = 1030; group = its_group; known = record { linking = linking; main = Told.Unknown; target = Told.Unknown; number = Number.None } };
      gap = 40;
      bytes = last;
      odometer = 6000;
      passed = Passed.Position;
      answer =
          record {
            ride = record { odometer = 6000; group = no_group; known = record { linking = Linking.Unset; main = Told.Kmh 130; target = Told.Kmh 80; number = Number.None } };
            closed = its_group;
            report =
                Ok
                (Lines.Two (Line.Group (record { place = 1000; direction = Direction.Present; kind = Kind.Signal; mark = mark; number = Number.None })) (Line.Missed 5800));
          };
    }

-- What the group says.
abbrev pub its_message : Message
its_message =
    record {
      direction = Direction.Present;
      kind = Kind.Signal;
      place = 1000;
      ay = 8;
      az = 5;
      number = Number.None;
      content = Content.Signal 4000 false (Told.Kmh 130) (Told.Kmh 80);
    }

-- The contract of `step` allows that answer.
abbrev Answered : Linking → Mark → Type 0
Answered linking mark = StepOf (last_step linking mark).ride 40 last (last_step linking mark).answer

-- Where the contract allows it, the record leaves the group behind.
behind : (linking : Linking) (mark : Mark) → Answered linking mark → LeavesBehind (last_step linking mark)
unfolding odometer_of passed_of in_order_meant check_record bad_gap
behind linking mark called =
    record {
      accepts = record { called = called; good_gap = refl; accepted = (((last_step linking mark).ride, (last, tt)), refl) };
      is_open = refl;
      exceeds = omega arith;
    }

-- What the theorem `closes` asks.
abbrev Met : Linking → Mark → Type 0
Met linking mark = LeavesBehind (last_step linking mark) × JudgeGroup its_group (Ok its_message) × IsMarked linking its_message mark

-- what the step was lent
abbrev lent : Linking → Ride × (ℕ × (List ℕ × Unit {0}))
lent linking = ((last_step linking Mark.First).ride, (40, (last, tt)))

-- D = 500: 4D is 5 x 400, 6D is 5 x 600. At 399 early, at 400 and 600 good, at 601 late; with no
-- linking first.
pub its_answers : JudgeGroup its_group (Ok its_message) × Answered Linking.Unset Mark.First × Answered (Linking.Set 500 601) Mark.Early
    × Answered (Linking.Set 500 600) Mark.Good × Answered (Linking.Set 500 400) Mark.Good × Answered (Linking.Set 500 399) Mark.Late
unfolding read_word is_code even count covers figure onwards is_check exchanged other word short_word long_word telegram balises read_all fits first fit_row_meant fit_rows how_many fit_in fitting distance signal_speed target_figure route_speed distance_of signal_distance number_of judge_read judge odometer_of passed_of in_order_meant check_record no_group nothing_known fresh_ride join take_up mark_at close leave close_behind missed_lines after_missed go_on treat step bad_gap
its_answers = (
  ((its_group, tt), refl),
  (lent Linking.Unset, refl),
  (lent (Linking.Set 500 601), refl),
  (lent (Linking.Set 500 600), refl),
  (lent (Linking.Set 500 400), refl),
  (lent (Linking.Set 500 399), refl),
)

first_met : Met Linking.Unset Mark.First
first_met = (behind Linking.Unset Mark.First its_answers.1, its_answers.0, marked_first (refl, refl) refl)

early_met : Met (Linking.Set 500 601) Mark.Early
early_met = (behind (Linking.Set 500 601) Mark.Early its_answers.2, its_answers.0, early 500 601 (refl, refl) refl (omega arith))

good_met : Met (Linking.Set 500 600) Mark.Good × Met (Linking.Set 500 400) Mark.Good
good_met = (
  (behind (Linking.Set 500 600) Mark.Good its_answers.3, its_answers.0, good 500 600 (refl, refl) refl (omega arith) (omega arith)),
  (behind (Linking.Set 500 400) Mark.Good its_answers.4, its_answers.0, good 500 400 (refl, refl) refl (omega arith) (omega arith)),
)

late_met : Met (Linking.Set 500 399) Mark.Late
late_met = (behind (Linking.Set 500 399) Mark.Late its_answers.5, its_answers.0, late 500 399 (refl, refl) refl (omega arith))
