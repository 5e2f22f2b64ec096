-- The hypotheses of the theorems on numbers are met: the end of a ride closes a signal with its
-- number balise after it, in either direction.
-- Assumes nothing.
use Prim.Native.Nat.{ℕ}
use mathlib.Core.Path.{refl}
use mathlib.Core.Bool.{false}
use mathlib.Core.List.{[], ◌∷◌}
use Rattle.std.specs.Prelude.{Ok}
use Rattle.words.specs.Bits.{word}
use Rattle.words.specs.Plain.{is_check, covers, count, even, is_code, onwards, figure}
use Rattle.words.specs.Code.{other, exchanged, read_word}
use Rattle.telegram.specs.Telegram.{short_word, long_word, telegram}
use Rattle.group_rows.specs.Row.{fits, first, fit_row_meant, fit_rows}
use Rattle.group_rows.specs.Rows.{how_many, fit_in}
use Rattle.group_rows.specs.Fitting.{fitting}
use Rattle.group_rows.specs.declared.Direction.{Direction}
use Rattle.group_rows.specs.declared.Kind.{Kind}
use Rattle.group.specs.Balise.{balises, read_all}
use Rattle.group.specs.Distance.{distance}
use Rattle.group.specs.Speed.{signal_speed, target_figure}
use Rattle.group.specs.Numbers.{number_of}
use Rattle.group.specs.Judge.{distance_of, signal_distance, judge_read, judge}
use Rattle.group.specs.declared.Content.{Content}
use Rattle.group.specs.declared.Group.{Group}
use Rattle.group.specs.declared.Message.{Message}
use Rattle.group.specs.declared.Number.{Number}
use Rattle.group.specs.declared.Told.{Told}
use Rattle.ride.specs.State.{no_group}
use Rattle.ride.specs.Closing.{close}
use Rattle.ride.specs.Step.{end}
use Rattle.ride.specs.declared.Ended.{Ended}
use Rattle.ride.specs.declared.Known.{Known}
use Rattle.ride.specs.declared.Lines.{Lines}
use Rattle.ride.specs.declared.Linking.{Linking}
use Rattle.ride.specs.declared.Mark.{Mark}
use Rattle.ride.specs.declared.Ride.{Ride}
use Rattle.demands.specs.ByContract.{JudgeGroup, EndOf}
use Rattle.demands.specs.Ride.{IsNumbered, of_signal, line_of}
use Rattle.demands.specs.RowCases.{f, N, group_of}

-- A signal of number 1612 for the ride's direction, and one for the other, each with its message.
abbrev ahead : Group
ahead = group_of (f 1 8 5 ∷ f 9 2 4 ∷ N ∷ [])

abbrev back : Group
back = group_of (f 9 2 4 ∷ f 1 8 5 ∷ N ∷ [])

abbrev said : Direction → ℕ → Content → Message
said direction place content =
    record { direction = direction; kind = Kind.Signal; place = place; ay = 8; az = 5; number = Number.Figure 1612; content = content }

abbrev ahead_said : Message
ahead_said = said Direction.Present 1000 (Content.Signal 4000 false (Told.Kmh 130) (Told.Kmh 80))

abbrev back_said : Message
back_said = said Direction.Opposite 1030 Content.Nothing

-- What is known before: the last present signal had the number 17.
abbrev before : Known
before = record { linking = Linking.Unset; main = Told.Kmh 70; target = Told.Unknown; number = Number.Figure 17 }

abbrev open_ride : Group → Ride
open_ride g = record { odometer = 1060; group = g; known = before }

-- What the end answers: the line of this message with this mark, and what is known then.
abbrev ended : Group → Message → Mark → Known → Ended
ended g m mark known =
    record {
      ride = record { odometer = 1060; group = no_group; known = known };
      closed = g;
      lines = Lines.One (line_of m mark (Number.Figure 1612));
    }

-- The present one sets the number.
ahead_met : JudgeGroup ahead (Ok ahead_said) × IsNumbered ahead_said (Number.Figure 1612)
    × EndOf (open_ride ahead)
    (ended ahead ahead_said Mark.First (record { linking = Linking.Set 4000 1000; main = Told.Kmh 130; target = Told.Kmh 80; number = Number.Figure 1612 }))
unfolding read_word is_code even count covers figure onwards is_check exchanged other word short_word long_word telegram balises read_all fits first fit_row_meant fit_rows how_many fit_in fitting distance signal_speed target_figure distance_of signal_distance number_of judge_read judge no_group close end
ahead_met = (((ahead, tt), refl), of_signal refl, ((open_ride ahead, tt), refl))

-- The opposite one shows its own and leaves the state's.
back_met : JudgeGroup back (Ok back_said) × IsNumbered back_said (Number.Figure 1612)
    × EndOf (open_ride back) (ended back back_said Mark.Unmarked before)
unfolding read_word is_code even count covers figure onwards is_check exchanged other word short_word long_word telegram balises read_all fits first fit_row_meant fit_rows how_many fit_in fitting distance signal_speed target_figure distance_of signal_distance number_of judge_read judge no_group close end
back_met = (((back, tt), refl), of_signal refl, ((open_ride back, tt), refl))
