-- Document 01's ride in full: computed once, and then handed to the contracts.
-- Assumes nothing.
use Prim.Native.Nat.{ℕ}
use native.Mathlib.Omega.{arith}
use mathlib.Core.Path.{◌≡◌, refl, sym, ap, ◌∙◌}
use mathlib.Core.List.{List, [], ◌∷◌, ◌++◌}
use lib.ListN.{length, drop}
use Rattle.words.specs.Bits.{word}
use Rattle.words.specs.Plain.{is_check, covers, count, even, is_code, onwards, figure}
use Rattle.words.specs.Code.{other, exchanged, read_word}
use Rattle.telegram.specs.Telegram.{short_word, long_word, telegram}
use Rattle.group.specs.Balise.{balises, read_all}
use Rattle.group_rows.specs.Row.{fits, first, fit_row_meant, fit_rows}
use Rattle.group_rows.specs.Rows.{how_many, fit_in}
use Rattle.group.specs.Distance.{distance}
use Rattle.group.specs.Speed.{signal_speed, target_figure}
use Rattle.group_rows.specs.Fitting.{route_speed, fitting}
use Rattle.group.specs.Judge.{distance_of, signal_distance, judge_read, judge}
use Rattle.group_rows.specs.declared.Direction.{Direction}
use Rattle.group_rows.specs.declared.Kind.{Kind}
use Rattle.group.specs.Numbers.{number_of}
use Rattle.group.specs.declared.Number.{Number}
use Rattle.group.specs.declared.Told.{Told}
use Rattle.settings.specs.declared.Store.{Store}
use Rattle.ride.specs.Record.{odometer_of, passed_of, in_order_meant, check_record}
use Rattle.ride.specs.State.{no_group, nothing_known, fresh_ride}
use Rattle.ride.specs.Joining.{join, take_up}
use Rattle.ride.specs.Linking.{mark_at}
use Rattle.ride.specs.Closing.{close, leave}
use Rattle.ride.specs.Step.{close_behind, missed_lines, after_missed, go_on, treat, End, end}
use Rattle.ride.specs.Over.{first_records, records, Ridden, ride_over, Run, run}
use Rattle.ride.proofs.Under.{run_through}
use Rattle.ride.specs.declared.Known.{Known}
use Rattle.ride.specs.declared.Line.{Line}
use Rattle.ride.specs.declared.Linking.{Linking}
use Rattle.ride.specs.declared.Mark.{Mark}
use Rattle.ride.specs.declared.Ran.{Ran}
use Rattle.ride.specs.declared.Ride.{Ride}
use Rattle.ride_text.specs.Text.{digits, decimal, seen, text_with, text_of}
use Rattle.demands.specs.Table.{bad_length}
use Rattle.demands.specs.ByContract.{Fresh, RunOver}
use Rattle.demands.specs.Output.{Forty, ridden, one_ride, its_lines, OneRide}
use Rattle.demands.proofs.Common.OneVersion.{forty_so}
use Rattle.demands.proofs.Demand2.Output.{all_text, listed_so, output_whole}

-- "1000 present signal first", "5800 missed"; "Main speed 130, target 80"
abbrev in_full : Ridden
in_full =
    record {
      lines = Line.Group (record { place = 1000; direction = Direction.Present; kind = Kind.Signal; mark = Mark.First; number = Number.None }) ∷ Line.Missed 5800 ∷ [];
      ride = record { odometer = 6000; group = no_group; known = record { linking = Linking.Unset; main = Told.Kmh 130; target = Told.Kmh 80; number = Number.None } };
    }

ridden_is : ridden one_ride ≡ in_full
unfolding read_word is_code even count covers figure onwards is_check exchanged other word short_word long_word telegram balises read_all fits first fit_row_meant fit_rows how_many fit_in fitting distance signal_speed target_figure route_speed distance_of signal_distance number_of judge_read judge odometer_of passed_of in_order_meant check_record no_group nothing_known fresh_ride join take_up mark_at close leave close_behind missed_lines after_missed go_on treat first_records ride_over
ridden_is = refl

text_is : text_of in_full.lines ≡ its_lines
unfolding text_of text_with seen decimal digits
text_is = refl

all_text_law : all_text one_ride ≡ its_lines
all_text_law = ap (λ (r : Ridden). text_of r.lines) ridden_is ∙ text_is

ended_is : (end in_full.ride).lines ≡ []
unfolding end leave no_group
ended_is = refl

none_more : (end (ridden one_ride).ride).lines ≡ []
none_more = ap (λ (r : Ridden). (end r.ride).lines) ridden_is ∙ ended_is

-- the run's ride is the ride over the records
run_is : (store : Store) (f : Ride) (r : Ran) → Forty store → Fresh f → RunOver f store one_ride r → r.ride ≡ in_full.ride
run_is store f r forty fresh c =
    let gap = forty_so store forty in
    ap (λ (s : Run). s.ride) (c.4 ∙ ap (run f store) c.3 ∙ ap (λ (g : Ride). run g store one_ride) fresh.1 ∙ sym (run_through fresh_ride store one_ride gap.0 refl))
    ∙ ap (λ (gaps : ℕ → ℕ). (ride_over gaps fresh_ride 1 (records one_ride)).ride) gap.1
    ∙ ap (λ (v : Ridden). v.ride) ridden_is

pub one_ride_law : OneRide
unfolding bad_length text_of
one_ride_law = record {
  writes = output_whole one_ride refl ∙ ap (λ (t : List ℕ). t ++ text_of (end (ridden one_ride).ride).lines) all_text_law ∙ ap (λ (ls : List Line). its_lines ++ text_of ls) none_more;
  known = λ store f r forty fresh c.
      let is : r.ride.known ≡ in_full.ride.known = ap (λ (g : Ride). g.known) (run_is store f r forty fresh c) in
      (ap (λ (k : Known). k.main) is, ap (λ (k : Known). k.target) is, ap (λ (k : Known). k.linking) is, ap (λ (k : Known). k.number) is);
  listed = λ store f l before after forty fresh enough c.
      (listed_so store f l one_ride before after forty refl (omega arith) enough fresh c).2 ∙ ap (λ (t : List ℕ). t ++ drop (length t) before) all_text_law;
  no_more = λ store f r e forty fresh c ended. ap (λ (v : End). v.lines) ended.1 ∙ ap (λ (g : Ride). (end g).lines) (run_is store f r forty fresh c) ∙ ended_is;
}
