-- One way in full, computed.
-- Assumes nothing.
use Prim.Native.Nat.{ℕ}
use mathlib.Core.Path.{◌≡◌, refl, ap, ◌∙◌}
use mathlib.Core.List.{List, [], ◌∷◌}
use Rattle.words.specs.Answer.{gives}
use Rattle.words.specs.Bits.{word}
use Rattle.words.specs.Plain.{is_check, covers, count, even, is_code, onwards, figure, carriers, carried, made_even, plain_word}
use Rattle.words.specs.Code.{other, exchanged, read_word, sent}
use Rattle.telegram.specs.Stretch.{bits_at, inside}
use Rattle.telegram.specs.Sync.{differing, is_good}
use Rattle.telegram.specs.Telegram.{short_word, long_word, telegram}
use Rattle.telegram.specs.Place.{are_syncs, words_at, is_place, from, those, places}
use Rattle.telegram.specs.Survey.{same_words, all_as}
use Rattle.telegram.specs.declared.Telegram.{Telegram}
use Rattle.contact.specs.History.{after, zeroes_of, zeroes, opens, closes}
use Rattle.contact.specs.Contacts.{contact, quiet, contacts, contacts_from, from_start}
use Rattle.contact.specs.Judge.{ones_at_end, all_zero, is_marker, read, judgement, judge as judge_contact}
use Rattle.contact.specs.declared.Judged.{Judged}
use Rattle.telegram.specs.Spelling.{asked, too_large, has_fifteen, words_of, spell}
use Rattle.balise_writer.specs.Write.{telegrams, in_range, bytes_of, write}
use Rattle.recorder.specs.Record.{content_of, at_odometer, record_of_meant}
use Rattle.group.specs.Balise.{balises, read_all}
use Rattle.group_rows.specs.Row.{fits, first, fit_row_meant, fit_rows}
use Rattle.group_rows.specs.Rows.{how_many, fit_in}
use Rattle.group.specs.Distance.{distance}
use Rattle.group.specs.Speed.{signal_speed, target_figure}
use Rattle.group_rows.specs.Fitting.{route_speed, fitting}
use Rattle.group.specs.Judge.{distance_of, signal_distance, judge_read, judge}
use Rattle.group.specs.Numbers.{number_of}
use Rattle.ride.specs.Record.{odometer_of, passed_of, in_order_meant, check_record}
use Rattle.ride.specs.State.{no_group, nothing_known, fresh_ride}
use Rattle.ride.specs.Joining.{join, take_up}
use Rattle.ride.specs.Linking.{mark_at}
use Rattle.ride.specs.Closing.{close, leave}
use Rattle.ride.specs.Step.{close_behind, missed_lines, after_missed, go_on, treat, end}
use Rattle.ride.specs.Over.{ride_over}
use Rattle.ride_text.specs.Text.{codes, digits, decimal, seen, text_with, text_of}
use Rattle.chain_laws.specs.InFull.{room, cable, record_a, record_b, ridden, InFull}

-- The bytes of the line.
abbrev bytes : List ℕ
bytes =
    255 ∷ 255 ∷ 114 ∷ 23 ∷ 142 ∷ 90 ∷ 13 ∷ 23 ∷ 142 ∷ 90 ∷ 114 ∷ 23 ∷ 142 ∷ 90 ∷ 13 ∷ 23 ∷ 142 ∷ 90 ∷ 114 ∷ 23 ∷ 142 ∷ 90 ∷ 13 ∷ 23 ∷ 142 ∷ 90 ∷ 114 ∷ 255 ∷ 255 ∷ 114 ∷ 153 ∷ 43 ∷ 77 ∷ 13 ∷ 153 ∷ 43 ∷ 77 ∷ 114 ∷ 153 ∷ 43 ∷ 77 ∷ 13 ∷ 153 ∷ 43 ∷ 77 ∷ 114 ∷ 153 ∷ 43 ∷ 77 ∷ 13 ∷ 153 ∷ 43 ∷ 77 ∷ 114 ∷ 255 ∷ 255 ∷ []

both_written : ((write 1 8 5 0x72 0x0d 6 room).answer ≡ gives 25) × ((write 9 2 4 0x72 0x0d 6 room).answer ≡ gives 25)
unfolding write spell asked too_large has_fifteen words_of bytes_of in_range telegrams is_good differing sent exchanged other word plain_word made_even carried carriers count covers is_check
both_written = (refl, refl)

cable_is : cable ≡ bytes
unfolding cable write spell asked too_large has_fifteen words_of bytes_of in_range telegrams is_good differing sent exchanged other word plain_word made_even carried carriers count covers is_check
cable_is = refl

both_detected : contacts_from bytes (from_start 0 448)
    ≡ contact 28 195 (record { next = 224; left = 224; history = 29439 }) (contact 246 192 (record { next = 439; left = 9; history = 47487 }) quiet)
unfolding contacts_from from_start contacts inside after zeroes_of zeroes opens closes
both_detected = refl

first_judged : judge_contact bytes 28 195 0x72 0x0d ≡ gives (read (gives (Telegram.Figures 1 8 5)) 48 5)
unfolding judge_contact judgement is_marker ones_at_end all_zero same_words all_as is_good differing inside places those from is_place are_syncs words_at bits_at telegram short_word long_word read_word is_code even count covers exchanged other word figure onwards is_check
first_judged = refl

second_judged : judge_contact bytes 246 192 0x72 0x0d ≡ gives (read (gives (Telegram.Figures 9 2 4)) 264 5)
unfolding judge_contact judgement is_marker ones_at_end all_zero same_words all_as is_good differing inside places those from is_place are_syncs words_at bits_at telegram short_word long_word read_word is_code even count covers exchanged other word figure onwards is_check
second_judged = refl

both_recorded : (record_of_meant 1000 (Judged.Read (Telegram.Figures 1 8 5) 48 5) ≡ gives record_a) × (record_of_meant 1030 (Judged.Read (Telegram.Figures 9 2 4) 264 5) ≡ gives record_b)
unfolding record_of_meant content_of at_odometer spell asked too_large has_fifteen words_of sent exchanged other word plain_word made_even carried carriers count covers is_check
both_recorded = (refl, refl)

both_listed : (text_of ridden.lines ≡ []) × (text_of (end ridden.ride).lines ≡ codes "1000 present signal first\n")
unfolding ridden end read_word is_code even count covers figure onwards is_check exchanged other word short_word long_word telegram balises read_all fits first fit_row_meant fit_rows how_many fit_in fitting distance signal_speed target_figure route_speed distance_of signal_distance number_of judge_read judge odometer_of passed_of in_order_meant check_record no_group nothing_known fresh_ride join take_up mark_at close leave close_behind missed_lines after_missed go_on treat ride_over text_of text_with seen decimal digits
both_listed = (refl, refl)

pub in_full : InFull
in_full =
    record {
      written = both_written;
      detected = ap (λ (b : List ℕ). contacts_from b (from_start 0 448)) cable_is ∙ both_detected;
      judged_so = (
        ap (λ (b : List ℕ). judge_contact b 28 195 0x72 0x0d) cable_is ∙ first_judged,
        ap (λ (b : List ℕ). judge_contact b 246 192 0x72 0x0d) cable_is ∙ second_judged,
      );
      recorded = both_recorded;
      listed = both_listed;
    }
